use Rattle.std.proofs.Common.{rules, not}
use Rattle.std.specs.Prelude.{int_lt}
use Rattle.std.proofs.lemmas.List.Sorted.{IsPartitionPoint-from_clause}
use Rattle.relative_dates.specs.declared.calendar.OffsetStep.{OffsetStep}
use Rattle.relative_dates.proofs.OffsetLemmas.{partitioned, has_come, has_not_come}
use Rattle.relative_dates.proofs.calendar.steps_by.Goals as goal

pub returns-clause-come : goal.returns-clause-come
returns-clause-come c =
    let point = IsPartitionPoint-from_clause (λ (step : OffsetStep). not (int_lt c.args.at step.from)) _ _ c.partition_point.ensures.partitioned (partitioned _ c.args.at c.requires) (λ a r q k. search rules) in
    λ k d low high. has_come _ _ (point.0 k d low high)

pub returns-clause-to_come : goal.returns-clause-to_come
returns-clause-to_come c =
    let point = IsPartitionPoint-from_clause (λ (step : OffsetStep). not (int_lt c.args.at step.from)) _ _ c.partition_point.ensures.partitioned (partitioned _ c.args.at c.requires) (λ a r q k. search rules) in
    λ k d low high. has_not_come _ _ (point.1 k d low high)
