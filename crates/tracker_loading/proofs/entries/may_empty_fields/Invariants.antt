use Rattle.std.proofs.Common.{drop}
use Rattle.std.specs.Prelude.{◌↔◌}
use Rattle.tracker_rows.specs.Rules.{MayEmptyFields}
use Rattle.tracker_loading.proofs.entries.may_empty_fields.Given as goal

abbrev pub invariant-loop-entry : goal.invariant-loop-entry
invariant-loop-entry l = MayEmptyFields (drop l.entry-index l.entries) ↔ MayEmptyFields l.entries
