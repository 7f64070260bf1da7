use Rattle.std.proofs.Common.{◌≡◌}
use Rattle.rank_strings.specs.Gap.{padded}
use Rattle.rank_strings.proofs.gap.digits_in_gap.Given as goal

abbrev pub invariant-loop-i : goal.invariant-loop-i
invariant-loop-i l = l.further.items ≡ padded l.i l.low
