use Rattle.rank_strings.specs.Gap.{HasNoGapBefore}
use Rattle.rank_strings.proofs.gap.find_gap.Given as goal

abbrev pub invariant-loop-depth : goal.invariant-loop-depth
invariant-loop-depth l = HasNoGapBefore l.low l.high l.depth
