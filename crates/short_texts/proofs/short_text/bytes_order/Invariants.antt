use Rattle.std.proofs.Common.{◌≡◌, drop, nat_cmp}
use Rattle.std.specs.Cmp.Lexicographic.{slice_cmp}
use Rattle.short_texts.proofs.short_text.bytes_order.Given as goal

-- what is left of them stands as they do
abbrev pub invariant-loop-at : goal.invariant-loop-at
invariant-loop-at l =
    slice_cmp nat_cmp l.bytes l.other
    ≡ slice_cmp nat_cmp (drop l.at l.bytes) (drop l.at l.other)
