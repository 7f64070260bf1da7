use Rattle.std.proofs.Common.{◌≡◌, drop}
use Rattle.std.specs.Str.{bytes_eq}
use Rattle.short_texts.proofs.short_text.are_same.Given as goal

-- what is left of them is the same where they are
abbrev pub invariant-loop-at : goal.invariant-loop-at
invariant-loop-at l =
    bytes_eq l.bytes l.other ≡ bytes_eq (drop l.at l.bytes) (drop l.at l.other)
