use Rattle.std.proofs.Common.{◌≡◌, length}
use Rattle.std.specs.Cmp.Lexicographic.{slice_cmp}
use Rattle.std.specs.Ordering.{nat_cmp}
use Rattle.std.specs.Str.{str_to_ascii_lowercase}
use Rattle.name_index.proofs.folded.cmp_bytes.Given as goal

abbrev pub invariant-loop-first : goal.invariant-loop-first
invariant-loop-first l =
    slice_cmp nat_cmp (str_to_ascii_lowercase l.one) (str_to_ascii_lowercase l.other) ≡ slice_cmp nat_cmp (str_to_ascii_lowercase l.left) (str_to_ascii_lowercase l.right)

abbrev pub decreases-loop-first : goal.decreases-loop-first
decreases-loop-first l = length l.left
