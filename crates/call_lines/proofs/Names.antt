-- Calls by their names.
use Rattle.std.proofs.Common.{◌≡◌, ℕ, List, true, ap}
use Rattle.std.specs.Str.{bytes_eq}
use Rattle.std.proofs.lemmas.Slice.Eq.{bytes_eq-Decides}
use Rattle.call_lines.specs.Asked.{kind_named}

-- the same name is that of the same call
pub kind_of_same : (name known : List ℕ) → bytes_eq name known ≡ true → kind_named name ≡ kind_named known
kind_of_same name known same = ap kind_named ((bytes_eq-Decides name known).0 same)
