-- What is written beside the replies where a status tells something.
use Rattle.std.specs.Prelude.{ℕ, List, [], ◌∷◌, ◌++◌, codes, decimal}
use Rattle.std.specs.Fmt.{signed_decimal}
pub use Rattle.status_texts.specs.Texts.{kept_line, line_of, named_line, setup_line}
use Rattle.tracker_import.specs.declared.load.LoadSummary.{LoadSummary}

-- the number of a bad record, the header being 0
abbrev pub csv_line : ℕ → List ℕ
csv_line number = codes "csv " ++ (decimal number ++ 10 ∷ [])

-- what a load comes to: its calls and those that were refused, the members of its filter, what its sprint has left, and the bucket of ranks
abbrev pub load_line : LoadSummary → List ℕ
load_line s =
    codes "calls " ++ (decimal s.calls
    ++ (codes " refused " ++ (decimal s.refused
    ++ (codes " members " ++ (decimal s.members
    ++ (codes " left " ++ (signed_decimal s.left
    ++ (codes " bucket " ++ (decimal s.bucket ++ 10 ∷ [])))))))))
