-- What comes into a set of issues and what goes out of it. A set is told by a list that says of each issue, by its number from 1,
-- whether it is in the set; an issue behind the end of the list isn't.
use Rattle.std.specs.Prelude.{ℕ, ◌+◌, ◌-◌, ◌&&◌, Bool, true, false, not, List, [], ◌∷◌, ◌++◌, map, slice_index_or, if◌then◌else◌}
use Rattle.field_values.specs.declared.numbers.IssueNo.{IssueNo}
use Rattle.move_feeds.specs.declared.moves.Change.{Change}
use Rattle.move_feeds.specs.declared.moves.Move.{Move}

-- an entry of an issue, or an exit
abbrev pub change : Bool → IssueNo → Change
change entered issue = record { issue = issue; entered = entered }

abbrev pub entry : IssueNo → Change
entry issue = change true issue

abbrev pub exit : IssueNo → Change
exit issue = change false issue

-- the issues that the one set has and the other hasn't, by number, where the lists begin with the issue of this number
abbrev pub lacking_from : ℕ → List Bool → List Bool → List IssueNo
lacking_from n [] those = []
lacking_from n (this ∷ these) [] =
    if this then record { 0 = n } ∷ lacking_from (n + 1) these [] else lacking_from (n + 1) these []
lacking_from n (this ∷ these) (that ∷ those) =
    if this && not that then record { 0 = n } ∷ lacking_from (n + 1) these those
    else lacking_from (n + 1) these those

abbrev pub lacking : List Bool → List Bool → List IssueNo
lacking these those = lacking_from 1 these those

-- at a place the one has the issue and the other hasn't
abbrev pub lacks_at : List Bool → List Bool → ℕ → Bool
lacks_at these those place =
    slice_index_or these place false && not (slice_index_or those place false)

-- a set comes to be another one: what goes out, by number, and then what comes in, by number
abbrev pub changes : List Bool → List Bool → List Change
changes before now = map exit (lacking before now) ++ map entry (lacking now before)

-- the issue of a number comes in, or goes out, or stays
abbrev pub one_change : ℕ → Bool → Bool → List Change
one_change issue was is =
    if was then (if is then [] else exit (record { 0 = issue }) ∷ [])
    else (if is then entry (record { 0 = issue }) ∷ [] else [])

-- changes with their numbers, from this one on
abbrev pub numbered : ℕ → List Change → List Move
numbered n [] = []
numbered n (c ∷ cs) =
    record { number = n; issue = c.issue; entered = c.entered } ∷ numbered (n + 1) cs
