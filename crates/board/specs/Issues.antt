-- The issues of an order without their ranks, and how a move changes their list.
use Rattle.std.specs.Prelude.{ℕ, suc, ◌≡◌, ◌+◌, ◌==◌, List, [], ◌∷◌, length, map, insert, Option, if◌then◌else◌}
use Rattle.field_values.specs.declared.numbers.IssueNo.{IssueNo}
use Rattle.board.specs.declared.place.Place.{Place}
use Rattle.board.specs.declared.place.Place.TheVariants.{Before, After, Last}
use Rattle.board.specs.Order.{Pair, places_before, place_in, beside}
use Rattle.board.specs.Place.{gap, stands_at, AreNamed}

-- the issues, from the top of the board down
abbrev pub issues_in : List Pair → List IssueNo
issues_in ps = map (λ p. p.1) ps

-- how many issues stand before this one; all of them where it isn't among them
abbrev pub issues_before : List IssueNo → ℕ → ℕ
issues_before [] issue = 0
issues_before (i ∷ is) issue = if i.0 == issue then 0 else suc (issues_before is issue)

-- all issues but this one
abbrev pub other_issues : ℕ → List IssueNo → List IssueNo
other_issues issue [] = []
other_issues issue (i ∷ is) =
    if i.0 == issue then other_issues issue is else i ∷ other_issues issue is

-- how many issues stand above a place
abbrev pub issues_above : List IssueNo → Place → ℕ
issues_above rest (Before other) = issues_before rest other.0
issues_above rest (After other) = issues_before rest other.0 + 1
issues_above rest Last = length rest

-- the issue taken out, and put in at the place among the others; a new issue is put in alone
abbrev pub issues_moved : IssueNo → Place → List IssueNo → List IssueNo
issues_moved issue place is =
    insert (other_issues issue.0 is) (issues_above (other_issues issue.0 is) place) issue

-- places are the same in two orders, whatever their ranks
pub record HaveSamePlaces (ps qs : List Pair) : Type 0 where
  pub count : length ps ≡ length qs
  pub before : (issue : ℕ) → places_before ps issue ≡ places_before qs issue
  pub places : (issue : ℕ) → place_in ps issue ≡ place_in qs issue
  pub neighbours : (place : Option ℕ) → beside ps place ≡ beside qs place
  pub gaps : (asked : Option IssueNo) (place : Place) → gap ps asked place ≡ gap qs asked place
  pub stands : (asked : Option IssueNo) (place : Place)
      → stands_at ps asked place ≡ stands_at qs asked place
  pub named : (asked : Option IssueNo) (place : Place) → AreNamed ps asked place
      → AreNamed qs asked place
