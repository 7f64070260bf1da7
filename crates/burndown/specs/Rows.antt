-- A worked list of events, computed by the definitions: an issue of 3 points in a sprint that begins; 5 points; started; done; opened again.
use Rattle.std.specs.Prelude.{ℕ, ◌≡◌, ℤ, pos, negsuc, Bool, true, false, List, [], ◌∷◌, Option, Some, None}
use Rattle.std.proofs.Common.{refl}
use Rattle.burndown.specs.declared.share.Share.{Share}
use Rattle.burndown.specs.declared.share.BurnRow.{BurnRow}
use Rattle.burndown.specs.Group.{group_of}
use Rattle.burndown.specs.Event.{Event, Changes, Begins, Ends}
use Rattle.burndown.specs.Remaining.{remaining, start, rows}

-- the share of an issue in sprint 1
abbrev in_sprint_1 : ℤ → Bool → Share
in_sprint_1 points done = record { sprint = Some (record { 0 = 1 }); points = points; done = done }

-- a change of issue 1 at the moment 0
abbrev change_of : ℕ → Option Share → Share → Event
change_of change before after = Changes (group_of change 0 (record { 0 = 1 }) before after)

abbrev row_of : ℕ → ℤ → ℤ → BurnRow
row_of change by left =
    record { at = 0; change = change; issue = record { 0 = 1 }; by = by; left = left }

abbrev pub until_reopened : List Event
until_reopened =
    change_of 5 (Some (in_sprint_1 (pos 5000) true)) (in_sprint_1 (pos 5000) false) ∷
    change_of 4 (Some (in_sprint_1 (pos 5000) false)) (in_sprint_1 (pos 5000) true) ∷
    change_of 3 (Some (in_sprint_1 (pos 5000) false)) (in_sprint_1 (pos 5000) false) ∷
    change_of 2 (Some (in_sprint_1 (pos 3000) false)) (in_sprint_1 (pos 5000) false) ∷
    Begins 1 ∷
    change_of 1 None (in_sprint_1 (pos 3000) false) ∷ []

pub remaining-until_reopened : remaining (1 ∷ []) 1 until_reopened ≡ pos 5000
remaining-until_reopened = refl

pub start-until_reopened : start (1 ∷ []) 1 until_reopened ≡ pos 3000
start-until_reopened = refl

pub rows-until_reopened : rows (1 ∷ []) 1 until_reopened
    ≡ row_of 2 (pos 2000) (pos 5000) ∷ row_of 4 (negsuc 4999) (pos 0)
    ∷ row_of 5 (pos 5000) (pos 5000) ∷ []
rows-until_reopened = refl

-- the sprint ends, and the issue has 1 point from then on: the sprint's burndown stays
abbrev pub changed_after_the_end : List Event
changed_after_the_end =
    change_of 6 (Some (in_sprint_1 (pos 5000) false)) (in_sprint_1 (pos 1000) false) ∷ Ends 1
    ∷ until_reopened

pub remaining-changed_after_the_end : remaining (1 ∷ []) 1 changed_after_the_end ≡ pos 5000
remaining-changed_after_the_end = refl
