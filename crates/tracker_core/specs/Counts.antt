-- How often exactly a call that is answered has asked whether a query holds of an issue.
use Rattle.std.specs.Prelude.{◌≡◌, ◌+◌, ◌≤◌, ℕ, Bool, true, false, length}
use Rattle.tracker_calls.specs.declared.call.Call.{Call}
use Rattle.tracker_calls.specs.declared.call.Call.TheVariants as call
use Rattle.tracker_machine.specs.Effect.{Effect}
use Rattle.tracker_machine.specs.Effect.Effect.{NewFilter, NewMembers}
use Rattle.tracker_machine.specs.Machine.{Machine}
use Rattle.tracker_machine.specs.Meaning.{Meaning, cost}
use Rattle.tracker_machine.specs.Meaning.Meaning.{Makes}

-- a search and a list ask each issue at most, since they ask none that their caller may not browse
abbrev pub searches : Call → Bool
searches (call.Search jql part) = true
searches (call.List jql fields part) = true
searches c = false

-- before anything is kept, a filter that is saved asks each issue once, and of the others only a search and a list ask any
abbrev pub asked_before : Call → Machine → ℕ
asked_before (call.SaveFilter name jql) m = length m.histories
asked_before c m = 0

-- as an effect is carried out so often is asked, where so many kept verdicts end up to a moment: just what it costs; but a saved filter has
-- asked before, and as a group comes to other members no filter asks that doesn't ask for members
abbrev pub AsksAsOften : (ℕ → ℕ) → Effect → Machine → ℕ → Type 0
AsksAsOften ended (NewFilter f) m count = count ≡ 0
AsksAsOften ended (NewMembers group members) m count =
    count ≤ cost ended (NewMembers group members) m
AsksAsOften ended e m count = count ≡ cost ended e m

-- the count of a call, of which this is what it means, rose by what it asked
abbrev pub IsCounted : (ℕ → ℕ) → Machine → Call → Meaning → ℕ → ℕ → Type 0
IsCounted ended m c (Makes a e) before now =
    (count : ℕ) × AsksAsOften ended e m count × (now ≡ before + asked_before c m + count)
IsCounted ended m c due before now = now ≡ before + asked_before c m
