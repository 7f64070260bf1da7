-- A move and the move back leave the order of issues.
use Rattle.std.specs.Prelude.{◌≡◌, List, ℕ, Some}
use Rattle.field_values.specs.declared.numbers.IssueNo.{IssueNo}
use Rattle.change_history.specs.History.{History}
use Rattle.board.specs.declared.place.Place.{Place}
use Rattle.board.specs.declared.place.Place.TheVariants.{Before, After}
use Rattle.board.specs.Order.{Pair}
use Rattle.board.specs.Issues.{issues_in, issues_moved}
use Rattle.tracker_calls.specs.declared.call.Call.{Call}
use Rattle.tracker_calls.specs.declared.call.Call.TheVariants as call
use Rattle.tracker_machine.specs.Machine.{Machine}
use Rattle.tracker_machine.specs.Known.{history_named}
use Rattle.tracker_machine.specs.Tracker.{HasRanks}
use Rattle.tracker_machine.specs.Step.{reply_of, next_of}
use Rattle.tracker_runs.specs.RankLaws.{IsAccepted}

-- the call is to move this issue to this place, beside an issue that is there
abbrev pub AsksToMove : Machine → Call → History → Place → Type 0
AsksToMove m (call.MoveBefore issue other) h place =
    (o : History) × (history_named m issue ≡ Some h) × (history_named m other ≡ Some o)
    × (place ≡ Before o.no)
AsksToMove m (call.MoveAfter issue other) h place =
    (o : History) × (history_named m issue ≡ Some h) × (history_named m other ≡ Some o)
    × (place ≡ After o.no)
AsksToMove m _ h place = ⊥

-- the issue stands at the place: taken out of the list and put in there, it leaves the list as it is
abbrev pub StandsAt : List Pair → IssueNo → Place → Type 0
StandsAt order issue place = issues_moved issue place (issues_in order) ≡ issues_in order

-- all issues stand as before, and nothing but ranks differs
pub record IsOrderedAlike (m new : Machine) : Type 0 where
  pub issues : issues_in new.order ≡ issues_in m.order
  pub rest : new ≡ record m { order = new.order }

-- after an accepted move of an issue, and an accepted move of it to where it stood, whoever makes them
abbrev pub MovesBackLeaveTheOrder : Type 0
MovesBackLeaveTheOrder =
    (m : Machine) (one other : List ℕ) (away back : Call) (h : History) (there here : Place)
    → HasRanks m → AsksToMove m away h there → AsksToMove m back h here
    → StandsAt m.order h.no here → IsAccepted (reply_of m one away)
    → IsAccepted (reply_of (next_of m one away) other back)
    → IsOrderedAlike m (next_of (next_of m one away) other back)
