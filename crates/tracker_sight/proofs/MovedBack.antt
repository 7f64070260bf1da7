-- A move of an issue to where it stood undoes one that was made before.
use Rattle.std.proofs.Common.{◌≡◌, ℕ, zero, suc, ◌==◌, false, List, [], ◌∷◌, Option, Some, None, Result, Ok, Err, bytes_eq, inl, inr, refl, sym, ◌∙◌, ap, subst, eq-eqb}
use Rattle.std.specs.Prelude.{insert}
use Rattle.std.proofs.lemmas.Bool.{cases_Bool}
use Rattle.field_values.specs.declared.numbers.IssueNo.{IssueNo}
use Rattle.change_history.specs.History.{History}
use Rattle.rank_strings.specs.Rank.{RankParts}
use Rattle.board.specs.declared.place.Place.{Place}
use Rattle.board.specs.declared.place.Place.TheVariants.{Before, After}
use Rattle.board.specs.Place.{named_by}
use Rattle.board.specs.Issues.{issues_in, issues_above, other_issues, issues_moved}
use Rattle.board.specs.Moved.{Sides}
use Rattle.tracker_calls.specs.declared.call.Call.{Call}
use Rattle.tracker_calls.specs.declared.call.Call.TheVariants as call
use Rattle.tracker_calls.specs.declared.cause.Cause.{Cause}
use Rattle.tracker_machine.specs.Machine.{Machine}
use Rattle.tracker_machine.specs.Known.{history_named}
use Rattle.tracker_machine.specs.Tracker.{HasRanks}
use Rattle.tracker_machine.specs.Checks.{caller_refusal, other_refusal}
use Rattle.tracker_machine.specs.Meaning.{Meaning, unless, reply_to, next_after}
use Rattle.tracker_machine.specs.Rank.{with_given, moved_rank}
use Rattle.tracker_machine.specs.Move.{move_refusal, move_meaning, moved_beside, newly_ranked}
use Rattle.tracker_machine.specs.Step.{meaning, meaning_for, form_refusal, user_of, reply_of, next_of}
use Rattle.tracker_runs.specs.RankLaws.{IsAccepted, MovesOneIssue}
use Rattle.tracker_machine.proofs.Placed.{apart, are_numbered}
use Rattle.tracker_runs.proofs.MovedIssue.{moves_are_of_one_issue}
use Rattle.tracker_runs.proofs.RunRanks.{next_keeps}
use Rattle.tracker_sight.specs.Moves.{AsksToMove, MovesBackLeaveTheOrder}

-- ---- an accepted move

module _ (m : Machine) (caller issue other : List ℕ) (place : IssueNo → Place) (named : (no : IssueNo) → named_by (place no) ≡ Some no) (has : HasRanks m)
    (h o : History) (here : history_named m issue ≡ Some h) (there : history_named m other ≡ Some o) where
  abbrev ranked : Meaning
  ranked = with_given (moved_rank m h.no (place o.no)) (newly_ranked m issue h.no)

  -- what is accepted of a meaning moves the issue
  abbrev Moves : Meaning → Type 0
  Moves due = IsAccepted (reply_to due) → MovesOneIssue m (next_after due m) h.no (place o.no)

  unless_moves : (r : Option Cause) (due : Meaning) → (r ≡ None → Moves due) → Moves (unless r due)
  unless_moves None due moves = moves refl
  unless_moves (Some r) due moves = λ accepted. absurd accepted

  ranked_moves : bytes_eq other issue ≡ false → Moves ranked
  ranked_moves differ = by (moved_rank m h.no (place o.no)) refl
    where
      by : (given : Result RankParts Sides) → moved_rank m h.no (place o.no) ≡ given → Moves (with_given given (newly_ranked m issue h.no))
      by (Err sides) is = λ accepted. absurd accepted
      by (Ok rank) is = λ accepted. moves_are_of_one_issue m issue h (place o.no) rank has (are_numbered m has issue other h o differ here there (place o.no) (named o.no)) is

  move_moves : Moves (unless (other_refusal issue other) (unless (caller_refusal m caller) (move_meaning m (user_of m caller) issue other place)))
  move_moves =
      unless_moves (other_refusal issue other) (unless (caller_refusal m caller) (move_meaning m (user_of m caller) issue other place))
      (λ formed. unless_moves (caller_refusal m caller) (move_meaning m (user_of m caller) issue other place)
      (λ known. unless_moves (move_refusal m (user_of m caller) issue other) (moved_beside m issue place (history_named m issue) (history_named m other))
      (λ passes. rw (here, there) (ranked_moves (apart issue other formed)))))

accepted_moves : (m : Machine) (caller : List ℕ) (c : Call) (h : History) (place : Place) → HasRanks m → AsksToMove m c h place → IsAccepted (reply_of m caller c)
    → MovesOneIssue m (next_of m caller c) h.no place
unfolding reply_of next_of meaning meaning_for form_refusal
accepted_moves m caller (call.MoveBefore issue other) h place has asks accepted =
    subst (MovesOneIssue m _ h.no) (sym asks.3) (move_moves m caller issue other Before (λ no. refl) has h asks.0 asks.1 asks.2 accepted)
accepted_moves m caller (call.MoveAfter issue other) h place has asks accepted =
    subst (MovesOneIssue m _ h.no) (sym asks.3) (move_moves m caller issue other After (λ no. refl) has h asks.0 asks.1 asks.2 accepted)
accepted_moves m caller _ h place has asks accepted = absurd asks

-- ---- the list of issues

others_of_inserted : (i : IssueNo) (is : List IssueNo) (k : ℕ) → other_issues i.0 (insert is k i) ≡ other_issues i.0 is
others_of_inserted i [] zero = rw (eq-eqb i.0 i.0 refl) refl
others_of_inserted i [] (suc k) = rw (eq-eqb i.0 i.0 refl) refl
others_of_inserted i (j ∷ js) zero = rw (eq-eqb i.0 i.0 refl) refl
others_of_inserted i (j ∷ js) (suc k) = elim (cases_Bool (j.0 == i.0)) [
  | inl same ↦ rw same (others_of_inserted i js k)
  | inr other ↦ rw other (ap (λ (is : List IssueNo). j ∷ is) (others_of_inserted i js k))
]

others_of_others : (n : ℕ) (is : List IssueNo) → other_issues n (other_issues n is) ≡ other_issues n is
others_of_others n [] = refl
others_of_others n (i ∷ is) = elim (cases_Bool (i.0 == n)) [
  | inl same ↦ rw same (others_of_others n is)
  | inr other ↦ rw (other, other) (ap (λ (js : List IssueNo). i ∷ js) (others_of_others n is))
]

-- of two moves of an issue the second decides
second_decides : (i : IssueNo) (one other : Place) (is : List IssueNo) → issues_moved i other (issues_moved i one is) ≡ issues_moved i other is
second_decides i one other is =
    ap (λ (js : List IssueNo). insert js (issues_above js other) i)
    (others_of_inserted i (other_issues i.0 is) (issues_above (other_issues i.0 is) one) ∙ others_of_others i.0 is)

-- ---- both moves

asks_still : (m new : Machine) (c : Call) (h : History) (place : Place) → new ≡ record m { order = new.order } → AsksToMove m c h place → AsksToMove new c h place
asks_still m new (call.MoveBefore issue other) h place is asks =
    (asks.0, ap (λ (n : Machine). history_named n issue) is ∙ asks.1, ap (λ (n : Machine). history_named n other) is ∙ asks.2, asks.3)
asks_still m new (call.MoveAfter issue other) h place is asks =
    (asks.0, ap (λ (n : Machine). history_named n issue) is ∙ asks.1, ap (λ (n : Machine). history_named n other) is ∙ asks.2, asks.3)
asks_still m new _ h place is asks = absurd asks

pub moves_back_leave_the_order : MovesBackLeaveTheOrder
moves_back_leave_the_order m one other away back h there here has asks asks_back stands accepted accepted_back =
    let next : Machine = next_of m one away in
    let last : Machine = next_of next other back in
    let first : MovesOneIssue m next h.no there = accepted_moves m one away h there has asks accepted in
    let second : MovesOneIssue next last h.no here =
    accepted_moves next other back h here (next_keeps m one away has) (asks_still m next back h here first.rest asks_back) accepted_back in
    record {
      issues = second.issues ∙ ap (issues_moved h.no here) first.issues ∙ second_decides h.no there here (issues_in m.order) ∙ stands;
      rest = second.rest ∙ ap (λ (n : Machine). record n { order = last.order }) first.rest;
    }
