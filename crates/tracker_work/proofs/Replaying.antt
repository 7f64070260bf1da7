-- What a replay has come to: as numbers pass, and as a group is told.
use Rattle.std.proofs.Common.{◌⊎◌, inl, inr, ◌≡◌, ◌≢◌, ℕ, ◌+◌, ◌-◌, ◌<◌, ◌≤◌, List, length, Option, Some, None, IfSome, refl, sym, ◌∙◌, ap, subst, arith}
use Rattle.std.proofs.lemmas.Bool.{cases_lt, cases_eq}
use Rattle.sprints.specs.declared.sprint.Sprint.{Sprint}
use Rattle.sprints.specs.declared.state.SprintState.{SprintState}
use Rattle.sprints.specs.declared.state.SprintState.TheVariants.{Future}
use Rattle.burndown.specs.Tracked.{TrackedSprint}
use Rattle.burndown.specs.Burndown.{IsReserved, GrowsInRoom, TellsGroup}
use Rattle.burndown.specs.Chart.{IsBurndownOf}
use Rattle.burndown.specs.Told.{HaveNoneBetween, MayBeTold}
use Rattle.burndown.specs.ChartLaws.{NumbersPass, NextMayBeTold, RoomStaysApart}
use Rattle.tracker_work.specs.declared.told.Told.{Told}
use Rattle.tracker_work.specs.declared.replay.Replay.{Replay}
use Rattle.tracker_work.specs.Seen.{Seen, reading_of, state_in}
use Rattle.tracker_work.specs.Told.{group}
use Rattle.tracker_work.specs.States.{state_before, IsUpTo, StaysUntil}
use Rattle.tracker_work.specs.Load.{IsTold}
use Rattle.tracker_work.specs.Replay.{IsReached, IsReplayed}
use Rattle.tracker_work.proofs.Turning.{same_states, future_behind}

-- ---- where the next start or close is

-- what holds of the sprints so far, and of one more
pub one_more : (sprints : List Sprint) (after place : ℕ) (next turn result : Option ℕ) (kept : SprintState) → kept ≡ state_in sprints (place + 1) →
    ((s : ℕ) → s ≤ place → StaysUntil after next (state_in sprints s)) → StaysUntil after turn kept → ((n : ℕ) → IsUpTo result n → IsUpTo next n × IsUpTo turn n) →
    (s : ℕ) → s ≤ place + 1 → StaysUntil after result (state_in sprints s)
one_more sprints after place next turn result kept is before one up s le n above to = by (cases_eq s (place + 1)) where
  by : (s ≡ place + 1) ⊎ (s ≢ place + 1) → state_before n (state_in sprints s) ≡ state_before (after + 1) (state_in sprints s)
  by (inl here) =
      let same : kept ≡ state_in sprints s = is ∙ ap (state_in sprints) (sym here) in
      subst (λ state. state_before n state ≡ state_before (after + 1) state) same (one n above (up n to).1)
  by (inr other) = before s (omega (arith, le, other)) n above (up n to).0

-- what holds of all that are there, and of those that aren't
pub all_stay : (sprints : List Sprint) (after place : ℕ) (next : Option ℕ) → length sprints ≤ place → ((s : ℕ) → s ≤ place → StaysUntil after next (state_in sprints s)) →
    (s : ℕ) → StaysUntil after next (state_in sprints s)
all_stay sprints after place next all before s n above to = by (cases_lt place s) where
  by : (place < s) ⊎ (s ≤ place) → state_before n (state_in sprints s) ≡ state_before (after + 1) (state_in sprints s)
  by (inl behind) =
      let future : state_in sprints s ≡ Future = future_behind sprints s (omega (arith, all, behind)) in
      subst (λ state. state_before n state ≡ state_before (after + 1) state) (sym future) refl
  by (inr there) = before s there n above to

-- ---- numbers pass

up_to_it : (next : Option ℕ) (to n : ℕ) → IfSome next (λ x. to < x) → n ≤ to + 1 → IsUpTo next n
up_to_it None to n later le = tt
up_to_it (Some x) to n later le = omega (arith, later, le)

at_some : (P : ℕ → Type 0) (next : Option ℕ) (x : ℕ) → next ≡ Some x → IfSome next P → P x
at_some P next x is holds = subst (λ o. IfSome o P) is holds

module _ (law : NumbersPass) (seen : Seen) (r : Replay) (is : IsReplayed seen r) (to : ℕ) (none : HaveNoneBetween seen.histories r.reached to) where
  abbrev states : ℕ → SprintState
  states s = state_before (r.reached + 1) (state_in seen.sprints s)

  pub reached_next : (due : ℕ) → r.next ≡ Some due → due ≤ to → IsReached seen (record r { reached = due })
  reached_next due next le =
      let above : r.reached < due = at_some (λ n. r.reached < n) r.next due next is.ahead in
      let here : IsUpTo r.next due = subst (λ o. IsUpTo o due) (sym next) (omega arith) in
      record {
        charts =
            same_states (reading_of seen) seen.histories due r.burndown states (λ s. state_before due (state_in seen.sprints s)) (λ s. is.next s due above here)
            (law (reading_of seen) seen.histories states r.reached due r.burndown is.charts (omega (arith, above)) (λ n low high. none n low (omega (arith, high, le))));
        reserved = is.reserved;
        next = λ s n later up. let up_to : n ≤ due = subst (λ o. IsUpTo o n) next up in absurd (omega (arith, later, up_to));
        ahead = subst (λ o. IfSome o (λ n. due ≤ n)) (sym next) (omega arith);
      }

  pub passed : r.reached ≤ to → IfSome r.next (λ n. to < n) → IsReplayed seen (record r { reached = to })
  passed le later =
      let end_up : IsUpTo r.next (to + 1) = up_to_it r.next to (to + 1) later (omega arith) in
      let same : (s : ℕ) → state_before (to + 1) (state_in seen.sprints s) ≡ states s = λ s. is.next s (to + 1) (omega (arith, le)) end_up in
      record {
        charts =
            same_states (reading_of seen) seen.histories to r.burndown states (λ s. state_before (to + 1) (state_in seen.sprints s)) same
            (law (reading_of seen) seen.histories states r.reached to r.burndown is.charts le none);
        reserved = is.reserved;
        next = λ s n above up. is.next s n (omega (arith, above, le)) up ∙ sym (same s);
        ahead = later;
      }

-- ---- a group is told

from_next : (next : Option ℕ) (n m : ℕ) → n + 1 ≡ m → IfSome next (λ x. n < x) → IfSome next (λ x. m ≤ x)
from_next None n m is later = tt
from_next (Some x) n m is later = omega (arith, is, later)

module _ (seen : Seen) (t : Told) (told : IsTold seen t) (r : Replay) (is : IsReplayed seen r) (before : r.reached ≡ t.change - 1) (b : List TrackedSprint) (grows : GrowsInRoom r.burndown b) where
  next_number : r.reached + 1 ≡ t.change
  next_number = omega (arith, before, told.change_is)

  number_is : r.reached ≡ told.number
  number_is = omega (arith, before, told.change_is)

  pub may_be_told : NextMayBeTold → RoomStaysApart → MayBeTold (reading_of seen) seen.histories (λ s. state_before t.change (state_in seen.sprints s)) t.change b (group t)
  may_be_told law room =
      law (reading_of seen) seen.histories (λ s. state_before t.change (state_in seen.sprints s)) b (group t) told
      (subst (λ n. IsBurndownOf (reading_of seen) seen.histories (λ s. state_before t.change (state_in seen.sprints s)) n b) number_is
      (subst (λ n. IsBurndownOf (reading_of seen) seen.histories (λ s. state_before n (state_in seen.sprints s)) r.reached b) next_number
      (room (reading_of seen) seen.histories (λ s. state_before (r.reached + 1) (state_in seen.sprints s)) r.reached r.burndown b is.charts grows)))

  pub told_reaches : NextMayBeTold → RoomStaysApart → (new : List TrackedSprint) → TellsGroup b new (group t) →
      IsReached seen (record { burndown = new; reached = t.change; next = r.next })
  told_reaches law room new tells = record {
    charts = (may_be_told law room).told new tells;
    reserved = λ s there. let old : IsReserved r.burndown s = is.reserved s there in omega (arith, old, grows.room s, tells.room s);
    next = λ s n above up.
        is.next s n (omega (arith, above, next_number)) up ∙ ap (λ k. state_before k (state_in seen.sprints s)) next_number;
    ahead = from_next r.next r.reached t.change next_number is.ahead;
  }
