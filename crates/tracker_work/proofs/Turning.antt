-- The states of sprints by numbers of change groups, and what keeps a burndown that of them.
use Rattle.std.proofs.Common.{◌≡◌, ◌≢◌, ℕ, zero, suc, ◌+◌, ◌-◌, ◌<◌, ◌≤◌, ◌==◌, nat_lt, Bool, true, false, List, [], ◌∷◌, length, None, option_map, unwrap_or, slice_get, if◌then◌else◌, refl, sym, ◌∙◌, ap, subst, arith}
use Rattle.std.proofs.lemmas.Bool.{lt-ltb, le-ltb, eqb-true, false≢true}
use Rattle.std.proofs.lemmas.Bool.Decides.{nat_tests}
use Rattle.field_values.specs.declared.numbers.FieldNo.{FieldNo}
use Rattle.field_values.specs.declared.value.Value.{Value}
use Rattle.change_history.specs.History.{History}
use Rattle.sprints.specs.declared.sprint.Sprint.{Sprint}
use Rattle.sprints.specs.declared.state.SprintState.{SprintState}
use Rattle.sprints.specs.declared.state.SprintState.TheVariants.{Future, Active, Closed}
use Rattle.burndown.specs.declared.share.Share.{Share}
use Rattle.burndown.specs.Tracked.{TrackedSprint}
use Rattle.burndown.specs.Chart.{IsPast, IsBurndownOf, course_by}
use Rattle.burndown.specs.Told.{GoesTo, MayBegin}
use Rattle.burndown.specs.ChartLaws.{StartMayBegin}
use Rattle.tracker_work.specs.Seen.{Seen, reading_of, state_in}
use Rattle.tracker_work.specs.States.{state_before, state_begun, starts_after, ClosesAfterStart}
use Rattle.tracker_work.specs.Replay.{IsChartedWithin, state_within}

-- a burndown of these states is one of the same states
pub same_states : (reading : (FieldNo → Value) → Share) (hs : List History) (n : ℕ) (b : List TrackedSprint) (one other : ℕ → SprintState) → ((s : ℕ) → other s ≡ one s) →
    IsBurndownOf reading hs one n b → IsBurndownOf reading hs other n b
same_states reading hs n b one other same is = record {
  past = λ s. subst (IsPast n) (sym (same s)) (is.past s);
  courses = λ s. is.courses s ∙ sym (ap (λ state. course_by reading hs s state n) (same s));
}

-- ---- sprints that aren't there

none_found : (sprints : List Sprint) (k : ℕ) → length sprints ≤ k → slice_get sprints k ≡ None
none_found [] k le = refl
none_found (x ∷ xs) zero le = absurd (omega (arith, le))
none_found (x ∷ xs) (suc k) le = none_found xs k (omega (arith, le))

pub future_behind : (sprints : List Sprint) (s : ℕ) → length sprints < s → state_in sprints s ≡ Future
future_behind sprints s behind = by (s == 0) where
  by : (none : Bool) → unwrap_or (option_map (λ (x : Sprint). x.state) (if none then None else slice_get sprints (s - 1))) Future ≡ Future
  by true = refl
  by false = ap (λ o. unwrap_or (option_map (λ (x : Sprint). x.state) o) Future) (none_found sprints (s - 1) (omega (arith, behind)))

-- ---- one sprint after the other

module _ (seen : Seen) (by other : SprintState → SprintState) where
  -- what changes from one sprint to the next
  within_was : (s : ℕ) → state_within seen by other s s ≡ by (state_in seen.sprints s)
  within_was s = ap (λ (t : Bool). if t then other (state_in seen.sprints s) else by (state_in seen.sprints s)) (le-ltb s s (omega arith))

  within_goes : (s : ℕ) (state : SprintState) → other (state_in seen.sprints s) ≡ state → GoesTo (state_within seen by other s) (state_within seen by other (s + 1)) s state
  within_goes s state is = record {
    this = ap (λ (t : Bool). if t then other (state_in seen.sprints s) else by (state_in seen.sprints s)) (lt-ltb s (s + 1) (omega arith)) ∙ is;
    others = λ q ne. ap (λ (t : Bool). if t then other (state_in seen.sprints q) else by (state_in seen.sprints q)) (below_next q s ne);
  }
    where
      below_next : (q s : ℕ) → q ≢ s → nat_lt q (s + 1) ≡ nat_lt q s
      below_next q s ne = grind (arith, nat_tests, ne)

-- ---- a start

record IsStart (n : ℕ) (kept : SprintState) : Type 0 where
  moment : ℕ
  was : state_before n kept ≡ Future
  is : state_begun n kept ≡ Active moment n

is_start : (n : ℕ) (kept : SprintState) → ClosesAfterStart kept → starts_after n kept ≡ true → IsStart n kept
is_start n Future closes started = absurd (false≢true started)
is_start n (Active at change) closes started =
    let here : change ≡ n = eqb-true change n started in
    record {
      moment = at;
      was = ap (λ (t : Bool). if t then Active at change else Future) (le-ltb change n (omega (arith, here)));
      is = ap (λ (t : Bool). if t then Active at change else Future) (lt-ltb change (n + 1) (omega (arith, here))) ∙ ap (Active at) here;
    }
is_start n (Closed start_at start_change at change) closes started =
    let here : start_change ≡ n = eqb-true start_change n started in
    let open_still : nat_lt change n ≡ false = le-ltb change n (omega (arith, here, closes)) in
    record {
      moment = start_at;
      was =
          ap (λ (t : Bool). if t then Closed start_at start_change at change else (if nat_lt start_change n then Active start_at start_change else Future)) open_still
          ∙ ap (λ (t : Bool). if t then Active start_at start_change else Future) (le-ltb start_change n (omega (arith, here)));
      is =
          ap (λ (t : Bool). if t then Closed start_at start_change at change else (if nat_lt start_change (n + 1) then Active start_at start_change else Future)) open_still
          ∙ ap (λ (t : Bool). if t then Active start_at start_change else Future) (lt-ltb start_change (n + 1) (omega (arith, here)))
          ∙ ap (Active start_at) here;
    }

pub one_begins : (law : StartMayBegin) (seen : Seen) (n : ℕ) (b : List TrackedSprint) (s : ℕ) → ClosesAfterStart (state_in seen.sprints s) →
    IsChartedWithin seen n b (state_before n) (state_begun n) s → starts_after n (state_in seen.sprints s) ≡ true →
    MayBegin (reading_of seen) seen.histories (state_within seen (state_before n) (state_begun n) (s + 1)) n b s
one_begins law seen n b s closes charts started =
    let start = is_start n (state_in seen.sprints s) closes started in
    law (reading_of seen) seen.histories (state_within seen (state_before n) (state_begun n) s) (state_within seen (state_before n) (state_begun n) (s + 1)) n b s charts (record {
      moment = start.moment;
      was = within_was seen (state_before n) (state_begun n) s ∙ start.was;
      goes = within_goes seen (state_before n) (state_begun n) s (Active start.moment n) start.is;
    })
