-- From what a tracker keeps, what remains of its sprints may be made.
use Rattle.std.proofs.Common.{inl, inr, ◌≡◌, ◌==◌, ℕ, ◌-◌, ◌<◌, ◌≤◌, Bool, true, false, List, [], ◌∷◌, get_or, Option, Some, None, IfSome, unwrap_or, option_map, slice_get, if◌then◌else◌, refl, sym, ◌∙◌, ap, subst, arith}
use Rattle.std.specs.Prelude.{nat_le, nat_lt}
use Rattle.std.specs.List.{All}
use Rattle.std.proofs.lemmas.Bool.{eqb-true}
use Rattle.std.proofs.lemmas.List.Elements.{All-nil, All-cons, All-weaker}
use Rattle.std.proofs.lemmas.Option.{none-some, same_Some, slice_get-get_or, slice_get_within, get_or_from_slice_get}
use Rattle.field_values.specs.declared.numbers.FieldNo.{FieldNo}
use Rattle.field_values.specs.declared.numbers.TheConstants.FieldNo as number
use Rattle.field_values.specs.declared.value.Value.{Value}
use Rattle.field_forms.specs.Known.{Names, fits}
use Rattle.fields.specs.SetupParts.{names_in}
use Rattle.change_history.specs.declared.entry.Entry.{Entry}
use Rattle.change_history.specs.History.{History, IsHistory, opening_value, value_after}
use Rattle.sprints.specs.declared.sprint.Sprint.{Sprint}
use Rattle.sprints.specs.declared.state.SprintState.{SprintState}
use Rattle.sprints.specs.declared.state.SprintState.TheVariants.{Future, Active, Closed}
use Rattle.sprints.specs.Sprint.{sprint_of}
use Rattle.burndown.specs.declared.share.Share.{Share}
use Rattle.burndown.specs.AfterGroup.{up_to, moment_among, moment_in}
use Rattle.burndown.specs.Chart.{IsPast}
use Rattle.burndown.specs.Told.{ArePoints, HaveNumbersUpTo, HavePoints}
use Rattle.tracker_work.specs.Seen.{reading_of, state_in}
use Rattle.tracker_work.specs.States.{ClosesAfterStart}
use Rattle.tracker_work.specs.Load.{AreApart, MayBeLoaded}
use Rattle.tracker_machine.specs.Machine.{Machine}
use Rattle.tracker_machine.specs.Chronicle.{HasEntry, IsChangeOf, IsChronicle}
use Rattle.tracker_machine.specs.SprintRules.{IsTimely, IsSprint}
use Rattle.tracker_machine.specs.Sprints.{work_of}
use Rattle.tracker_machine.specs.Tracker.{AllEntriesFit, Holds, IsSettled, IsTracker}
use Rattle.tracker_machine.proofs.Settled.{opening_holds}
use Rattle.tracker_state.proofs.Sprinting.{points_held}

-- ---- numbers of changes

-- each entry is of a change of its history
entries_have : (es : List Entry) → All (λ e. HasEntry es e.change e.at) es
entries_have [] = All-nil (λ (e : Entry). HasEntry [] e.change e.at)
entries_have (e ∷ es) =
    All-cons (λ (d : Entry). HasEntry (e ∷ es) d.change d.at) e es (inl (refl, refl))
    (All-weaker (λ (d : Entry). HasEntry es d.change d.at) (λ (d : Entry). HasEntry (e ∷ es) d.change d.at) (λ d has. inr has) es (entries_have es))

-- the change of a moment that is found is there
among_has : (es : List Entry) (n at : ℕ) → moment_among es n ≡ Some at → HasEntry es n at
among_has [] n at is = none-some at is
among_has (e ∷ es) n at is = by (e.change == n) refl is (among_has es n at)
  where
    by : (b : Bool) → (e.change == n) ≡ b → (if b then Some e.at else moment_among es n) ≡ Some at → (moment_among es n ≡ Some at → HasEntry es n at) → HasEntry (e ∷ es) n at
    by true own found rest = inl (eqb-true e.change n own, same_Some e.at at found)
    by false own found rest = inr (rest found)

moment_has : (h : History) (n at : ℕ) → moment_in h n ≡ Some at → IsChangeOf h n at
moment_has h n at is = by (h.change == n) refl is
  where
    by : (b : Bool) → (h.change == n) ≡ b → (if b then Some h.at else moment_among h.entries n) ≡ Some at → IsChangeOf h n at
    by true own found = inl (eqb-true h.change n own, same_Some h.at at found)
    by false own found = inr (among_has h.entries n at found)

module _ (hs : List History) (moment change : ℕ) (is : IsChronicle hs moment change) where
  numbers_up_to : HaveNumbersUpTo change hs
  numbers_up_to k d lt =
      let h = get_or hs k d in
      let at = slice_get-get_or hs k d lt in (
        (is.known k h.change h.at (h, at, inl (refl, refl))).1,
        All-weaker (λ (e : Entry). HasEntry h.entries e.change e.at) (λ (e : Entry). e.change ≤ change) (λ e has. (is.known k e.change e.at (h, at, inr has)).1) h.entries
            (entries_have h.entries),
      )

  numbers_from_one : All (λ (h : History). 0 < h.change) hs
  numbers_from_one k d lt =
      let h = get_or hs k d in
      let one = is.known k h.change h.at (h, slice_get-get_or hs k d lt, inl (refl, refl)) in
      omega (arith, one.0)

  numbers_apart : AreApart hs
  numbers_apart i j n at h o at_i at_j ne made = by (moment_in o n) refl
    where
      by : (m : Option ℕ) → moment_in o n ≡ m → moment_in o n ≡ None
      by None found = found
      by (Some b) found = absurd (ne (sym (is.once i j n at b (h, at_i, moment_has h n at made) (o, at_j, moment_has o n b found))))

-- ---- points

-- an entry that fits leaves its field with what fits
entry_holds : (names : Names) (e : Entry) (v : Value) (f : FieldNo) (b : Bool) → (e.field.0 == f.0) ≡ b → fits names e.field.0 e.to ≡ true → Holds names f v → Holds names f (if b then e.to else v)
entry_holds names e v f true is fit more = inr (ap (λ n. fits names n e.to) (sym (eqb-true e.field.0 f.0 is)) ∙ fit)
entry_holds names e v f false is fit more = more

-- so do those of the groups up to some number
then_holds : (names : Names) (n : ℕ) (f : FieldNo) (v : Value) (es : List Entry) → AllEntriesFit names es → Holds names f v → Holds names f (value_after v (up_to n es) f)
then_holds names n f v [] fit held = held
then_holds names n f v (e ∷ es) fit held =
    by (nat_le e.change n) (then_holds names n f v es fit.1 held)
    (then_holds names n f (if e.field.0 == f.0 then e.to else v) es fit.1 (entry_holds names e v f (e.field.0 == f.0) refl fit.0 held))
  where
    by : (b : Bool) → Holds names f (value_after v (up_to n es) f) → Holds names f (value_after (if e.field.0 == f.0 then e.to else v) (up_to n es) f)
        → Holds names f (value_after v (if b then e ∷ up_to n es else up_to n es) f)
    by true without with = with
    by false without with = without

-- the points of an issue are of the range at all times
module _ (m : Machine) (is : IsTracker m) where
  points_kept : HavePoints (reading_of (work_of m)) m.histories
  points_kept k d lt n = by (nat_lt n h.change)
    where
      h : History
      h = get_or m.histories k d

      settled : IsSettled (names_in m.setup) m.moment m.change h
      settled = is.settled k d lt

      share : Share
      share = reading_of (work_of m) (λ f. value_after (opening_value h.opening f) (up_to n h.entries) f)

      by : (b : Bool) → IfSome (if b then None else Some share) (λ s. ArePoints s.points)
      by true = tt
      by false =
          points_held (names_in m.setup) (value_after (opening_value h.opening number.POINTS) (up_to n h.entries) number.POINTS)
          (then_holds (names_in m.setup) n number.POINTS (opening_value h.opening number.POINTS) h.entries settled.fit
          (opening_holds (names_in m.setup) h.opening number.POINTS settled.fitting))

-- ---- sprints

past_when_timely : (moment change : ℕ) (state : SprintState) → IsTimely moment change state → IsPast change state
past_when_timely moment change Future timely = tt
past_when_timely moment change (Active at number) timely = timely.1
past_when_timely moment change (Closed start_at start_number at number) timely = (omega (arith, timely.1, timely.3), timely.3)

closes_when_timely : (moment change : ℕ) (state : SprintState) → IsTimely moment change state → ClosesAfterStart state
closes_when_timely moment change Future timely = tt
closes_when_timely moment change (Active at number) timely = tt
closes_when_timely moment change (Closed start_at start_number at number) timely = timely.1

-- what holds of all sprints' states, and of future ones, holds of each
each_state : (P : SprintState → Type 0) (sprints : List Sprint) → P Future → All (λ s. P s.state) sprints → (n : ℕ) → P (state_in sprints n)
each_state P sprints future all n = by (sprint_of sprints n) (λ s found. there s (n == 0) found)
  where
    there : (s : Sprint) (b : Bool) → (if b then None else slice_get sprints (n - 1)) ≡ Some s → P s.state
    there s true found = absurd (none-some s found)
    there s false found =
        subst (λ (x : Sprint). P x.state) (get_or_from_slice_get sprints (n - 1) s s found) (all (n - 1) s (slice_get_within sprints (n - 1) s found))

    by : (o : Option Sprint) → ((s : Sprint) → o ≡ Some s → P s.state) → P (unwrap_or (option_map (λ s. s.state) o) Future)
    by None all = future
    by (Some s) all = all s refl

-- ---- all of it

pub work_may_be_loaded : (m : Machine) → IsTracker m → MayBeLoaded (work_of m)
work_may_be_loaded m is =
    let timely : All (λ (s : Sprint). IsTimely m.moment m.change s.state) m.sprints =
    All-weaker (IsSprint m.moment m.change) (λ (s : Sprint). IsTimely m.moment m.change s.state) (λ s one. one.timely) m.sprints is.sprints.each in
    record {
      histories = All-weaker (IsSettled (names_in m.setup) m.moment m.change) IsHistory (λ h one. one.history) m.histories is.settled;
      first = numbers_from_one m.histories m.moment m.change is.chronicle;
      numbers = numbers_up_to m.histories m.moment m.change is.chronicle;
      apart = numbers_apart m.histories m.moment m.change is.chronicle;
      few = omega (arith, is.few_issues);
      points = points_kept m is;
      past = each_state (IsPast m.change) m.sprints tt
          (All-weaker (λ (s : Sprint). IsTimely m.moment m.change s.state) (λ (s : Sprint). IsPast m.change s.state) (λ s one. past_when_timely m.moment m.change s.state one) m.sprints timely);
      closes = each_state ClosesAfterStart m.sprints tt
          (All-weaker (λ (s : Sprint). IsTimely m.moment m.change s.state) (λ (s : Sprint). ClosesAfterStart s.state) (λ s one. closes_when_timely m.moment m.change s.state one) m.sprints timely);
    }
