-- Sprints of the issues that a tracker keeps, and what the state's parts see of them.
use Rattle.std.proofs.Common.{◌≡◌, ℕ, ◌+◌, ◌-◌, ◌<◌, ◌&&◌, true, List, [], ◌∷◌, ◌++◌, ℤ, pos, negsuc, length, slice_get, set, Option, Some, None, refl, sym, ap, ◌∙◌, subst, arith, inl, inr}
use Rattle.std.specs.Prelude.{nat_le, int_le, unsigned_abs}
use Rattle.std.specs.List.{All}
use Rattle.std.specs.Option.{option_map_or}
use Rattle.std.proofs.lemmas.Bool.{and_parts, leb-true, false≢true}
use Rattle.std.proofs.lemmas.Int.{ints}
use Rattle.std.proofs.lemmas.Option.{get_or_from_slice_get}
use Rattle.field_values.specs.declared.numbers.SprintNo.{SprintNo}
use Rattle.field_values.specs.declared.numbers.UserNo.{UserNo}
use Rattle.field_values.specs.declared.numbers.TheConstants.FieldNo as number
use Rattle.field_values.specs.declared.value.Value.{Value}
use Rattle.field_values.specs.declared.value.Value.TheVariants as value
use Rattle.field_values.specs.Parts.{Parts}
use Rattle.field_forms.specs.declared.form.Form.TheVariants.{Points}
use Rattle.field_forms.specs.Known.{Names, form_of, choices_of, fits_form, fits}
use Rattle.tracker_limits.specs.Limits.{most_issues}
use Rattle.fields.specs.SetupParts.{names_in}
use Rattle.change_history.specs.declared.entry.Entry.{Entry}
use Rattle.change_history.specs.History.{History, MayAdd, present}
use Rattle.jql_bound.specs.declared.context.Phase.{Phase}
use Rattle.jql_bound.specs.declared.context.Phase.TheVariants as phase
use Rattle.jql_meaning.specs.Sprints.{IsNotIn}
use Rattle.sprints.specs.declared.sprint.Sprint.{Sprint}
use Rattle.sprints.specs.declared.state.SprintState.{SprintState}
use Rattle.sprints.specs.Sprint.{IsThere, sprint_of}
use Rattle.burndown.specs.declared.share.Share.{Share}
use Rattle.burndown.specs.ChartLaws.{with_entries}
use Rattle.burndown.specs.Reading.{points_in}
use Rattle.burndown.specs.Told.{ArePoints}
use Rattle.tracker_work.specs.Seen.{Seen, share_now, with_state}
use Rattle.tracker_work.specs.Work.{TrackedWork, HasRoomFor, ComesLast, GrowsAt}
use Rattle.tracker_filters.specs.Sprint.{AreNumbered, HoldOneSprint}
use Rattle.tracker_machine.specs.Machine.{Machine}
use Rattle.tracker_machine.specs.Search.{surroundings_in}
use Rattle.tracker_machine.specs.SprintRules.{phase_of, with_future, in_state}
use Rattle.tracker_machine.specs.Sprints.{next_sprint, work_of}
use Rattle.tracker_machine.specs.Tracker.{Holds, IsTracker, MayOpen, AllEntriesFit, AllSmall}
use Rattle.tracker_machine.proofs.Keepable.{number_at}
use Rattle.tracker_machine.proofs.Settled.{at_place, settled_at, settled_new, settled_added}
use Rattle.tracker_machine.proofs.Sprinting.{none_in_next, not_in_sprint, phases_of, phases_more, phases_turned}

-- ---- points

within : (z : ℤ) → (int_le (pos 0) z && nat_le (unsigned_abs z) 999_999_999_999) ≡ true → ArePoints z
within (pos n) fit = let few = leb-true n 999_999_999_999 (and_parts (int_le (pos 0) (pos n)) (nat_le n 999_999_999_999) fit).1 in (omega (arith, ints), omega (arith, ints, few))
within (negsuc n) fit = absurd (false≢true fit)

none : ArePoints (pos 0)
none = (omega (arith, ints), omega (arith, ints))

points_of_form : (names : List (List ℕ)) (v : Value) → fits_form number.POINTS.0 names v Points ≡ true → ArePoints (points_in v)
points_of_form names value.Empty fit = none
points_of_form names (value.Text text) fit = none
points_of_form names (value.Number z) fit = within z fit
points_of_form names (value.Choice choice) fit = none
points_of_form names (value.User user) fit = none
points_of_form names (value.Date day) fit = none
points_of_form names (value.Set choices) fit = none
points_of_form names (value.Labels labels) fit = none
points_of_form names (value.Sprint sprint) fit = none

-- the points that a field holds are of the range
pub points_held : (names : Names) (v : Value) → Holds names number.POINTS v → ArePoints (points_in v)
unfolding fits form_of
points_held names v (inl empty) = subst (λ x. ArePoints (points_in x)) (sym empty) none
points_held names v (inr fit) = points_of_form (choices_of names number.POINTS.0) v fit

-- ---- issues of a sprint

module _ (m : Machine) (is : IsTracker m) where
  pub one_sprint_held : (sprint : SprintNo) → HoldOneSprint m.histories sprint
  one_sprint_held sprint place h at out = not_in_sprint m place h sprint is at out

  pub are_numbered : AreNumbered m.histories
  are_numbered place h at = let number = number_at 1 m.histories place h is.numbers at in omega (arith, number.0)

  -- no issue is in the next sprint
  pub next_is_empty : All (λ h. IsNotIn h (next_sprint m)) m.histories
  next_is_empty k d in' =
      let found = at_place m.histories k in' in
      subst (λ h. IsNotIn h (next_sprint m)) (sym (get_or_from_slice_get m.histories k found.0 d found.1)) (none_in_next m k found.0 is found.1)

-- ---- what decides beside issues

-- with a sprint more
pub around_more : (setup : Parts) (sprints : List Sprint) (name : List ℕ)
    → record (surroundings_in setup sprints) { sprints = phases_of sprints ++ phase.Future ∷ [] } ≡ surroundings_in setup (with_future sprints name)
around_more setup sprints name = ap (λ (ps : List Phase). record (surroundings_in setup sprints) { sprints = ps }) (sym (phases_more sprints name))

-- with a sprint in another state
pub around_turned : (setup : Parts) (sprints : List Sprint) (n : ℕ) (state : SprintState) → IsThere sprints n
    → record (surroundings_in setup sprints) { sprints = set (phases_of sprints) (n - 1) (phase_of state) } ≡ surroundings_in setup (in_state sprints n state)
around_turned setup sprints n state there = ap (λ (ps : List Phase). record (surroundings_in setup sprints) { sprints = ps }) (sym (phases_turned sprints n state there))

-- ---- a sprint in another state

-- it is so in both
pub same_state : (seen : Seen) (n : ℕ) (state : SprintState) → with_state seen n state ≡ record seen { sprints = in_state seen.sprints n state }
same_state seen n state = by (sprint_of seen.sprints n)
  where
    by : (o : Option Sprint) → option_map_or (λ x. record seen { sprints = set seen.sprints (n - 1) (record x { state = state }) }) o seen
        ≡ record seen { sprints = option_map_or (λ x. set seen.sprints (n - 1) (record x { state = state })) o seen.sprints }
    by None = refl
    by (Some s) = refl

-- ---- what is told of issues

-- a new issue may be seen
pub comes_last : (m : Machine) (work : TrackedWork) (h : History) (new : List History) → work.seen ≡ work_of m → MayOpen m h → HasRoomFor work (share_now work.seen h).sprint
    → new ≡ m.histories ++ h ∷ [] → ComesLast work new
comes_last m work h new worked may room last = record {
  issue = h;
  may = record {
    few = subst (λ (s : Seen). length s.histories < most_issues) (sym worked) may.few;
    number = subst (λ (s : Seen). h.change ≡ s.change + 1) (sym worked) may.change;
    bare = may.entries;
    points = points_held (names_in m.setup) (present h number.POINTS)
        ((settled_new (names_in m.setup) m.moment (m.change + 1) h may.at may.change may.entries may.fitting may.listed may.opened may.author).holding number.POINTS);
    room = room;
  };
  last = last ∙ ap (λ (s : Seen). s.histories ++ h ∷ []) (sym worked);
}

-- so may a change group of the issue at a place
pub grows_at : (m : Machine) (work : TrackedWork) (place : ℕ) (h : History) (before : Share) (author : UserNo) (es : List Entry) (new : List History) → work.seen ≡ work_of m → IsTracker m
    → slice_get m.histories place ≡ Some h → MayAdd h (m.change + 1) m.moment author es → AllEntriesFit (names_in m.setup) es → AllSmall es → author.0 < length m.setup.users
    → before ≡ share_now work.seen h → HasRoomFor work (share_now work.seen h).sprint → HasRoomFor work (share_now work.seen (with_entries h es)).sprint
    → new ≡ set m.histories place (with_entries h es) → GrowsAt work place before m.moment new
grows_at m work place h before author es new worked is at may fit small user was room_before room_after grown = record {
  issue = h;
  author = author;
  entries = es;
  there = ap (λ (s : Seen). slice_get s.histories place) worked ∙ at;
  may = record {
    group = subst (λ (s : Seen). MayAdd h (s.change + 1) m.moment author es) (sym worked) may;
    before_is = was;
    points = points_held (names_in m.setup) (present (with_entries h es) number.POINTS)
        ((settled_added (names_in m.setup) m.moment m.change (m.change + 1) h author es may fit small user (settled_at (names_in m.setup) m.moment m.change m.histories place h at is.settled)).holding number.POINTS);
    room_before = subst (λ (s : Share). HasRoomFor work s.sprint) (sym was) room_before;
    room_after = room_after;
  };
  grown = grown ∙ ap (λ (s : Seen). set s.histories place (with_entries h es)) (sym worked);
}
