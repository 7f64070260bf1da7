-- What holds of sprints holds after each change.
use Rattle.std.proofs.Common.{◌≡◌, ℕ, ◌-◌, ◌<◌, ◌≤◌, ◌==◌, Bool, true, false, nat_le, List, [], ◌∷◌, ◌++◌, length, slice_get, set, Option, Some, None, refl, sym, subst, arith, inl, inr, ◌⊎◌, ne_eqb, eq-eqb}
use Rattle.std.specs.Prelude.{if◌then◌else◌}
use Rattle.std.specs.List.{All}
use Rattle.std.specs.Option.{option_map_or}
use Rattle.std.proofs.lemmas.Bool.{and_parts, cases_eq, cases_lt, leb-true, le-leb}
use Rattle.std.proofs.lemmas.List.{length-append, length-set}
use Rattle.std.proofs.lemmas.List.Elements.{All-nil, All-push, All-set}
use Rattle.std.proofs.lemmas.Option.{slice_get_within, get_or_from_slice_get, none-some, same_Some}
use Rattle.field_values.specs.declared.numbers.FieldNo.{FieldNo}
use Rattle.field_values.specs.declared.numbers.SprintNo.{SprintNo}
use Rattle.field_values.specs.declared.value.Value.{Value}
use Rattle.field_values.specs.declared.value.Value.TheVariants as value
use Rattle.change_history.specs.declared.change.Change.{Change}
use Rattle.change_history.specs.declared.entry.Entry.{Entry}
use Rattle.change_history.specs.History.{History, opening_value, value_after, present}
use Rattle.sprints.specs.declared.sprint.Sprint.{Sprint}
use Rattle.sprints.specs.declared.state.SprintState.{SprintState}
use Rattle.sprints.specs.declared.state.SprintState.TheVariants.{Future, Active, Closed}
use Rattle.sprints.specs.State.{IsNextState}
use Rattle.sprints.specs.Sprint.{IsThere, future, sprint_of}
use Rattle.tracker_work.specs.Seen.{state_in}
use Rattle.tracker_machine.specs.SprintRules.{with_future, in_state, is_of_sprints, OpensInSprints, BringsSprints, IsInSprints, IsTimely, IsSprint, AreSprints, MayMakeSprint, MayTurn}
use Rattle.tracker_machine.specs.Effect.{longer}
use Rattle.tracker_machine.proofs.Settled.{at_place, value_after-append}

-- ---- a sprint that is there

-- the sprint of a number that is there
pub sprint_there : (sprints : List Sprint) (n : ℕ) → IsThere sprints n → (s : Sprint) × (slice_get sprints (n - 1) ≡ Some s) × (sprint_of sprints n ≡ Some s)
sprint_there sprints n there =
    let found = at_place sprints (n - 1) (omega (arith, there.0, there.1)) in
    (found.0, found.1, rw (ne_eqb n 0 (λ is. omega (arith, is, there.0))) found.1)

-- one that is found by its number is there
pub found_is_there : (sprints : List Sprint) (n : ℕ) (s : Sprint) → sprint_of sprints n ≡ Some s → IsThere sprints n × (slice_get sprints (n - 1) ≡ Some s)
found_is_there sprints n s is = by (cases_eq n 0)
  where
    by : (n ≡ 0) ⊎ (n ≡ 0 → ⊥) → IsThere sprints n × (slice_get sprints (n - 1) ≡ Some s)
    by (inl none) = absurd (none-some s (rw (eq-eqb n 0 none) at is))
    by (inr some) =
        let at : slice_get sprints (n - 1) ≡ Some s = rw (ne_eqb n 0 some) at is in
        let within = slice_get_within sprints (n - 1) s at in
        let positive : 0 < n = elim (cases_lt 0 n) [ inl is ↦ is | inr small ↦ absurd (some (omega (arith, small))) ] in
        ((positive, omega (arith, within, positive)), at)

-- its state
pub state_there : (sprints : List Sprint) (n : ℕ) (s : Sprint) → sprint_of sprints n ≡ Some s → state_in sprints n ≡ s.state
state_there sprints n s is = rw is refl

-- it is put into another state in its place
pub turned_there : (sprints : List Sprint) (n : ℕ) (s : Sprint) (state : SprintState) → sprint_of sprints n ≡ Some s
    → in_state sprints n state ≡ set sprints (n - 1) (record s { state = state })
turned_there sprints n s state is = rw is refl

-- there are as many sprints as before
pub length-in_state : (sprints : List Sprint) (n : ℕ) (state : SprintState) → length (in_state sprints n state) ≡ length sprints
length-in_state sprints n state = by (sprint_of sprints n)
  where
    by : (o : Option Sprint) → length (option_map_or (λ x. set sprints (n - 1) (record x { state = state })) o sprints) ≡ length sprints
    by None = refl
    by (Some s) = length-set sprints (n - 1) (record s { state = state })

-- ---- numbers of sprints that are there

-- a number that is among so many is among more
pub of_more_sprints : (count more : ℕ) (v : Value) → count ≤ more → is_of_sprints count v ≡ true → is_of_sprints more v ≡ true
of_more_sprints count more value.Empty less of = refl
of_more_sprints count more (value.Text text) less of = refl
of_more_sprints count more (value.Number z) less of = refl
of_more_sprints count more (value.Choice choice) less of = refl
of_more_sprints count more (value.User user) less of = refl
of_more_sprints count more (value.Date day) less of = refl
of_more_sprints count more (value.Set choices) less of = refl
of_more_sprints count more (value.Labels labels) less of = refl
of_more_sprints count more (value.Sprint sprint) less of =
    let parts = and_parts (nat_le 1 sprint.0) (nat_le sprint.0 count) of in
    rw (parts.0, le-leb sprint.0 more (omega (arith, less, leb-true sprint.0 count parts.1))) refl

-- a value that names a sprint names one that is there
pub sprint_is_there : (sprints : List Sprint) (v : Value) (sprint : SprintNo) → is_of_sprints (length sprints) v ≡ true → v ≡ value.Sprint sprint → IsThere sprints sprint.0
sprint_is_there sprints v sprint of is =
    let parts = and_parts (nat_le 1 sprint.0) (nat_le sprint.0 (length sprints)) (subst (λ w. is_of_sprints (length sprints) w ≡ true) is of) in
    (omega (arith, leb-true 1 sprint.0 parts.0), leb-true sprint.0 (length sprints) parts.1)

chosen_of : (count : ℕ) (b : Bool) (v w : Value) → is_of_sprints count v ≡ true → is_of_sprints count w ≡ true → is_of_sprints count (if b then v else w) ≡ true
chosen_of count true v w one other = one
chosen_of count false v w one other = other

opening_of : (count : ℕ) (cs : List Change) (f : FieldNo) → OpensInSprints count cs → is_of_sprints count (opening_value cs f) ≡ true
opening_of count [] f opened = refl
opening_of count (c ∷ cs) f opened = chosen_of count (c.field.0 == f.0) c.to (opening_value cs f) opened.0 (opening_of count cs f opened.1)

after_of : (count : ℕ) (v : Value) (es : List Entry) (f : FieldNo) → is_of_sprints count v ≡ true → BringsSprints count es → is_of_sprints count (value_after v es f) ≡ true
after_of count v [] f of brings = of
after_of count v (e ∷ es) f of brings = after_of count (if e.field.0 == f.0 then e.to else v) es f (chosen_of count (e.field.0 == f.0) e.to v brings.0 of) brings.1

opens_in_more : (count more : ℕ) (cs : List Change) → count ≤ more → OpensInSprints count cs → OpensInSprints more cs
opens_in_more count more [] less opened = tt
opens_in_more count more (c ∷ cs) less opened = (of_more_sprints count more c.to less opened.0, opens_in_more count more cs less opened.1)

brings_of_more : (count more : ℕ) (es : List Entry) → count ≤ more → BringsSprints count es → BringsSprints more es
brings_of_more count more [] less brings = tt
brings_of_more count more (e ∷ es) less brings = (of_more_sprints count more e.to less brings.0, brings_of_more count more es less brings.1)

brings_on : (count : ℕ) (xs es : List Entry) → BringsSprints count xs → BringsSprints count es → BringsSprints count (xs ++ es)
brings_on count [] es before after = after
brings_on count (x ∷ xs) es before after = (before.0, brings_on count xs es before.1 after)

-- ---- an issue

-- an issue that opens now
in_sprints_new : (count : ℕ) (h : History) → h.entries ≡ [] → OpensInSprints count h.opening → IsInSprints count h
in_sprints_new count h none opened = record {
  opened = opened;
  entries = subst (BringsSprints count) (sym none) tt;
  now = λ f. subst (λ es. is_of_sprints count (value_after (opening_value h.opening f) es f) ≡ true) (sym none) (opening_of count h.opening f opened);
}

-- an issue with entries more
in_sprints_longer : (count : ℕ) (h : History) (es : List Entry) → IsInSprints count h → BringsSprints count es → IsInSprints count (longer h es)
in_sprints_longer count h es is brings = record {
  opened = is.opened;
  entries = brings_on count h.entries es is.entries brings;
  now = λ f. subst (λ v. is_of_sprints count v ≡ true) (sym (value_after-append (opening_value h.opening f) h.entries es f)) (after_of count (present h f) es f (is.now f) brings);
}

in_more_sprints : (count more : ℕ) (h : History) → count ≤ more → IsInSprints count h → IsInSprints more h
in_more_sprints count more h less is = record {
  opened = opens_in_more count more h.opening less is.opened;
  entries = brings_of_more count more h.entries less is.entries;
  now = λ f. of_more_sprints count more (present h f) less (is.now f);
}

-- ---- what is timely

timely_later : (at later change more : ℕ) (state : SprintState) → at ≤ later → change ≤ more → IsTimely at change state → IsTimely later more state
timely_later at later change more Future after above timely = tt
timely_later at later change more (Active start number) after above timely = (omega (arith, timely.0, after), omega (arith, timely.1, above))
timely_later at later change more (Closed start_at start_number end number) after above timely =
    (timely.0, timely.1, omega (arith, timely.2, after), omega (arith, timely.3, above))

sprint_later : (at later change more : ℕ) (s : Sprint) → at ≤ later → change ≤ more → IsSprint at change s → IsSprint later more s
sprint_later at later change more s after above is = record { named = is.named; timely = timely_later at later change more s.state after above is.timely }

all_later : (at later change more : ℕ) (sprints : List Sprint) → at ≤ later → change ≤ more → All (IsSprint at change) sprints → All (IsSprint later more) sprints
all_later at later change more sprints after above all = λ k d in'. sprint_later at later change more _ after above (all k d in')

-- a state that follows one is timely where that one is
next_is_timely : (at change : ℕ) (kept state : SprintState) → IsTimely at change kept → IsNextState at change kept state → IsTimely at change state
next_is_timely at change Future state timely (inl starts) = subst (IsTimely at change) (same_Some (Active at change) state starts) (omega arith, omega arith)
next_is_timely at change (Active start number) state timely (inl starts) = absurd (none-some state starts)
next_is_timely at change (Closed start_at start_number end number) state timely (inl starts) = absurd (none-some state starts)
next_is_timely at change Future state timely (inr closes) = absurd (none-some state closes)
next_is_timely at change (Active start number) state timely (inr closes) =
    subst (IsTimely at change) (same_Some (Closed start number at change) state closes) (timely.0, timely.1, omega arith, omega arith)
next_is_timely at change (Closed start_at start_number end number) state timely (inr closes) = absurd (none-some state closes)

-- ---- all sprints

pub no_sprints : (moment change : ℕ) → AreSprints moment change [] []
no_sprints moment change = record { few = omega arith; each = All-nil (IsSprint moment change); issues = All-nil (IsInSprints 0) }

module _ (moment change : ℕ) (sprints : List Sprint) (histories : List History) (are : AreSprints moment change sprints histories) where
  -- a later moment, and a further change
  pub sprints_later : (now more : ℕ) → moment ≤ now → change ≤ more → AreSprints now more sprints histories
  sprints_later now more later above = record {
    few = are.few;
    each = all_later moment now change more sprints later above are.each;
    issues = are.issues;
  }

  -- one issue more
  pub sprints_push : (more : ℕ) (h : History) → change ≤ more → h.entries ≡ [] → OpensInSprints (length sprints) h.opening → AreSprints moment more sprints (histories ++ h ∷ [])
  sprints_push more h above none opened = record {
    few = are.few;
    each = all_later moment moment change more sprints (omega arith) above are.each;
    issues = All-push (IsInSprints (length sprints)) histories h are.issues (in_sprints_new (length sprints) h none opened);
  }

  -- a sprint that is made
  pub sprint_made : (name : List ℕ) → MayMakeSprint sprints name → AreSprints moment change (with_future sprints name) histories
  sprint_made name may =
      let more = length-append sprints (future name ∷ []) in
      record {
        few = omega (arith, more, may.few);
        each = All-push (IsSprint moment change) sprints (future name) are.each (record { named = may.named; timely = tt });
        issues = λ k d in'. in_more_sprints (length sprints) (length (with_future sprints name)) _ (omega (arith, more)) (are.issues k d in');
      }

  -- the sprint of a number that is there is one
  pub sprint_is : (n : ℕ) (s : Sprint) → slice_get sprints (n - 1) ≡ Some s → IsSprint moment change s
  sprint_is n s is = subst (λ x. IsSprint moment change x) (get_or_from_slice_get sprints (n - 1) s s is) (are.each (n - 1) s (slice_get_within sprints (n - 1) s is))

  -- a sprint that starts or is closed
  pub sprint_turned : (sprint : SprintNo) (state : SprintState) → MayTurn moment change sprints sprint state → AreSprints moment change (in_state sprints sprint.0 state) histories
  sprint_turned sprint state may =
      let found = sprint_there sprints sprint.0 may.there in
      let old : IsSprint moment change found.0 = sprint_is sprint.0 found.0 found.1 in
      let next = next_is_timely moment change found.0.state state old.timely (subst (λ kept. IsNextState moment change kept state) (state_there sprints sprint.0 found.0 found.2) may.next) in
      let new : Sprint = record found.0 { state = state } in
      subst (λ ss. AreSprints moment change ss histories) (sym (turned_there sprints sprint.0 found.0 state found.2)) (record {
        few = omega (arith, length-set sprints (sprint.0 - 1) new, are.few);
        each = All-set (IsSprint moment change) sprints (sprint.0 - 1) new (record { named = old.named; timely = next }) are.each;
        issues = subst (λ n. All (IsInSprints n) histories) (sym (length-set sprints (sprint.0 - 1) new)) are.issues;
      })

-- a group more of the issue at a place
pub sprints_grown : (moment change more : ℕ) (sprints : List Sprint) (histories : List History) (k : ℕ) (h : History) (es : List Entry) → change ≤ more
    → slice_get histories k ≡ Some h → BringsSprints (length sprints) es → AreSprints moment change sprints histories → AreSprints moment more sprints (set histories k (longer h es))
sprints_grown moment change more sprints histories k h es above at brings are =
    let old : IsInSprints (length sprints) h = subst (λ i. IsInSprints (length sprints) i) (get_or_from_slice_get histories k h h at) (are.issues k h (slice_get_within histories k h at)) in
    record {
      few = are.few;
      each = all_later moment moment change more sprints (omega arith) above are.each;
      issues = All-set (IsInSprints (length sprints)) histories k (longer h es) (in_sprints_longer (length sprints) h es old brings) are.issues;
    }
