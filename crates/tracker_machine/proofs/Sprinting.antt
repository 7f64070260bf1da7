-- Sprints of a tracker: which issue is in which, and what differs where one comes or turns.
use Rattle.std.proofs.Common.{◌≡◌, ◌≢◌, ℕ, ◌+◌, ◌-◌, ◌==◌, ◌||◌, Bool, true, false, List, [], ◌∷◌, ◌++◌, length, slice_get, set, map, Option, Some, None, option_map, refl, sym, ap, ◌∙◌, subst, arith, inl, inr, eq-eqb}
use Rattle.std.specs.Prelude.{if◌then◌else◌}
use Rattle.std.specs.Option.{option_map_or}
use Rattle.std.proofs.lemmas.Bool.{eqb-true, cases_Bool, false≢true}
use Rattle.std.proofs.lemmas.List.{map-append, map-set, length-map}
use Rattle.std.proofs.lemmas.Option.{slice_get_within, get_or_from_slice_get}
use Rattle.field_values.specs.declared.field.Field.{Field}
use Rattle.field_values.specs.declared.numbers.FieldNo.{FieldNo}
use Rattle.field_values.specs.declared.numbers.GroupNo.{GroupNo}
use Rattle.field_values.specs.declared.numbers.SprintNo.{SprintNo}
use Rattle.field_values.specs.declared.numbers.UserNo.{UserNo}
use Rattle.field_values.specs.declared.numbers.TheConstants.FieldNo as number
use Rattle.field_values.specs.declared.value.Value.TheVariants as value
use Rattle.field_values.specs.declared.words.FieldKind.{FieldKind}
use Rattle.field_values.specs.declared.words.FieldKind.TheVariants as kind
use Rattle.field_values.specs.Parts.{Parts}
use Rattle.field_forms.specs.declared.form.Form.{Form}
use Rattle.field_forms.specs.declared.form.Form.TheVariants as form
use Rattle.field_forms.specs.Known.{Names, own_field, form_by, form_of, choices_of, fits, fits_form}
use Rattle.fields.specs.SetupParts.{names_in}
use Rattle.change_history.specs.declared.entry.Group.{Group}
use Rattle.change_history.specs.History.{History, present}
use Rattle.rank_strings.specs.Rank.{RankParts}
use Rattle.jql_bound.specs.declared.context.Phase.{Phase}
use Rattle.jql_bound.specs.declared.context.Phase.TheVariants as phase
use Rattle.jql_meaning.specs.Sprints.{DifferInOneSprint, IsNotIn}
use Rattle.jql_meaning.proofs.Sprints.{phase_is_set, sprint_is_added}
use Rattle.sprints.specs.declared.sprint.Sprint.{Sprint}
use Rattle.sprints.specs.declared.state.SprintState.{SprintState}
use Rattle.sprints.specs.Sprint.{IsThere, future, sprint_of}
use Rattle.tracker_work.specs.Seen.{with_histories}
use Rattle.tracker_work.specs.Seen.{with_sprint as with_sprint_seen, with_state as with_state_seen}
use Rattle.tracker_machine.specs.Machine.{Machine}
use Rattle.tracker_machine.specs.SprintRules.{phase_of, with_future, in_state, is_in_sprint, is_sprint, IsInSprints}
use Rattle.tracker_machine.specs.Tracker.{Holds, IsTracker}
use Rattle.tracker_machine.specs.Effect.{with_issue, with_group_members, with_group, grown, with_sprint, with_state}
use Rattle.tracker_machine.specs.Search.{surroundings_in}
use Rattle.tracker_machine.specs.Sprints.{next_sprint, work_of}
use Rattle.tracker_machine.proofs.Settled.{settled_at}
use Rattle.tracker_machine.proofs.SprintRules.{sprint_there, turned_there, sprint_is_there}

-- ---- the sprints that an issue names are there

pub in_sprints_at : (m : Machine) (place : ℕ) (h : History) → IsTracker m → slice_get m.histories place ≡ Some h → IsInSprints (length m.sprints) h
in_sprints_at m place h is at =
    subst (λ i. IsInSprints (length m.sprints) i) (get_or_from_slice_get m.histories place h h at) (is.sprints.issues place h (slice_get_within m.histories place h at))

-- the sprint that a field holds is there
pub held_is_there : (m : Machine) (place : ℕ) (h : History) (f : FieldNo) (sprint : SprintNo) → IsTracker m → slice_get m.histories place ≡ Some h
    → present h f ≡ value.Sprint sprint → IsThere m.sprints sprint.0
held_is_there m place h f sprint is at holds = sprint_is_there m.sprints (present h f) sprint ((in_sprints_at m place h is at).now f) holds

-- no issue is in the sprint that comes next
pub none_in_next : (m : Machine) (place : ℕ) (h : History) → IsTracker m → slice_get m.histories place ≡ Some h → IsNotIn h (next_sprint m)
none_in_next m place h is at f holds = let there = held_is_there m place h f (next_sprint m) is at holds in omega (arith, there.1)

-- ---- only the field sprint holds one

abbrev is_sprint_form : Option Form → Bool
is_sprint_form None = false
is_sprint_form (Some form.Sprint) = true
is_sprint_form (Some other) = false

-- no field of the setup's own does
own_other : (o : Option Field) → is_sprint_form (option_map (λ f. form_by f.kind) o) ≡ false
own_other None = refl
own_other (Some f) = by f.kind
  where
    by : (k : FieldKind) → is_sprint_form (Some (form_by k)) ≡ false
    by kind.Text = refl
    by kind.Number = refl
    by kind.Choice = refl
    by kind.User = refl
    by kind.Date = refl

-- so none but one of the built-in fields does
forms_by : (a b c d e f g h own : Bool) (o : Option Form) → own ≡ false → is_sprint_form o ≡ false
    → is_sprint_form (
    if a then Some form.Choice
    else if b then Some (form.Line 255)
    else if c then Some (form.Prose 4096)
    else if d then Some form.User
    else if e then Some form.Set
    else if f then Some form.Labels
    else if g then Some form.Date
    else if h then Some form.Points
    else if own then Some form.Sprint
    else o
    ) ≡ false
forms_by true b c d e f g h own o other behind = refl
forms_by false true c d e f g h own o other behind = refl
forms_by false false true d e f g h own o other behind = refl
forms_by false false false true e f g h own o other behind = refl
forms_by false false false false true f g h own o other behind = refl
forms_by false false false false false true g h own o other behind = refl
forms_by false false false false false false true h own o other behind = refl
forms_by false false false false false false false true own o other behind = refl
forms_by false false false false false false false false true o other behind = absurd (cc)
forms_by false false false false false false false false false o other behind = behind

other_forms : (fields : List Field) (n : ℕ) → (n == number.SPRINT.0) ≡ false → is_sprint_form (form_of fields n) ≡ false
unfolding form_of
other_forms fields n other =
    forms_by ((n == number.TYPE.0) || (n == number.STATUS.0) || (n == number.PRIORITY.0) || (n == number.RESOLUTION.0)) (n == number.SUMMARY.0) (n == number.DESCRIPTION.0)
    ((n == number.ASSIGNEE.0) || (n == number.REPORTER.0)) (n == number.FIX_VERSION.0) (n == number.LABELS.0) (n == number.DUE.0) (n == number.POINTS.0)
    (n == number.SPRINT.0) (option_map (λ f. form_by f.kind) (own_field fields n)) other (own_other (own_field fields n))

sprint_form : (f : Form) (n : ℕ) (names : List (List ℕ)) (sprint : SprintNo) → fits_form n names (value.Sprint sprint) f ≡ true → is_sprint_form (Some f) ≡ true
sprint_form form.Sprint n names sprint fit = refl
sprint_form (form.Line most) n names sprint fit = absurd (cc)
sprint_form (form.Prose most) n names sprint fit = absurd (cc)
sprint_form form.Number n names sprint fit = absurd (cc)
sprint_form form.Points n names sprint fit = absurd (cc)
sprint_form form.Choice n names sprint fit = absurd (cc)
sprint_form form.User n names sprint fit = absurd (cc)
sprint_form form.Set n names sprint fit = absurd (cc)
sprint_form form.Labels n names sprint fit = absurd (cc)
sprint_form form.Date n names sprint fit = absurd (cc)

-- a field that a sprint fits is this one
pub sprint_fits_one : (names : Names) (n : ℕ) (sprint : SprintNo) → fits names n (value.Sprint sprint) ≡ true → n ≡ number.SPRINT.0
unfolding fits
sprint_fits_one names n sprint fit = elim (cases_Bool (n == number.SPRINT.0)) [
  | inl is ↦ eqb-true n number.SPRINT.0 is
  | inr other ↦ absurd (false≢true (sym (other_forms names.fields n other) ∙ by (form_of names.fields n) fit))
] where
  by : (o : Option Form) → option_map_or (fits_form n (choices_of names n) (value.Sprint sprint)) o false ≡ true → is_sprint_form o ≡ true
  by None fits_none = absurd (cc)
  by (Some f) fits_it = sprint_form f n (choices_of names n) sprint fits_it

-- an issue whose field sprint holds another one, or none, holds it nowhere
held_nowhere : (names : Names) (h : History) (sprint : SprintNo) → ((f : FieldNo) → Holds names f (present h f)) → present h number.SPRINT ≢ value.Sprint sprint → IsNotIn h sprint
held_nowhere names h sprint holding other f is = by (holding f)
  where
    at_fields : (n : ℕ) → n ≡ number.SPRINT.0 → present h (record { 0 = n }) ≡ value.Sprint sprint → ⊥
    at_fields n own there = other (subst (λ k. present h (record { 0 = k }) ≡ value.Sprint sprint) own there)

    by : Holds names f (present h f) → ⊥
    by (inl empty) = let clash : value.Empty ≡ value.Sprint sprint = sym empty ∙ is in cc
    by (inr fit) = at_fields f.0 (sprint_fits_one names f.0 sprint (subst (λ v. fits names f.0 v ≡ true) is fit)) is

pub not_in_sprint : (m : Machine) (place : ℕ) (h : History) (sprint : SprintNo) → IsTracker m → slice_get m.histories place ≡ Some h → is_in_sprint sprint.0 h ≡ false → IsNotIn h sprint
not_in_sprint m place h sprint is at out =
    held_nowhere (names_in m.setup) h sprint (settled_at (names_in m.setup) m.moment m.change m.histories place h at is.settled).holding
    (λ own. false≢true (sym out ∙ (ap (is_sprint sprint.0) own ∙ eq-eqb sprint.0 sprint.0 refl)))

-- ---- what remaining work goes by

pub work_of_state : (m : Machine) (sprint : SprintNo) (state : SprintState) → with_state_seen (work_of m) sprint.0 state ≡ work_of (with_state m sprint state)
work_of_state m sprint state = by (sprint_of m.sprints sprint.0)
  where
    by : (o : Option Sprint)
        → option_map_or (λ x. record (work_of m) { sprints = set m.sprints (sprint.0 - 1) (record x { state = state }) }) o (work_of m)
        ≡ work_of (record m { sprints = option_map_or (λ x. set m.sprints (sprint.0 - 1) (record x { state = state })) o m.sprints })
    by None = refl
    by (Some s) = refl

pub work_of_sprint : (m : Machine) (name : List ℕ) → with_sprint_seen (work_of m) name ≡ work_of (with_sprint m name)
work_of_sprint m name = refl

pub work_of_issue : (m : Machine) (h : History) (rank : RankParts) (external : Option (List ℕ)) → with_histories (work_of m) (m.histories ++ h ∷ []) ≡ work_of (with_issue m h rank external)
work_of_issue m h rank external = refl

pub work_of_members : (m : Machine) (group : GroupNo) (members : List UserNo) → work_of m ≡ work_of (with_group_members m group members)
work_of_members m group members = refl

pub work_of_group : (m : Machine) (place : ℕ) (group : Group) → with_histories (work_of m) (grown m.histories place group.entries) ≡ work_of (with_group m place group)
work_of_group m place group = refl

-- ---- how far sprints are

abbrev pub phases_of : List Sprint → List Phase
phases_of sprints = map (λ s. phase_of s.state) sprints

-- where one turns, the phase in its place is another
pub phases_turned : (sprints : List Sprint) (n : ℕ) (state : SprintState) → IsThere sprints n
    → phases_of (in_state sprints n state) ≡ set (phases_of sprints) (n - 1) (phase_of state)
phases_turned sprints n state there =
    let found = sprint_there sprints n there in
    ap phases_of (turned_there sprints n found.0 state found.2)
    ∙ map-set (λ (s : Sprint). phase_of s.state) sprints (n - 1) (record found.0 { state = state })

pub phases_more : (sprints : List Sprint) (name : List ℕ) → phases_of (with_future sprints name) ≡ phases_of sprints ++ phase.Future ∷ []
phases_more sprints name = map-append (λ (s : Sprint). phase_of s.state) sprints (future name ∷ [])

-- what decides differs in the sprint that turns, and in the one that comes
pub surroundings_turned : (setup : Parts) (sprints : List Sprint) (sprint : SprintNo) (state : SprintState) → IsThere sprints sprint.0
    → DifferInOneSprint (surroundings_in setup sprints) (surroundings_in setup (in_state sprints sprint.0 state)) sprint
surroundings_turned setup sprints sprint state there =
    subst (λ phases. DifferInOneSprint (surroundings_in setup sprints) (record (surroundings_in setup sprints) { sprints = phases }) sprint)
    (sym (phases_turned sprints sprint.0 state there))
    (phase_is_set (surroundings_in setup sprints) sprint (phase_of state) there.0)

pub surroundings_more : (setup : Parts) (sprints : List Sprint) (name : List ℕ)
    → DifferInOneSprint (surroundings_in setup sprints) (surroundings_in setup (with_future sprints name)) (record { 0 = length sprints + 1 })
surroundings_more setup sprints name =
    subst (λ phases. DifferInOneSprint (surroundings_in setup sprints) (record (surroundings_in setup sprints) { sprints = phases }) (record { 0 = length sprints + 1 }))
    (sym (phases_more sprints name))
    (subst (λ n. DifferInOneSprint (surroundings_in setup sprints) (record (surroundings_in setup sprints) { sprints = phases_of sprints ++ phase.Future ∷ [] }) (record { 0 = n + 1 }))
    (length-map sprints (λ s. phase_of s.state))
    (sprint_is_added (surroundings_in setup sprints) phase.Future))
