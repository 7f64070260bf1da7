-- The sprints that a call names are there, and so are those of all that it changes.
use Rattle.std.proofs.Common.{◌≡◌, ◌≢◌, ◌==◌, ◌||◌, ◌&&◌, ◌-◌, ℕ, List, [], ◌∷◌, ◌++◌, length, filter, Bool, true, false, slice_get, Option, Some, None, option_map, is_some, refl, sym, ap, subst, ◌∙◌, arith}
use Rattle.std.specs.Prelude.{if◌then◌else◌, nat_lt, nat_le, option_and_then}
use Rattle.std.specs.List.{list_all}
use Rattle.std.specs.Option.{option_map_or}
use Rattle.std.proofs.lemmas.Bool.{eqb-true, eqb-false, and_parts}
use Rattle.std.proofs.lemmas.Option.{slice_get_within, get_or_from_slice_get}
use Rattle.std.proofs.lemmas.List.Sums.{AllPass-from_list_all}
use Rattle.field_values.specs.declared.numbers.TheConstants.FieldNo as number
use Rattle.field_values.specs.declared.numbers.FieldNo.{FieldNo}
use Rattle.field_values.specs.declared.numbers.SprintNo.{SprintNo}
use Rattle.field_values.specs.declared.numbers.UserNo.{UserNo}
use Rattle.field_values.specs.declared.words.FieldKind.{FieldKind}
use Rattle.field_values.specs.declared.words.FieldKind.TheVariants as kind
use Rattle.field_values.specs.declared.field.Field.{Field}
use Rattle.field_values.specs.declared.value.Value.{Value}
use Rattle.field_values.specs.declared.value.Value.TheVariants as value
use Rattle.field_values.specs.declared.rules.PostFunction.{PostFunction}
use Rattle.field_values.specs.declared.rules.PostFunction.TheVariants.{Set, Clear, AssignCaller, AssignReporter, AssignLead, Resolution}
use Rattle.field_values.specs.declared.parts.Transition.{Transition}
use Rattle.field_values.specs.Parts.{Parts}
use Rattle.field_forms.specs.declared.form.Form.{Form}
use Rattle.field_forms.specs.declared.form.Form.TheVariants as form
use Rattle.field_forms.specs.Known.{Names, own_field, form_by, form_of, choices_of, fits_form, fits, listed_value_of}
use Rattle.field_forms.specs.Values.{is_of_form}
use Rattle.field_forms.specs.Rules.{is_settable}
use Rattle.field_forms.specs.SoundRules.{condition_is_sound, validator_is_sound, post_is_sound, rules_are_sound}
use Rattle.fields.specs.Sound.{IsSound}
use Rattle.fields.specs.SetupParts.{names_in}
use Rattle.fields.specs.Naming.{field_numbers}
use Rattle.change_history.specs.declared.change.Change.{Change}
use Rattle.change_history.specs.declared.entry.Entry.{Entry}
use Rattle.change_history.specs.History.{History, present, opening_value, value_after}
use Rattle.workflow.specs.Net.{with_changes, put_change, put_changes, is_news, net_changes}
use Rattle.workflow.specs.Difference.{entries_of}
use Rattle.workflow.specs.PostFunctions.{change, post_change, with_post}
use Rattle.workflow.specs.Plan.{all_changes, planned}
use Rattle.workflow.specs.Laws.{AllFit}
use Rattle.sprints.specs.declared.sprint.Sprint.{Sprint}
use Rattle.burndown.specs.Reading.{sprint_in}
use Rattle.burndown.specs.ChartLaws.{with_entries}
use Rattle.tracker_calls.specs.declared.given.Given.{Given}
use Rattle.tracker_calls.specs.declared.given.Given.TheVariants as given
use Rattle.tracker_calls.specs.declared.given.GivenField.{GivenField}
use Rattle.tracker_machine.specs.declared.wanted.Wanted.{Wanted}
use Rattle.tracker_machine.specs.declared.wanted.Wanted.TheVariants as wanted
use Rattle.tracker_machine.specs.Wanted.{given_for, sprint_number, sprint_wanted, wanted_given, wanted_in, change_to, changes_to, changes_of}
use Rattle.tracker_machine.specs.Checks.{sprint_given, missing_sprint}
use Rattle.tracker_machine.specs.SprintRules.{is_of_sprints, BringsSprints}
use Rattle.wanted_values.specs.declared.wants.Opening.{Opening}
use Rattle.wanted_values.specs.Wants.{wants_of}
use Rattle.wanted_values.specs.InSprints.{AreOfSprints, sprint_after}
use Rattle.wanted_values.proofs.Bulk.{form_told, fit_behind}

-- ---- no other field holds a sprint

of_sprint_form : (f : Form) (names : List (List ℕ)) (s : SprintNo) → is_of_form f names (value.Sprint s) ≡ true → f ≡ form.Sprint
of_sprint_form form.Sprint names s e = refl
of_sprint_form (form.Line most) names s e = absurd (cc)
of_sprint_form (form.Prose most) names s e = absurd (cc)
of_sprint_form form.Number names s e = absurd (cc)
of_sprint_form form.Points names s e = absurd (cc)
of_sprint_form form.Choice names s e = absurd (cc)
of_sprint_form form.User names s e = absurd (cc)
of_sprint_form form.Set names s e = absurd (cc)
of_sprint_form form.Labels names s e = absurd (cc)
of_sprint_form form.Date names s e = absurd (cc)

own_no_sprint : (o : Option Field) → option_map (λ f. form_by f.kind) o ≡ Some form.Sprint → ⊥
own_no_sprint None e = cc
own_no_sprint (Some f) e = by_kind f.kind e where
  by_kind : (k : FieldKind) → Some (form_by k) ≡ Some form.Sprint → ⊥
  by_kind kind.Text is = cc
  by_kind kind.Number is = cc
  by_kind kind.Choice is = cc
  by_kind kind.User is = cc
  by_kind kind.Date is = cc

told_sprint : (b1 b2 b3 b4 b5 b6 b7 b8 b9 : Bool) (o : Option Form) → (o ≡ Some form.Sprint → ⊥) → form_told b1 b2 b3 b4 b5 b6 b7 b8 b9 o ≡ Some form.Sprint → b9 ≡ true
told_sprint true b2 b3 b4 b5 b6 b7 b8 b9 o own e = absurd (cc)
told_sprint false true b3 b4 b5 b6 b7 b8 b9 o own e = absurd (cc)
told_sprint false false true b4 b5 b6 b7 b8 b9 o own e = absurd (cc)
told_sprint false false false true b5 b6 b7 b8 b9 o own e = absurd (cc)
told_sprint false false false false true b6 b7 b8 b9 o own e = absurd (cc)
told_sprint false false false false false true b7 b8 b9 o own e = absurd (cc)
told_sprint false false false false false false true b8 b9 o own e = absurd (cc)
told_sprint false false false false false false false true b9 o own e = absurd (cc)
told_sprint false false false false false false false false true o own e = refl
told_sprint false false false false false false false false false o own e = absurd (own e)

sprint_field : (fields : List Field) (n : ℕ) → form_of fields n ≡ Some form.Sprint → n ≡ number.SPRINT.0
unfolding form_of
sprint_field fields n e = eqb-true n number.SPRINT.0 (
    told_sprint ((n == number.TYPE.0) || (n == number.STATUS.0) || (n == number.PRIORITY.0) || (n == number.RESOLUTION.0)) (n == number.SUMMARY.0) (n == number.DESCRIPTION.0)
    ((n == number.ASSIGNEE.0) || (n == number.REPORTER.0)) (n == number.FIX_VERSION.0) (n == number.LABELS.0) (n == number.DUE.0) (n == number.POINTS.0) (n == number.SPRINT.0)
    (option_map (λ f. form_by f.kind) (own_field fields n)) (own_no_sprint (own_field fields n)) e)

sprint_fits : (names : Names) (n : ℕ) (s : SprintNo) → fits names n (value.Sprint s) ≡ true → n ≡ number.SPRINT.0
unfolding fits
sprint_fits names n s e = by_form (form_of names.fields n) refl e where
  by_form : (o : Option Form) → form_of names.fields n ≡ o → option_map_or (fits_form n (choices_of names n) (value.Sprint s)) o false ≡ true → n ≡ number.SPRINT.0
  by_form None is fit = absurd (cc)
  by_form (Some f) is fit = sprint_field names.fields n (is ∙ ap Some (of_sprint_form f (choices_of names n) s fit))

-- a value that fits a field names no sprint beyond so many, unless the field is the sprint's
fits_of_sprints : (names : Names) (count n : ℕ) (v : Value) → fits names n v ≡ true → (n ≡ number.SPRINT.0 → is_of_sprints count v ≡ true) → is_of_sprints count v ≡ true
fits_of_sprints names count n value.Empty fit known = refl
fits_of_sprints names count n (value.Text x) fit known = refl
fits_of_sprints names count n (value.Number x) fit known = refl
fits_of_sprints names count n (value.Choice x) fit known = refl
fits_of_sprints names count n (value.User x) fit known = refl
fits_of_sprints names count n (value.Date x) fit known = refl
fits_of_sprints names count n (value.Set x) fit known = refl
fits_of_sprints names count n (value.Labels x) fit known = refl
fits_of_sprints names count n (value.Sprint s) fit known = known (sprint_fits names n s fit)

-- ---- what is wanted

-- a sprint that isn't missing is one of them
sprint_known : (sprints : List Sprint) (k : ℕ) → missing_sprint sprints (Some k) ≡ None → is_of_sprints (length sprints) (value.Sprint (record { 0 = k })) ≡ true
sprint_known sprints k there = by_place (k == 0) refl there where
  by_place : (b : Bool) → (k == 0) ≡ b → (if is_some (if b then None else slice_get sprints (k - 1)) then None else Some k) ≡ None → (nat_le 1 k && nat_le k (length sprints)) ≡ true
  by_place true is e = absurd (cc)
  by_place false is e = by_found (slice_get sprints (k - 1)) refl e where
    by_found : (o : Option Sprint) → slice_get sprints (k - 1) ≡ o → (if is_some o then None else Some k) ≡ None → (nat_le 1 k && nat_le k (length sprints)) ≡ true
    by_found None at e = absurd (cc)
    by_found (Some s) at e = grind (arith, eqb-false k 0 is, slice_get_within sprints (k - 1) s at)

-- so is one that is wanted by what is given
given_known : (names : Names) (sprints : List Sprint) (o : Option Given) (v : Value) → missing_sprint sprints (option_and_then sprint_number o) ≡ None
    → option_map_or (wanted_given names number.SPRINT.0) o wanted.Nothing ≡ wanted.Value v → is_of_sprints (length sprints) v ≡ true
unfolding listed_value_of form_of
given_known names sprints None v there is = absurd (cc)
given_known names sprints (Some given.Null) v there is = subst (λ w. is_of_sprints (length sprints) w ≡ true) (own is) refl where
  own : wanted.Value value.Empty ≡ wanted.Value v → value.Empty ≡ v
  own e = cc
given_known names sprints (Some (given.Text text)) v there is = absurd (cc)
given_known names sprints (Some (given.List texts)) v there is = absurd (cc)
given_known names sprints (Some given.Other) v there is = absurd (cc)
given_known names sprints (Some (given.Number k)) v there is = by_number (sprint_number (given.Number k)) there is where
  by_number : (o : Option ℕ) → missing_sprint sprints o ≡ None → sprint_wanted o ≡ wanted.Value v → is_of_sprints (length sprints) v ≡ true
  by_number None there is = absurd (cc)
  by_number (Some j) there is = subst (λ w. is_of_sprints (length sprints) w ≡ true) (own is) (sprint_known sprints j there) where
    own : wanted.Value (value.Sprint (record { 0 = j })) ≡ wanted.Value v → value.Sprint (record { 0 = j }) ≡ v
    own e = cc

wanted_of_sprints : (names : Names) (count n : ℕ) (w : Wanted) → AllFit names (change_to n w)
    → (n ≡ number.SPRINT.0 → (v : Value) → w ≡ wanted.Value v → is_of_sprints count v ≡ true) → AreOfSprints count (change_to n w)
wanted_of_sprints names count n wanted.Nothing fit known = tt
wanted_of_sprints names count n wanted.NoValue fit known = tt
wanted_of_sprints names count n (wanted.Value v) fit known = (fits_of_sprints names count n v fit.0 (λ is. known is v refl), tt)

appended_of_sprints : (count : ℕ) (cs ds : List Change) → AreOfSprints count cs → AreOfSprints count ds → AreOfSprints count (cs ++ ds)
appended_of_sprints count [] ds all more = more
appended_of_sprints count (c ∷ cs) ds all more = (all.0, appended_of_sprints count cs ds all.1 more)

all_wanted_of_sprints : (names : Names) (count : ℕ) (wants : ℕ → Wanted) (ns : List ℕ)
    → ((v : Value) → wants number.SPRINT.0 ≡ wanted.Value v → is_of_sprints count v ≡ true) → AllFit names (changes_to wants ns) → AreOfSprints count (changes_to wants ns)
all_wanted_of_sprints names count wants [] known fit = tt
all_wanted_of_sprints names count wants (n ∷ ns) known fit =
    let parts = fit_behind names (change_to n (wants n)) (changes_to wants ns) fit in
    appended_of_sprints count (change_to n (wants n)) (changes_to wants ns)
    (wanted_of_sprints names count n (wants n) parts.0 (λ is v e. known v (ap wants (sym is) ∙ e)))
    (all_wanted_of_sprints names count wants ns known parts.1)

sprint_wants : (setup : Parts) (set : List GivenField) (o : Option Opening) → wants_of setup set o number.SPRINT.0 ≡ wanted_in (names_in setup) number.SPRINT.0 set
sprint_wants setup set None = refl
sprint_wants setup set (Some opening) = refl

-- where no sprint is missing, and all that is wanted fits, each sprint that it names is there
pub wants_of_sprints : (setup : Parts) (sprints : List Sprint) (set : List GivenField) (o : Option Opening) → missing_sprint sprints (sprint_given setup.field set) ≡ None
    → AllFit (names_in setup) (changes_of (names_in setup) (wants_of setup set o)) → AreOfSprints (length sprints) (changes_of (names_in setup) (wants_of setup set o))
unfolding changes_of
wants_of_sprints setup sprints set o there fit =
    all_wanted_of_sprints (names_in setup) (length sprints) (wants_of setup set o) (field_numbers setup.field)
    (λ v is. given_known (names_in setup) sprints (given_for setup.field number.SPRINT.0 set) v there (sym (sprint_wants setup set o) ∙ is)) fit

-- ---- through what a call makes of them

-- each change is such a one
abbrev AllOf : (Change → Type 0) → List Change → Type 0
AllOf P [] = Unit {0}
AllOf P (c ∷ cs) = P c × AllOf P cs

all_kept : (P : Change → Type 0) (b : Bool) (c : Change) (cs : List Change) → P c → AllOf P cs → AllOf P (if b then c ∷ cs else cs)
all_kept P true c cs one all = (one, all)
all_kept P false c cs one all = all

all_filtered : (P : Change → Type 0) (test : Change → Bool) (cs : List Change) → AllOf P cs → AllOf P (filter test cs)
all_filtered P test [] all = tt
all_filtered P test (c ∷ cs) all = all_kept P (test c) c (filter test cs) all.0 (all_filtered P test cs all.1)

put_at : (P : Change → Type 0) (a b : Bool) (d c : Change) (ds more : List Change) → P c → AllOf P (d ∷ ds) → AllOf P more
    → AllOf P (if a then d ∷ more else if b then c ∷ ds else c ∷ d ∷ ds)
put_at P true b d c ds more one all rest = (all.0, rest)
put_at P false true d c ds more one all rest = (one, all.1)
put_at P false false d c ds more one all rest = (one, all)

all_put : (P : Change → Type 0) (ds : List Change) (c : Change) → AllOf P ds → P c → AllOf P (put_change ds c)
all_put P [] c all one = (one, tt)
all_put P (d ∷ ds) c all one = put_at P (nat_lt d.field.0 c.field.0) (d.field.0 == c.field.0) d c ds (put_change ds c) one all (all_put P ds c all.1 one)

all_puts : (P : Change → Type 0) (ds cs : List Change) → AllOf P ds → AllOf P cs → AllOf P (put_changes ds cs)
all_puts P ds [] sorted all = sorted
all_puts P ds (c ∷ cs) sorted all = all_puts P (put_change ds c) cs (all_put P ds c sorted all.0) all.1

all_net : (P : Change → Type 0) (before : FieldNo → Value) (cs : List Change) → AllOf P cs → AllOf P (net_changes before cs)
unfolding net_changes
all_net P before cs all = all_filtered P (is_news before) (put_changes [] cs) (all_puts P [] cs tt all)

all_appended : (P : Change → Type 0) (cs ds : List Change) → AllOf P cs → AllOf P ds → AllOf P (cs ++ ds)
all_appended P [] ds all more = more
all_appended P (c ∷ cs) ds all more = (all.0, all_appended P cs ds all.1 more)

-- a change to a sprint that is there, if to any
abbrev IsOfSprints : ℕ → Change → Type 0
IsOfSprints count c = is_of_sprints count c.to ≡ true

each_of_sprints : (count : ℕ) (cs : List Change) → AreOfSprints count cs → AllOf (IsOfSprints count) cs
each_of_sprints count [] all = tt
each_of_sprints count (c ∷ cs) all = (all.0, each_of_sprints count cs all.1)

are_of_sprints : (count : ℕ) (cs : List Change) → AllOf (IsOfSprints count) cs → AreOfSprints count cs
are_of_sprints count [] all = tt
are_of_sprints count (c ∷ cs) all = (all.0, are_of_sprints count cs all.1)

pub filtered_of_sprints : (count : ℕ) (test : Change → Bool) (cs : List Change) → AreOfSprints count cs → AreOfSprints count (filter test cs)
filtered_of_sprints count test cs all = are_of_sprints count (filter test cs) (all_filtered (IsOfSprints count) test cs (each_of_sprints count cs all))

pub net_of_sprints : (count : ℕ) (before : FieldNo → Value) (cs : List Change) → AreOfSprints count cs → AreOfSprints count (net_changes before cs)
net_of_sprints count before cs all = are_of_sprints count (net_changes before cs) (all_net (IsOfSprints count) before cs (each_of_sprints count cs all))

pub entries_of_sprints : (count : ℕ) (before : FieldNo → Value) (number at : ℕ) (author : UserNo) (cs : List Change) → AreOfSprints count cs
    → BringsSprints count (entries_of before number at author cs)
entries_of_sprints count before number at author [] all = tt
entries_of_sprints count before number at author (c ∷ cs) all = (all.0, entries_of_sprints count before number at author cs all.1)

-- ---- through a transition

-- the same where it changes the field sprint
abbrev IsKnown : ℕ → Change → Type 0
IsKnown count c = c.field.0 ≡ number.SPRINT.0 → is_of_sprints count c.to ≡ true

each_known : (count : ℕ) (cs : List Change) → AreOfSprints count cs → AllOf (IsKnown count) cs
each_known count [] all = tt
each_known count (c ∷ cs) all = ((λ is. all.0), each_known count cs all.1)

known_of_sprints : (names : Names) (count : ℕ) (cs : List Change) → AllFit names cs → AllOf (IsKnown count) cs → AreOfSprints count cs
known_of_sprints names count [] fit known = tt
known_of_sprints names count (c ∷ cs) fit known = (fits_of_sprints names count c.field.0 c.to fit.0 known.0, known_of_sprints names count cs fit.1 known.1)

-- the field sprint isn't settable
not_sprint : (n : ℕ) → is_settable n ≡ true → n ≢ number.SPRINT.0
not_sprint n settable same = refute (subst (λ k. is_settable k ≡ true) same settable) where
  refute : false ≡ true → ⊥
  refute e = cc

-- no post function changes it
post_elsewhere : (names : Names) (setup : Parts) (h : History) (caller : UserNo) (values : FieldNo → Value) (post : PostFunction) → post_is_sound names post ≡ true
    → (post_change setup h caller values post).field.0 ≢ number.SPRINT.0
post_elsewhere names setup h caller values (Set field v) sound = not_sprint field.0 (and_parts (is_settable field.0) _ sound).0
post_elsewhere names setup h caller values (Clear field) sound = not_sprint field.0 (and_parts (is_settable field.0) _ sound).0
post_elsewhere names setup h caller values AssignCaller sound = λ e. cc
post_elsewhere names setup h caller values AssignReporter sound = λ e. cc
post_elsewhere names setup h caller values AssignLead sound = λ e. cc
post_elsewhere names setup h caller values (Resolution choice) sound = λ e. cc

posts_known : (names : Names) (count : ℕ) (setup : Parts) (h : History) (caller : UserNo) (so_far : List Change) (posts : List PostFunction)
    → list_all (post_is_sound names) posts ≡ true → AllOf (IsKnown count) so_far → AllOf (IsKnown count) (with_post setup h caller so_far posts)
posts_known names count setup h caller so_far [] sound known = known
posts_known names count setup h caller so_far (post ∷ posts) sound known =
    let parts = and_parts (post_is_sound names post) _ sound in
    let next = post_change setup h caller (with_changes (present h) so_far) post in
    posts_known names count setup h caller (so_far ++ next ∷ []) posts parts.1
    (all_appended (IsKnown count) so_far (next ∷ []) known
    ((λ is. absurd (post_elsewhere names setup h caller (with_changes (present h) so_far) post parts.0 is)), tt))

post_rules : (names : Names) (t : Transition) → rules_are_sound names t ≡ true → list_all (post_is_sound names) t.post ≡ true
post_rules names t sound =
    let checks = and_parts (list_all (condition_is_sound (length names.groups)) t.conditions) _ sound in
    (and_parts (list_all (validator_is_sound names.fields) t.validators) _ checks.1).1

-- the rules of a transition of a setup are sound
pub sound_rules : (setup : Parts) (place : ℕ) (t : Transition) → IsSound setup → slice_get setup.transition place ≡ Some t → rules_are_sound (names_in setup) t ≡ true
sound_rules setup place t sound is =
    ap (rules_are_sound (names_in setup)) (sym (get_or_from_slice_get setup.transition place t t is))
    ∙ AllPass-from_list_all (rules_are_sound (names_in setup)) setup.transition sound.rules place t (slice_get_within setup.transition place t is)

pub planned_of_sprints : (setup : Parts) (h : History) (caller : UserNo) (t : Transition) (inputs : List Change) (count : ℕ) → rules_are_sound (names_in setup) t ≡ true
    → AllFit (names_in setup) (planned setup h caller t inputs) → AreOfSprints count inputs → AreOfSprints count (planned setup h caller t inputs)
unfolding planned all_changes
planned_of_sprints setup h caller t inputs count sound fit all =
    let to : Change = change number.STATUS (value.Choice t.to) in
    let inputs_known = all_appended (IsKnown count) inputs (to ∷ []) (each_known count inputs all) ((λ is. absurd (cc)), tt) in
    known_of_sprints (names_in setup) count (planned setup h caller t inputs) fit
    (all_net (IsKnown count) (present h) (all_changes setup h caller t inputs)
    (posts_known (names_in setup) count setup h caller (inputs ++ to ∷ []) t.post (post_rules (names_in setup) t sound) inputs_known))

-- ---- the sprint that an issue is in

value_after-append : (v : Value) (xs ys : List Entry) (f : FieldNo) → value_after v (xs ++ ys) f ≡ value_after (value_after v xs f) ys f
value_after-append v [] ys f = refl
value_after-append v (x ∷ xs) ys f = value_after-append (if x.field.0 == f.0 then x.to else v) xs ys f

in_after : (v : Value) (es : List Entry) → sprint_in (value_after v es number.SPRINT) ≡ sprint_after (sprint_in v) es
in_after v [] = refl
in_after v (e ∷ es) = by_field (e.field.0 == number.SPRINT.0) (λ w. in_after w es) where
  by_field : (b : Bool) → ((w : Value) → sprint_in (value_after w es number.SPRINT) ≡ sprint_after (sprint_in w) es)
      → sprint_in (value_after (if b then e.to else v) es number.SPRINT) ≡ sprint_after (if b then sprint_in e.to else sprint_in v) es
  by_field true rest = rest e.to
  by_field false rest = rest v

-- after entries it is in that of the last of them that changes it, or in the same as before
pub in_sprint_after : (h : History) (es : List Entry) → sprint_in (present (with_entries h es) number.SPRINT) ≡ sprint_after (sprint_in (present h number.SPRINT)) es
in_sprint_after h es =
    ap sprint_in (value_after-append (opening_value h.opening number.SPRINT) h.entries es number.SPRINT) ∙ in_after (present h number.SPRINT) es
