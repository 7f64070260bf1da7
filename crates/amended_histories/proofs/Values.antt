-- What a row and a reply say of a value is the same.
use Rattle.std.proofs.Common.{◌≡◌, ℕ, ◌==◌, ◌||◌, ◌⊎◌, List, [], Bool, true, false, Option, Some, None, refl, sym, ap, ◌∙◌, subst, inl, inr}
use Rattle.std.specs.Prelude.{if◌then◌else◌, option_map}
use Rattle.std.specs.Option.{option_map_or}
use Rattle.std.proofs.lemmas.Bool.{eqb-true}
use Rattle.field_values.specs.declared.numbers.TheConstants.FieldNo as number
use Rattle.field_values.specs.declared.numbers.FieldNo.{FieldNo}
use Rattle.field_values.specs.declared.numbers.ChoiceNo.{ChoiceNo}
use Rattle.field_values.specs.declared.numbers.UserNo.{UserNo}
use Rattle.field_values.specs.declared.words.FieldKind.{FieldKind}
use Rattle.field_values.specs.declared.words.FieldKind.TheVariants as kind
use Rattle.field_values.specs.declared.field.Field.{Field}
use Rattle.field_values.specs.declared.value.Value.{Value}
use Rattle.field_values.specs.declared.value.Value.TheVariants as value
use Rattle.field_forms.specs.declared.form.Form.{Form}
use Rattle.field_forms.specs.declared.form.Form.TheVariants.{Line, Prose, Number, Points, Choice, User, Set, Labels, Date, Sprint}
use Rattle.field_forms.specs.Known.{Names, own_choices, own_field, form_by, form_of, choices_of, fits_form, fits}
use Rattle.field_forms.specs.TextLists.{texts_data}
use Rattle.field_forms.specs.ValueTexts.{chosen_names}
use Rattle.fields.specs.Naming.{name_at}
use Rattle.serde_json.specs.Data.{string}
use Rattle.reply_texts.specs.Reply.{shown_or_null}
use Rattle.tracker_keeper.specs.ValueData.{value_data}
use Rattle.tracker_machine.specs.Show.{shown_value}
use Rattle.tracker_machine.specs.Tracker.{Holds}

-- ---- a set is of the field of versions alone

own_no_set : (o : Option Field) → option_map (λ f. form_by f.kind) o ≡ Some Set → ⊥
own_no_set None e = cc
own_no_set (Some f) e = by_kind f.kind e where
  by_kind : (k : FieldKind) → Some (form_by k) ≡ Some Set → ⊥
  by_kind kind.Text is = cc
  by_kind kind.Number is = cc
  by_kind kind.Choice is = cc
  by_kind kind.User is = cc
  by_kind kind.Date is = cc

-- the form by the conditions in their order
abbrev form_told : (b1 b2 b3 b4 b5 b6 b7 b8 b9 : Bool) → Option Form → Option Form
form_told b1 b2 b3 b4 b5 b6 b7 b8 b9 o =
    if b1 then Some Choice else if b2 then Some (Line 255) else if b3 then Some (Prose 4096) else if b4 then Some User else if b5 then Some Set
    else if b6 then Some Labels else if b7 then Some Date else if b8 then Some Points else if b9 then Some Sprint else o

told_set : (b1 b2 b3 b4 b5 b6 b7 b8 b9 : Bool) (o : Option Form) → (o ≡ Some Set → ⊥) → form_told b1 b2 b3 b4 b5 b6 b7 b8 b9 o ≡ Some Set → b5 ≡ true
told_set true b2 b3 b4 b5 b6 b7 b8 b9 o own e = absurd (cc)
told_set false true b3 b4 b5 b6 b7 b8 b9 o own e = absurd (cc)
told_set false false true b4 b5 b6 b7 b8 b9 o own e = absurd (cc)
told_set false false false true b5 b6 b7 b8 b9 o own e = absurd (cc)
told_set false false false false true b6 b7 b8 b9 o own e = refl
told_set false false false false false true b7 b8 b9 o own e = absurd (cc)
told_set false false false false false false true b8 b9 o own e = absurd (cc)
told_set false false false false false false false true b9 o own e = absurd (cc)
told_set false false false false false false false false true o own e = absurd (cc)
told_set false false false false false false false false false o own e = absurd (own e)

set_field : (fields : List Field) (n : ℕ) → form_of fields n ≡ Some Set → n ≡ number.FIX_VERSION.0
unfolding form_of
set_field fields n e = eqb-true n number.FIX_VERSION.0 (
    told_set ((n == number.TYPE.0) || (n == number.STATUS.0) || (n == number.PRIORITY.0) || (n == number.RESOLUTION.0)) (n == number.SUMMARY.0) (n == number.DESCRIPTION.0)
    ((n == number.ASSIGNEE.0) || (n == number.REPORTER.0)) (n == number.FIX_VERSION.0) (n == number.LABELS.0) (n == number.DUE.0) (n == number.POINTS.0) (n == number.SPRINT.0)
    (option_map (λ f. form_by f.kind) (own_field fields n)) (own_no_set (own_field fields n)) e)

versions_here : (names : Names) → choices_of names number.FIX_VERSION.0 ≡ names.versions
unfolding choices_of
versions_here names = refl

form_is_set : (n : ℕ) (names : List (List ℕ)) (choices : List ChoiceNo) (form : Form) → fits_form n names (value.Set choices) form ≡ true → form ≡ Set
form_is_set n names choices (Line most) e = absurd (cc)
form_is_set n names choices (Prose most) e = absurd (cc)
form_is_set n names choices Number e = absurd (cc)
form_is_set n names choices Points e = absurd (cc)
form_is_set n names choices Choice e = absurd (cc)
form_is_set n names choices User e = absurd (cc)
form_is_set n names choices Set e = refl
form_is_set n names choices Labels e = absurd (cc)
form_is_set n names choices Date e = absurd (cc)
form_is_set n names choices Sprint e = absurd (cc)

set_choices : (names : Names) (n : ℕ) (choices : List ChoiceNo) → fits names n (value.Set choices) ≡ true → choices_of names n ≡ names.versions
unfolding fits
set_choices names n choices e = by_form (form_of names.fields n) refl e where
  by_form : (o : Option Form) → form_of names.fields n ≡ o → option_map_or (fits_form n (choices_of names n) (value.Set choices)) o false ≡ true → choices_of names n ≡ names.versions
  by_form None is fit = absurd (cc)
  by_form (Some form) is fit =
      let set = form_is_set n (choices_of names n) choices form fit in
      subst (λ k. choices_of names k ≡ names.versions) (sym (set_field names.fields n (is ∙ ap Some set))) (versions_here names)

-- ---- a user is of a field of users

-- whose form is that of users: the conditions that hold, or don't
user_told : (b1 b2 b3 b4 b5 b6 b7 b8 b9 : Bool) (o : Option Form) → form_told b1 b2 b3 b4 b5 b6 b7 b8 b9 o ≡ Some User
    → (b4 ≡ true) ⊎ ((b1 ≡ false) × (b4 ≡ false) × (b5 ≡ false) × (o ≡ Some User))
user_told true b2 b3 b4 b5 b6 b7 b8 b9 o e = absurd (cc)
user_told false true b3 b4 b5 b6 b7 b8 b9 o e = absurd (cc)
user_told false false true b4 b5 b6 b7 b8 b9 o e = absurd (cc)
user_told false false false true b5 b6 b7 b8 b9 o e = inl refl
user_told false false false false true b6 b7 b8 b9 o e = absurd (cc)
user_told false false false false false true b7 b8 b9 o e = absurd (cc)
user_told false false false false false false true b8 b9 o e = absurd (cc)
user_told false false false false false false false true b9 o e = absurd (cc)
user_told false false false false false false false false true o e = absurd (cc)
user_told false false false false false false false false false o e = inr (refl, refl, refl, e)

either : (a b : Bool) → (a || b) ≡ true → (a ≡ true) ⊎ (b ≡ true)
either true b e = inl refl
either false b e = inr e

neither : (a b : Bool) → (a || b) ≡ false → (a ≡ false) × (b ≡ false)
neither true b e = absurd (cc)
neither false b e = (refl, e)

assignees_here : (names : Names) → choices_of names number.ASSIGNEE.0 ≡ names.users
unfolding choices_of
assignees_here names = refl

reporters_here : (names : Names) → choices_of names number.REPORTER.0 ≡ names.users
unfolding choices_of
reporters_here names = refl

own_users : (names : Names) (o : Option Field) → option_map (λ f. form_by f.kind) o ≡ Some User → option_map_or (own_choices names) o [] ≡ names.users
own_users names None e = absurd (cc)
own_users names (Some f) e = by_kind f.kind refl e
  where
    chosen : f.kind ≡ kind.User → own_choices names f ≡ names.users
    chosen is = rw is refl

    by_kind : (k : FieldKind) → f.kind ≡ k → Some (form_by k) ≡ Some User → own_choices names f ≡ names.users
    by_kind kind.Text is e' = absurd (cc)
    by_kind kind.Number is e' = absurd (cc)
    by_kind kind.Choice is e' = absurd (cc)
    by_kind kind.User is e' = chosen is
    by_kind kind.Date is e' = absurd (cc)

own_here : (names : Names) (n : ℕ) → ((n == number.TYPE.0) || (n == number.STATUS.0) || (n == number.PRIORITY.0) || (n == number.RESOLUTION.0)) ≡ false
    → ((n == number.ASSIGNEE.0) || (n == number.REPORTER.0)) ≡ false → (n == number.FIX_VERSION.0) ≡ false
    → choices_of names n ≡ option_map_or (own_choices names) (own_field names.fields n) []
unfolding choices_of
own_here names n choice user version =
    let first = neither ((n == number.TYPE.0) || (n == number.STATUS.0) || (n == number.PRIORITY.0)) (n == number.RESOLUTION.0) choice in
    let second = neither ((n == number.TYPE.0) || (n == number.STATUS.0)) (n == number.PRIORITY.0) first.0 in
    let third = neither (n == number.TYPE.0) (n == number.STATUS.0) second.0 in
    rw (third.0, third.1, user, second.1, first.1, version) refl

users_at : (names : Names) (n : ℕ) → form_of names.fields n ≡ Some User → choices_of names n ≡ names.users
unfolding form_of
users_at names n e =
    by (user_told ((n == number.TYPE.0) || (n == number.STATUS.0) || (n == number.PRIORITY.0) || (n == number.RESOLUTION.0)) (n == number.SUMMARY.0) (n == number.DESCRIPTION.0)
    ((n == number.ASSIGNEE.0) || (n == number.REPORTER.0)) (n == number.FIX_VERSION.0) (n == number.LABELS.0) (n == number.DUE.0) (n == number.POINTS.0) (n == number.SPRINT.0)
    (option_map (λ f. form_by f.kind) (own_field names.fields n)) e)
  where
    here : ((n == number.ASSIGNEE.0) ≡ true) ⊎ ((n == number.REPORTER.0) ≡ true) → choices_of names n ≡ names.users
    here (inl is) = subst (λ k. choices_of names k ≡ names.users) (sym (eqb-true n number.ASSIGNEE.0 is)) (assignees_here names)
    here (inr is) = subst (λ k. choices_of names k ≡ names.users) (sym (eqb-true n number.REPORTER.0 is)) (reporters_here names)

    by : (((n == number.ASSIGNEE.0) || (n == number.REPORTER.0)) ≡ true)
        ⊎ ((((n == number.TYPE.0) || (n == number.STATUS.0) || (n == number.PRIORITY.0) || (n == number.RESOLUTION.0)) ≡ false)
        × (((n == number.ASSIGNEE.0) || (n == number.REPORTER.0)) ≡ false) × ((n == number.FIX_VERSION.0) ≡ false)
        × (option_map (λ f. form_by f.kind) (own_field names.fields n) ≡ Some User))
        → choices_of names n ≡ names.users
    by (inl is) = here (either (n == number.ASSIGNEE.0) (n == number.REPORTER.0) is)
    by (inr own) = own_here names n own.0 own.1 own.2 ∙ own_users names (own_field names.fields n) own.3

form_is_user : (n : ℕ) (names : List (List ℕ)) (user : UserNo) (form : Form) → fits_form n names (value.User user) form ≡ true → form ≡ User
form_is_user n names user (Line most) e = absurd (cc)
form_is_user n names user (Prose most) e = absurd (cc)
form_is_user n names user Number e = absurd (cc)
form_is_user n names user Points e = absurd (cc)
form_is_user n names user Choice e = absurd (cc)
form_is_user n names user User e = refl
form_is_user n names user Set e = absurd (cc)
form_is_user n names user Labels e = absurd (cc)
form_is_user n names user Date e = absurd (cc)
form_is_user n names user Sprint e = absurd (cc)

user_choices : (names : Names) (n : ℕ) (user : UserNo) → fits names n (value.User user) ≡ true → choices_of names n ≡ names.users
unfolding fits
user_choices names n user e = by_form (form_of names.fields n) refl e where
  by_form : (o : Option Form) → form_of names.fields n ≡ o → option_map_or (fits_form n (choices_of names n) (value.User user)) o false ≡ true → choices_of names n ≡ names.users
  by_form None is fit = absurd (cc)
  by_form (Some form) is fit = users_at names n (is ∙ ap Some (form_is_user n (choices_of names n) user form fit))

-- ---- a value

shown_fitting : (names : Names) (n : ℕ) (v : Value) → fits names n v ≡ true → shown_or_null (shown_value names n v) ≡ value_data names n v
shown_fitting names n value.Empty fit = refl
shown_fitting names n (value.Text text) fit = refl
shown_fitting names n (value.Number z) fit = refl
shown_fitting names n (value.Choice choice) fit = refl
shown_fitting names n (value.User user) fit = ap (λ us. string (name_at us user.0)) (sym (user_choices names n user fit))
shown_fitting names n (value.Date day) fit = refl
shown_fitting names n (value.Set choices) fit = ap (λ cs. texts_data (chosen_names cs choices)) (sym (set_choices names n choices fit))
shown_fitting names n (value.Labels labels) fit = refl
shown_fitting names n (value.Sprint sprint) fit = refl

-- of a value that a field holds
pub shown_held : (names : Names) (f : FieldNo) (v : Value) → Holds names f v → shown_or_null (shown_value names f.0 v) ≡ value_data names f.0 v
shown_held names f v (inl none) = subst (λ w. shown_or_null (shown_value names f.0 w) ≡ value_data names f.0 w) (sym none) refl
shown_held names f v (inr fit) = shown_fitting names f.0 v fit
