-- What the form of a body says of values, in the words of trackers.
use Rattle.std.proofs.Common.{◌≡◌, ℕ, ◌<◌, ◌&&◌, true, false, List, [], ◌∷◌, Option, Some, None, is_some, refl, subst, ltb-true}
use Rattle.std.specs.List.{All, list_all}
use Rattle.std.specs.Option.{option_map_or}
use Rattle.std.proofs.lemmas.Bool.{and_parts, false≢true}
use Rattle.std.proofs.lemmas.List.Elements.{All-head, All-tail}
use Rattle.field_values.specs.declared.numbers.UserNo.{UserNo}
use Rattle.field_values.specs.declared.value.Value.{Value}
use Rattle.field_values.specs.declared.value.Value.TheVariants as value
use Rattle.field_forms.specs.declared.form.Form.{Form}
use Rattle.field_forms.specs.Known.{Names, form_of, choices_of, may_be_empty, fits_form, fits}
use Rattle.fields.specs.Naming.{field_numbers}
use Rattle.change_history.specs.declared.change.Change.{Change}
use Rattle.change_history.specs.declared.entry.Entry.{Entry}
use Rattle.workflow.specs.Laws.{AllFit}
use Rattle.tracker_keeper.specs.Forms.{is_small, is_filled, is_user, may_hold, are_among, are_opening, IsGroupEntry}
use Rattle.tracker_machine.specs.Tracker.{AllEntriesFit, AllSmall}
use Rattle.tracker_rows.specs.Rules.{MayEmptyFields}

-- ---- values

empty_fits : (names : Names) (n : ℕ) → is_some (form_of names.fields n) ≡ true → may_be_empty n ≡ true → fits names n value.Empty ≡ true
unfolding fits
empty_fits names n there may = by (form_of names.fields n) there
  where
    by : (o : Option Form) → is_some o ≡ true → option_map_or (fits_form n (choices_of names n) value.Empty) o false ≡ true
    by None is = absurd (false≢true is)
    by (Some form) is = may

pub held_fits : (names : Names) (n : ℕ) (v : Value) → may_hold names n v ≡ true → (v ≡ value.Empty → may_be_empty n ≡ true) → fits names n v ≡ true
held_fits names n value.Empty held empty = empty_fits names n held (empty refl)
held_fits names n (value.Text text) held empty = (and_parts (fits names n (value.Text text)) true held).0
held_fits names n (value.Number z) held empty = (and_parts (fits names n (value.Number z)) true held).0
held_fits names n (value.Choice choice) held empty = (and_parts (fits names n (value.Choice choice)) true held).0
held_fits names n (value.User user) held empty = (and_parts (fits names n (value.User user)) true held).0
held_fits names n (value.Date day) held empty = (and_parts (fits names n (value.Date day)) true held).0
held_fits names n (value.Set choices) held empty = (and_parts (fits names n (value.Set choices)) true held).0
held_fits names n (value.Labels labels) held empty = (and_parts (fits names n (value.Labels labels)) true held).0
held_fits names n (value.Sprint sprint) held empty = (and_parts (fits names n (value.Sprint sprint)) (is_small (value.Sprint sprint)) held).0

held_small : (names : Names) (n : ℕ) (v : Value) → may_hold names n v ≡ true → is_small v ≡ true
held_small names n value.Empty held = refl
held_small names n (value.Text text) held = refl
held_small names n (value.Number z) held = refl
held_small names n (value.Choice choice) held = refl
held_small names n (value.User user) held = refl
held_small names n (value.Date day) held = refl
held_small names n (value.Set choices) held = refl
held_small names n (value.Labels labels) held = refl
held_small names n (value.Sprint sprint) held = (and_parts (fits names n (value.Sprint sprint)) (is_small (value.Sprint sprint)) held).1

-- ---- opening values

not_empty : (n : ℕ) (v : Value) → is_filled v ≡ true → v ≡ value.Empty → may_be_empty n ≡ true
not_empty n v filled is = absurd (false≢true (subst (λ w. is_filled w ≡ true) is filled))

listed_fit : (names : Names) (cs : List Change) → list_all (λ c. is_filled c.to && may_hold names c.field.0 c.to) cs ≡ true → AllFit names cs
listed_fit names [] all = tt
listed_fit names (c ∷ cs) all =
    let parts = and_parts (is_filled c.to && may_hold names c.field.0 c.to) (list_all (λ c. is_filled c.to && may_hold names c.field.0 c.to) cs) all in
    let here = and_parts (is_filled c.to) (may_hold names c.field.0 c.to) parts.0 in
    (held_fits names c.field.0 c.to here.1 (not_empty c.field.0 c.to here.0), listed_fit names cs parts.1)

pub opening_fit : (names : Names) (cs : List Change) → are_opening names cs ≡ true → AllFit names cs
opening_fit names cs are =
    listed_fit names cs (and_parts (list_all (λ c. is_filled c.to && may_hold names c.field.0 c.to) cs) (are_among (field_numbers names.fields) cs) are).0

-- ---- entries

pub entries_fit : (names : Names) (change at : ℕ) (author : UserNo) (es : List Entry) → All (IsGroupEntry names change at author) es → MayEmptyFields es
    → AllEntriesFit names es
entries_fit names change at author [] all may = tt
entries_fit names change at author (e ∷ es) all may = (
  held_fits names e.field.0 e.to (All-head (IsGroupEntry names change at author) e es all).to may.0,
  entries_fit names change at author es (All-tail (IsGroupEntry names change at author) e es all) may.1,
)

pub entries_small : (names : Names) (change at : ℕ) (author : UserNo) (es : List Entry) → All (IsGroupEntry names change at author) es → AllSmall es
entries_small names change at author [] all = tt
entries_small names change at author (e ∷ es) all = (
  held_small names e.field.0 e.to (All-head (IsGroupEntry names change at author) e es all).to,
  entries_small names change at author es (All-tail (IsGroupEntry names change at author) e es all),
)

pub user_of : (count : ℕ) (user : UserNo) → is_user count user ≡ true → user.0 < count
user_of count user is = ltb-true user.0 count is
