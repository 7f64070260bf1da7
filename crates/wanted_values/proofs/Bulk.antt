-- The text bytes of values that fit: what one call adds is far below what the limit leaves room for.
use Rattle.std.proofs.Common.{◌≡◌, ◌==◌, ℕ, ◌+◌, ◌*◌, ◌≤◌, List, [], ◌∷◌, ◌++◌, ◌||◌, ◌&&◌, length, map, Bool, true, false, Option, Some, None, refl, ap, sym, subst, arith, ◌∙◌, inl, inr}
use Rattle.std.specs.Prelude.{if◌then◌else◌, nat_lt, nat_le, not, sum_by, option_map}
use Rattle.std.specs.Option.{option_map_or}
use Rattle.std.specs.List.{list_all, list_any}
use Rattle.std.proofs.lemmas.Bool.{eqb-true}
use Rattle.std.proofs.lemmas.List.Sums.{sum_by-cons, sum_by-append}
use Rattle.field_values.specs.declared.numbers.TheConstants.FieldNo as number
use Rattle.field_values.specs.declared.numbers.FieldNo.{FieldNo}
use Rattle.field_values.specs.declared.numbers.ChoiceNo.{ChoiceNo}
use Rattle.field_values.specs.declared.words.FieldKind.{FieldKind}
use Rattle.field_values.specs.declared.words.FieldKind.TheVariants as kind
use Rattle.field_values.specs.declared.field.Field.{Field}
use Rattle.field_values.specs.declared.value.Value.{Value}
use Rattle.field_values.specs.declared.value.Value.TheVariants as value
use Rattle.field_forms.specs.declared.form.Form.{Form}
use Rattle.field_forms.specs.declared.form.Form.TheVariants.{Line, Prose, Number, Points, Choice, User, Set, Labels, Date, Sprint}
use Rattle.field_forms.specs.Known.{Names, own_field, form_by, form_of, choices_of, fits_form, fits}
use Rattle.field_forms.specs.Names.{is_from_to, has_controls}
use Rattle.field_forms.specs.Values.{is_of_form, is_set, is_label, is_label_list, is_before}
use Rattle.field_values.specs.declared.numbers.UserNo.{UserNo}
use Rattle.tracker_limits.specs.Limits.{text_reserve}
use Rattle.change_history.specs.declared.change.Change.{Change}
use Rattle.fields.specs.Naming.{built_in_numbers, field_numbers}
use Rattle.fields.specs.Sound.{has_own_number}
use Rattle.workflow.specs.Same.{is_empty}
use Rattle.workflow.specs.Difference.{AreNews, entry_of, entries_of}
use Rattle.workflow.specs.Laws.{AllFit}
use Rattle.tracker_machine.specs.declared.wanted.Wanted.{Wanted}
use Rattle.tracker_machine.specs.declared.wanted.Wanted.TheVariants as wanted
use Rattle.tracker_machine.specs.Wanted.{change_to, changes_to, changes_of}
use Rattle.tracker_machine.specs.Create.{filled}
use Rattle.tracker_machine.specs.Checks.{text_bytes, entry_bytes}
use Rattle.tracker_machine.specs.Tracker.{Holds}
use Rattle.wanted_values.proofs.Counting.{few_changes}

-- both hold where their conjunction does
both : (a b : Bool) → (a && b) ≡ true → (a ≡ true) × (b ≡ true)
both true b e = (refl, e)
both false b e = cc

-- ---- one value

-- choices that rise below a count are at most so many
set_room : (count : ℕ) (c : ChoiceNo) (cs : List ChoiceNo) → is_set count (c ∷ cs) ≡ true → c.0 + length (c ∷ cs) ≤ count
set_room count c [] e = grind (arith, e)
set_room count c (d ∷ ds) e =
    let parts = both (nat_lt c.0 d.0) (is_set count (d ∷ ds)) e in
    grind (arith, parts.0, set_room count d ds parts.1)

few_in_set : (count : ℕ) (cs : List ChoiceNo) → is_set count cs ≡ true → length cs ≤ count
few_in_set count [] e = omega arith
few_in_set count (c ∷ cs) e = omega (arith, set_room count c cs e)

-- a label has at most 64 bytes
short_label : (text : List ℕ) → is_label text ≡ true → length text ≤ 64
short_label text e = grind (arith, (both (is_from_to 1 64 (length text)) (not (list_any (λ b. b == 32) text) && not (has_controls text)) e).0)

short_labels : (labels : List (List ℕ)) → is_label_list labels ≡ true → sum_by length labels ≤ 64 * length labels
short_labels [] e = omega arith
short_labels (l ∷ []) e = grind (arith, short_label l e, sum_by-cons length l [])
short_labels (l ∷ k ∷ ls) e =
    let parts = both (is_label l && is_before l k) (is_label_list (k ∷ ls)) e in
    let here = both (is_label l) (is_before l k) parts.0 in
    grind (arith, short_label l here.0, sum_by-cons length l (k ∷ ls), short_labels (k ∷ ls) parts.1)

-- the most text bytes of a value of a form
abbrev most_of : Form → ℕ
most_of (Line most) = most
most_of (Prose most) = most
most_of Number = 0
most_of Points = 0
most_of Choice = 0
most_of User = 0
most_of Set = 31_000
most_of Labels = 1_024
most_of Date = 0
most_of Sprint = 0

text_of_form : (form : Form) (names : List (List ℕ)) (text : List ℕ) → is_of_form form names (value.Text text) ≡ true → length text ≤ most_of form
text_of_form (Line most) names text e = grind (arith, (both (is_from_to 1 most (length text)) (list_all (λ b. nat_le 32 b) text) e).0)
text_of_form (Prose most) names text e = grind (arith, (both (is_from_to 1 most (length text)) (list_all (λ b. nat_le 32 b || (b == 9) || (b == 10)) text) e).0)
text_of_form Number names text e = absurd (cc)
text_of_form Points names text e = absurd (cc)
text_of_form Choice names text e = absurd (cc)
text_of_form User names text e = absurd (cc)
text_of_form Set names text e = absurd (cc)
text_of_form Labels names text e = absurd (cc)
text_of_form Date names text e = absurd (cc)
text_of_form Sprint names text e = absurd (cc)

set_of_form : (form : Form) (names : List (List ℕ)) (cs : List ChoiceNo) → (form ≡ Set → length names ≤ 500) → is_of_form form names (value.Set cs) ≡ true → 62 * length cs ≤ most_of form
set_of_form Set names cs few e = omega (arith, few refl, few_in_set (length names) cs (both (nat_lt 0 (length cs)) (is_set (length names) cs) e).1)
set_of_form (Line most) names cs few e = absurd (cc)
set_of_form (Prose most) names cs few e = absurd (cc)
set_of_form Number names cs few e = absurd (cc)
set_of_form Points names cs few e = absurd (cc)
set_of_form Choice names cs few e = absurd (cc)
set_of_form User names cs few e = absurd (cc)
set_of_form Labels names cs few e = absurd (cc)
set_of_form Date names cs few e = absurd (cc)
set_of_form Sprint names cs few e = absurd (cc)

labels_of_form : (form : Form) (names : List (List ℕ)) (ls : List (List ℕ)) → is_of_form form names (value.Labels ls) ≡ true → sum_by length ls ≤ most_of form
labels_of_form Labels names ls e =
    let parts = both (is_from_to 1 16 (length ls)) (is_label_list ls) e in
    grind (arith, parts.0, short_labels ls parts.1)
labels_of_form (Line most) names ls e = absurd (cc)
labels_of_form (Prose most) names ls e = absurd (cc)
labels_of_form Number names ls e = absurd (cc)
labels_of_form Points names ls e = absurd (cc)
labels_of_form Choice names ls e = absurd (cc)
labels_of_form User names ls e = absurd (cc)
labels_of_form Set names ls e = absurd (cc)
labels_of_form Date names ls e = absurd (cc)
labels_of_form Sprint names ls e = absurd (cc)

bytes_of_form : (n : ℕ) (form : Form) (names : List (List ℕ)) (v : Value) → (form ≡ Set → length names ≤ 500) → fits_form n names v form ≡ true → text_bytes v ≤ most_of form
bytes_of_form n form names value.Empty few e = omega arith
bytes_of_form n form names (value.Text text) few e = text_of_form form names text e
bytes_of_form n form names (value.Number z) few e = omega arith
bytes_of_form n form names (value.Choice c) few e = omega arith
bytes_of_form n form names (value.User u) few e = omega arith
bytes_of_form n form names (value.Date d) few e = omega arith
bytes_of_form n form names (value.Set cs) few e = set_of_form form names cs few e
bytes_of_form n form names (value.Labels ls) few e = labels_of_form form names ls e
bytes_of_form n form names (value.Sprint s) few e = omega arith

-- ---- by the field

-- the most text bytes of a value that fits a field: of 500 versions, of a description, and of any other
pub most_bytes : ℕ → ℕ
most_bytes n = if n == number.FIX_VERSION.0 then 31_000 else if n == number.DESCRIPTION.0 then 4_096 else 1_024

-- a form that is told is at most as bulky
at_most : (x form : Form) (m : ℕ) → Some x ≡ Some form → most_of x ≤ m → most_of form ≤ m
at_most x form m e le = subst (λ y. most_of y ≤ m) (same e) le where
  same : Some x ≡ Some form → x ≡ form
  same is = cc

own_most : (k : FieldKind) → most_of (form_by k) ≤ 1_024
own_most kind.Text = omega arith
own_most kind.Number = omega arith
own_most kind.Choice = omega arith
own_most kind.User = omega arith
own_most kind.Date = omega arith

own_form : (o : Option Field) (form : Form) → option_map (λ f. form_by f.kind) o ≡ Some form → most_of form ≤ 1_024
own_form None form e = absurd (cc)
own_form (Some f) form e = at_most (form_by f.kind) form 1_024 e (own_most f.kind)

own_no_set : (o : Option Field) → option_map (λ f. form_by f.kind) o ≡ Some Set → ⊥
own_no_set None e = cc
own_no_set (Some f) e = by_kind f.kind e where
  by_kind : (k : FieldKind) → Some (form_by k) ≡ Some Set → ⊥
  by_kind kind.Text is = cc
  by_kind kind.Number is = cc
  by_kind kind.Choice is = cc
  by_kind kind.User is = cc
  by_kind kind.Date is = cc

-- the form by the conditions in their order
abbrev pub form_told : (b1 b2 b3 b4 b5 b6 b7 b8 b9 : Bool) → Option Form → Option Form
form_told b1 b2 b3 b4 b5 b6 b7 b8 b9 o =
    if b1 then Some Choice else if b2 then Some (Line 255) else if b3 then Some (Prose 4096) else if b4 then Some User else if b5 then Some Set
    else if b6 then Some Labels else if b7 then Some Date else if b8 then Some Points else if b9 then Some Sprint else o

abbrev bound_told : Bool → Bool → ℕ
bound_told fix description = if fix then 31_000 else if description then 4_096 else 1_024

roomy : (b c : Bool) → 1_024 ≤ bound_told b c
roomy true c = omega arith
roomy false true = omega arith
roomy false false = omega arith

told_most : (b1 b2 b3 b4 b5 b6 b7 b8 b9 : Bool) (o : Option Form) (form : Form) → (o ≡ Some form → most_of form ≤ 1_024)
    → form_told b1 b2 b3 b4 b5 b6 b7 b8 b9 o ≡ Some form → most_of form ≤ bound_told b5 b3
told_most true b2 b3 b4 b5 b6 b7 b8 b9 o form own e = at_most Choice form (bound_told b5 b3) e (omega (arith, roomy b5 b3))
told_most false true b3 b4 b5 b6 b7 b8 b9 o form own e = at_most (Line 255) form (bound_told b5 b3) e (omega (arith, roomy b5 b3))
told_most false false true b4 true b6 b7 b8 b9 o form own e = at_most (Prose 4096) form 31_000 e (omega arith)
told_most false false true b4 false b6 b7 b8 b9 o form own e = at_most (Prose 4096) form 4_096 e (omega arith)
told_most false false false true b5 b6 b7 b8 b9 o form own e = at_most User form (bound_told b5 false) e (omega (arith, roomy b5 false))
told_most false false false false true b6 b7 b8 b9 o form own e = at_most Set form 31_000 e (omega arith)
told_most false false false false false true b7 b8 b9 o form own e = at_most Labels form 1_024 e (omega arith)
told_most false false false false false false true b8 b9 o form own e = at_most Date form 1_024 e (omega arith)
told_most false false false false false false false true b9 o form own e = at_most Points form 1_024 e (omega arith)
told_most false false false false false false false false true o form own e = at_most Sprint form 1_024 e (omega arith)
told_most false false false false false false false false false o form own e = own e

told_set : (b1 b2 b3 b4 b5 b6 b7 b8 b9 : Bool) (o : Option Form) → (o ≡ Some Set → ⊥) → form_told b1 b2 b3 b4 b5 b6 b7 b8 b9 o ≡ Some Set → b5 ≡ true
told_set true b2 b3 b4 b5 b6 b7 b8 b9 o own e = absurd (cc)
told_set false true b3 b4 b5 b6 b7 b8 b9 o own e = absurd (cc)
told_set false false true b4 b5 b6 b7 b8 b9 o own e = absurd (cc)
told_set false false false true b5 b6 b7 b8 b9 o own e = absurd (cc)
told_set false false false false true b6 b7 b8 b9 o own e = refl
told_set false false false false false true b7 b8 b9 o own e = absurd (cc)
told_set false false false false false false true b8 b9 o own e = absurd (cc)
told_set false false false false false false false true b9 o own e = absurd (cc)
told_set false false false false false false false false true o own e = absurd (cc)
told_set false false false false false false false false false o own e = absurd (own e)

form_most : (fields : List Field) (n : ℕ) (form : Form) → form_of fields n ≡ Some form → most_of form ≤ most_bytes n
unfolding form_of most_bytes
form_most fields n form e =
    told_most ((n == number.TYPE.0) || (n == number.STATUS.0) || (n == number.PRIORITY.0) || (n == number.RESOLUTION.0)) (n == number.SUMMARY.0) (n == number.DESCRIPTION.0)
    ((n == number.ASSIGNEE.0) || (n == number.REPORTER.0)) (n == number.FIX_VERSION.0) (n == number.LABELS.0) (n == number.DUE.0) (n == number.POINTS.0) (n == number.SPRINT.0)
    (option_map (λ f. form_by f.kind) (own_field fields n)) form (own_form (own_field fields n) form) e

set_field : (fields : List Field) (n : ℕ) → form_of fields n ≡ Some Set → n ≡ number.FIX_VERSION.0
unfolding form_of
set_field fields n e = eqb-true n number.FIX_VERSION.0 (
    told_set ((n == number.TYPE.0) || (n == number.STATUS.0) || (n == number.PRIORITY.0) || (n == number.RESOLUTION.0)) (n == number.SUMMARY.0) (n == number.DESCRIPTION.0)
    ((n == number.ASSIGNEE.0) || (n == number.REPORTER.0)) (n == number.FIX_VERSION.0) (n == number.LABELS.0) (n == number.DUE.0) (n == number.POINTS.0) (n == number.SPRINT.0)
    (option_map (λ f. form_by f.kind) (own_field fields n)) (own_no_set (own_field fields n)) e)

versions_here : (names : Names) → choices_of names number.FIX_VERSION.0 ≡ names.versions
unfolding choices_of
versions_here names = refl

versions_at : (names : Names) (n : ℕ) → n ≡ number.FIX_VERSION.0 → choices_of names n ≡ names.versions
versions_at names n is = subst (λ k. choices_of names k ≡ names.versions) (sym is) (versions_here names)

pub fitting_bytes : (names : Names) (n : ℕ) (v : Value) → length names.versions ≤ 500 → fits names n v ≡ true → text_bytes v ≤ most_bytes n
unfolding fits
fitting_bytes names n v few e = by_form (form_of names.fields n) refl e where
  by_form : (o : Option Form) → form_of names.fields n ≡ o → option_map_or (fits_form n (choices_of names n) v) o false ≡ true → text_bytes v ≤ most_bytes n
  by_form None is fit = absurd (cc)
  by_form (Some form) is fit =
      let names_few : form ≡ Set → length (choices_of names n) ≤ 500 =
      λ set. subst (λ cs. length cs ≤ 500) (sym (versions_at names n (set_field names.fields n (is ∙ ap Some set)))) few in
      omega (arith, bytes_of_form n form (choices_of names n) v names_few fit, form_most names.fields n form is)

-- ---- a change group

-- what a field holds, if anything, fits it
held_bytes : (names : Names) (f : FieldNo) (v : Value) → length names.versions ≤ 500 → Holds names f v → text_bytes v ≤ most_bytes f.0
held_bytes names f v few (inl none) = subst (λ w. text_bytes w ≤ most_bytes f.0) (sym none) (omega arith)
held_bytes names f v few (inr fit) = fitting_bytes names f.0 v few fit

-- what versions and a description may take over 1,024 bytes, where they may still come
spread : ℕ → ℕ
spread low = (if nat_le low number.DESCRIPTION.0 then 3_072 else 0) + (if nat_le low number.FIX_VERSION.0 then 29_976 else 0)

spread_after : (low n : ℕ) → low ≤ n → most_bytes n + spread (n + 1) ≤ 1_024 + spread low
unfolding most_bytes spread
spread_after low n le = grind (arith, eqb-true n number.FIX_VERSION.0, eqb-true n number.DESCRIPTION.0)

group_bytes : (names : Names) (before : FieldNo → Value) (change at : ℕ) (author : UserNo) (low : ℕ) (cs : List Change) → length names.versions ≤ 500
    → ((f : FieldNo) → Holds names f (before f)) → AreNews before low cs → AllFit names cs
    → sum_by entry_bytes (entries_of before change at author cs) ≤ 2_048 * length cs + (spread low + spread low)
group_bytes names before change at author low [] few holds news fit = omega arith
group_bytes names before change at author low (c ∷ cs) few holds news fit =
    omega (
      arith,
      sum_by-cons entry_bytes (entry_of before change at author c) (entries_of before change at author cs),
      held_bytes names c.field (before c.field) few (holds c.field),
      fitting_bytes names c.field.0 c.to few fit.0,
      spread_after low c.field.0 news.0,
      group_bytes names before change at author (c.field.0 + 1) cs few holds news.2 fit.1,
    )

-- the entries of a group of at most 43 fields are far from what one call may add
pub light_group : (names : Names) (before : FieldNo → Value) (change at : ℕ) (author : UserNo) (cs : List Change) → length names.versions ≤ 500 → length names.fields ≤ 30
    → ((f : FieldNo) → Holds names f (before f)) → AreNews before 0 cs → AllFit names cs → sum_by entry_bytes (entries_of before change at author cs) ≤ text_reserve
unfolding spread
light_group names before change at author cs few few_fields holds news fit =
    omega (arith, group_bytes names before change at author 0 cs few holds news fit, few_changes names before cs news fit few_fields)

-- ---- a new issue

-- the text bytes of what some changes are to
abbrev bytes_to : List Change → ℕ
bytes_to cs = sum_by (λ c. text_bytes c.to) cs

kept_bytes : (b : Bool) (c : Change) (cs ds : List Change) → bytes_to ds ≤ bytes_to cs → bytes_to (if b then c ∷ ds else ds) ≤ bytes_to (c ∷ cs)
kept_bytes true c cs ds le = omega (arith, le, sum_by-cons (λ (d : Change). text_bytes d.to) c ds, sum_by-cons (λ (d : Change). text_bytes d.to) c cs)
kept_bytes false c cs ds le = omega (arith, le, sum_by-cons (λ (d : Change). text_bytes d.to) c cs)

filled_bytes : (cs : List Change) → bytes_to (filled cs) ≤ bytes_to cs
filled_bytes [] = omega arith
filled_bytes (c ∷ cs) = kept_bytes (not (is_empty c.to)) c cs (filled cs) (filled_bytes cs)

pub fit_behind : (names : Names) (cs ds : List Change) → AllFit names (cs ++ ds) → AllFit names cs × AllFit names ds
fit_behind names [] ds all = (tt, all)
fit_behind names (c ∷ cs) ds all = let rest = fit_behind names cs ds all.1 in ((all.0, rest.0), rest.1)

change_bytes : (names : Names) (n : ℕ) (w : Wanted) → length names.versions ≤ 500 → AllFit names (change_to n w) → bytes_to (change_to n w) ≤ most_bytes n
change_bytes names n wanted.Nothing few fit = omega arith
change_bytes names n wanted.NoValue few fit = omega arith
change_bytes names n (wanted.Value v) few fit =
    omega (arith, sum_by-cons (λ (d : Change). text_bytes d.to) (record { field = record { 0 = n }; to = v }) [], fitting_bytes names n v few fit.0)

changes_bytes : (names : Names) (wants : ℕ → Wanted) (ns : List ℕ) → length names.versions ≤ 500 → AllFit names (changes_to wants ns) → bytes_to (changes_to wants ns) ≤ sum_by most_bytes ns
changes_bytes names wants [] few fit = omega arith
changes_bytes names wants (n ∷ ns) few fit =
    let parts = fit_behind names (change_to n (wants n)) (changes_to wants ns) fit in
    omega (
      arith,
      sum_by-append (λ (d : Change). text_bytes d.to) (change_to n (wants n)) (changes_to wants ns),
      sum_by-cons most_bytes n ns,
      change_bytes names n (wants n) few parts.0,
      changes_bytes names wants ns few parts.1,
    )

own_bytes_at : (n : ℕ) → is_from_to 10000 19999 n ≡ true → most_bytes n ≤ 1_024
unfolding most_bytes
own_bytes_at n own = grind (arith, own, eqb-true n number.FIX_VERSION.0, eqb-true n number.DESCRIPTION.0)

own_bytes : (fields : List Field) → list_all has_own_number fields ≡ true → sum_by most_bytes (map (λ f. f.number.0) fields) ≤ 1_024 * length fields
own_bytes [] own = omega arith
own_bytes (f ∷ fs) own =
    let parts = both (has_own_number f) (list_all has_own_number fs) own in
    omega (arith, sum_by-cons most_bytes f.number.0 (map (λ g. g.number.0) fs), own_bytes_at f.number.0 parts.0, own_bytes fs parts.1)

built_in_bytes : sum_by most_bytes built_in_numbers ≡ 46_360
unfolding most_bytes
built_in_bytes = refl

-- so are the opening values of an issue
pub light_opening : (names : Names) (wants : ℕ → Wanted) → length names.versions ≤ 500 → length names.fields ≤ 30 → list_all has_own_number names.fields ≡ true
    → AllFit names (changes_of names wants) → sum_by (λ c. text_bytes c.to) (filled (changes_of names wants)) ≤ text_reserve
unfolding changes_of
light_opening names wants few few_fields own fit =
    omega (
      arith,
      filled_bytes (changes_to wants (field_numbers names.fields)),
      changes_bytes names wants (field_numbers names.fields) few fit,
      sum_by-append most_bytes built_in_numbers (map (λ f. f.number.0) names.fields),
      built_in_bytes,
      own_bytes names.fields own,
    )
