-- An issue that is created has a type, a summary and a status.
use Rattle.std.proofs.Common.{◌≡◌, ◌≢◌, ◌==◌, ℕ, List, [], ◌∷◌, ◌++◌, Bool, true, false, true≢false, not, Option, Some, None, option_map, refl, sym, ap, ◌∙◌, subst, inl, inr}
use Rattle.std.specs.Prelude.{if◌then◌else◌}
use Rattle.std.specs.List.{list_any}
use Rattle.std.specs.Option.{is_some}
use Rattle.std.proofs.lemmas.Bool.{eqb-true, eq-eqb, cases_Bool}
use Rattle.field_values.specs.declared.value.Value.{Value}
use Rattle.field_values.specs.declared.value.Value.TheVariants as value
use Rattle.field_values.specs.Parts.{Parts}
use Rattle.field_forms.specs.Known.{Names, fits, form_of, choices_of, value_of}
use Rattle.fields.specs.SetupParts.{names_in}
use Rattle.change_history.specs.declared.change.Change.{Change}
use Rattle.change_history.specs.History.{opening_value}
use Rattle.workflow.specs.Same.{is_empty}
use Rattle.tracker_calls.specs.declared.given.GivenField.{GivenField}
use Rattle.tracker_machine.specs.declared.wanted.Wanted.{Wanted}
use Rattle.tracker_machine.specs.declared.wanted.Wanted.TheVariants as wanted
use Rattle.tracker_machine.specs.Machine.{Machine}
use Rattle.fields.specs.Naming.{field_numbers}
use Rattle.tracker_machine.specs.Wanted.{given_for, wanted_or, is_fault, faults_in, field_at_fault, change_to, changes_to, changes_of}
use Rattle.tracker_machine.specs.Checks.{values_refusal}
use Rattle.tracker_machine.specs.Create.{member_wanted, status_wanted, create_wants, filled}
use Rattle.tracker_machine.specs.Tracker.{AreNamed}
use Rattle.wanted_values.proofs.Fitting.{found_least, none_at}

-- ---- what the changes that aren't to nothing open a field with

not_empty : (v : Value) → v ≢ value.Empty → is_empty v ≡ false
not_empty value.Empty some = absurd (some refl)
not_empty (value.Text t) some = refl
not_empty (value.Number n) some = refl
not_empty (value.Choice c) some = refl
not_empty (value.User u) some = refl
not_empty (value.Date d) some = refl
not_empty (value.Set s) some = refl
not_empty (value.Labels l) some = refl
not_empty (value.Sprint s) some = refl

opened_here : (n : ℕ) (v : Value) (rest : List Change) → v ≢ value.Empty → opening_value (filled (change_to n (wanted.Value v) ++ rest)) (record { 0 = n }) ≡ v
opened_here n v rest some = rw (not_empty v some, eq-eqb n n refl) refl

passed_by : (b : Bool) (c : Change) (cs : List Change) (n : ℕ) → (c.field.0 == n) ≡ false → opening_value (if b then c ∷ cs else cs) (record { 0 = n }) ≡ opening_value cs (record { 0 = n })
passed_by true c cs n other = rw other refl
passed_by false c cs n other = refl

opened_behind : (k n : ℕ) (w : Wanted) (rest : List Change) → (k == n) ≡ false → opening_value (filled (change_to k w ++ rest)) (record { 0 = n }) ≡ opening_value (filled rest) (record { 0 = n })
opened_behind k n wanted.Nothing rest other = refl
opened_behind k n wanted.NoValue rest other = refl
opened_behind k n (wanted.Value v) rest other = passed_by (not (is_empty v)) (record { field = record { 0 = k }; to = v }) (filled rest) n other

opened_with : (wants : ℕ → Wanted) (ns : List ℕ) (n : ℕ) (v : Value) → list_any (λ k. k == n) ns ≡ true → wants n ≡ wanted.Value v → v ≢ value.Empty
    → opening_value (filled (changes_to wants ns)) (record { 0 = n }) ≡ v
opened_with wants [] n v there is some = absurd (cc)
opened_with wants (k ∷ ns) n v there is some = elim (cases_Bool (k == n)) [
  | inl same ↦
      let wanted_here : wants k ≡ wanted.Value v = ap wants (eqb-true k n same) ∙ is in
      subst (λ w. opening_value (filled (change_to k w ++ changes_to wants ns)) (record { 0 = n }) ≡ v) (sym wanted_here)
      (subst (λ m. opening_value (filled (change_to m (wanted.Value v) ++ changes_to wants ns)) (record { 0 = n }) ≡ v) (sym (eqb-true k n same)) (opened_here n v (changes_to wants ns) some))
  | inr other ↦ opened_behind k n (wants k) (changes_to wants ns) other ∙ opened_with wants ns n v (rw other at there) is some
]

-- ---- what isn't at fault

-- a field that is wanted at all, and isn't at fault, is wanted to hold a value that fits
pub record IsFit (names : Names) (n : ℕ) (w : Wanted) : Type 0 where
  pub v : Value
  pub is : w ≡ wanted.Value v
  pub fit : fits names n v ≡ true

fit_value : (names : Names) (n : ℕ) (w : Wanted) → w ≢ wanted.Nothing → is_fault names n w ≡ false → IsFit names n w
fit_value names n wanted.Nothing some ok = absurd (some refl)
fit_value names n wanted.NoValue some ok = absurd (cc)
fit_value names n (wanted.Value v) some ok = record { v = v; is = refl; fit = sure (fits names n v) ok } where
  sure : (b : Bool) → not b ≡ false → b ≡ true
  sure true e = refl
  sure false e = cc

-- none of some fields is at fault
none_of : (names : Names) (wants : ℕ → Wanted) (ns : List ℕ) (n : ℕ) → faults_in names wants ns ≡ [] → list_any (λ k. k == n) ns ≡ true → is_fault names n (wants n) ≡ false
none_of names wants [] n none there = absurd (cc)
none_of names wants (k ∷ ns) n none there =
    let here = none_at (is_fault names k (wants k)) k (faults_in names wants ns) none in
    elim (cases_Bool (k == n)) [
      | inl same ↦ subst (λ m. is_fault names m (wants m) ≡ false) (eqb-true k n same) here.0
      | inr other ↦ none_of names wants ns n here.1 (rw other at there)
    ]

member_is_wanted : (names : Names) (n : ℕ) (set : List GivenField) (text : List ℕ) → member_wanted names n set text ≢ wanted.Nothing
member_is_wanted names n set text = by_cases (is_some (given_for names.fields n set)) (value_of names n text) where
  by_cases : (b : Bool) (o : Option Value) → (if b then wanted.NoValue else wanted_or o) ≢ wanted.Nothing
  by_cases true o e = cc
  by_cases false None e = cc
  by_cases false (Some v) e = cc

status_is_wanted : (setup : Parts) (set : List GivenField) → status_wanted setup set ≢ wanted.Nothing
status_is_wanted setup set = by_cases (is_some (given_for setup.field 4 set)) where
  by_cases : (b : Bool) → (if b then wanted.NoValue else wanted.Value (value.Choice setup.first_status)) ≢ wanted.Nothing
  by_cases true e = cc
  by_cases false e = cc

-- ---- the three fields

type_fits_nothing : (names : Names) → fits names 1 value.Empty ≡ false
unfolding fits form_of choices_of
type_fits_nothing names = refl

summary_fits_nothing : (names : Names) → fits names 2 value.Empty ≡ false
unfolding fits form_of choices_of
summary_fits_nothing names = refl

status_fits_nothing : (names : Names) → fits names 4 value.Empty ≡ false
unfolding fits form_of choices_of
status_fits_nothing names = refl

there_is : (names : Names) (n : ℕ) (v : Value) → fits names n value.Empty ≡ false → fits names n v ≡ true → v ≢ value.Empty
there_is names n v nothing fit empty = true≢false (sym fit ∙ (ap (fits names n) empty ∙ nothing))

opened_fit : (names : Names) (wants : ℕ → Wanted) (n : ℕ) → fits names n value.Empty ≡ false → list_any (λ k. k == n) (field_numbers names.fields) ≡ true → wants n ≢ wanted.Nothing
    → faults_in names wants (field_numbers names.fields) ≡ [] → opening_value (filled (changes_to wants (field_numbers names.fields))) (record { 0 = n }) ≢ value.Empty
opened_fit names wants n nothing there some none =
    let fit = fit_value names n (wants n) some (none_of names wants (field_numbers names.fields) n none there) in
    let is_there : fit.v ≢ value.Empty = there_is names n fit.v nothing fit.fit in
    subst (λ v. v ≢ value.Empty) (sym (opened_with wants (field_numbers names.fields) n fit.v there fit.is is_there)) is_there

no_refusal : {A B : Type 0} (f : A → B) (o : Option A) → option_map f o ≡ None → o ≡ None
no_refusal f None e = refl
no_refusal f (Some x) e = cc

-- where no value is refused, the new issue has all three
pub created_named : (m : Machine) (caller : ℕ) (issue_type summary : List ℕ) (set : List GivenField) → values_refusal m (create_wants m.setup caller issue_type summary set) ≡ None
    → AreNamed (opening_value (filled (changes_of (names_in m.setup) (create_wants m.setup caller issue_type summary set))))
unfolding field_at_fault changes_of
created_named m caller issue_type summary set none =
    let names = names_in m.setup in
    let wants = create_wants m.setup caller issue_type summary set in
    let clear = found_least None (faults_in names wants (field_numbers names.fields)) (no_refusal _ (field_at_fault names wants) none) in (
      opened_fit names wants 1 (type_fits_nothing names) refl (member_is_wanted names 1 set issue_type) clear,
      opened_fit names wants 2 (summary_fits_nothing names) refl (member_is_wanted names 2 set summary) clear,
      opened_fit names wants 4 (status_fits_nothing names) refl (status_is_wanted m.setup set) clear,
    )
