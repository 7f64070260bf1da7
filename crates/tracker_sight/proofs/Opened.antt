-- What a new issue opens with is what its create gives.
use Rattle.std.proofs.Common.{◌≡◌, ◌≢◌, ℕ, ◌==◌, min, Bool, true, false, not, List, [], ◌∷◌, ◌++◌, length, filter, Option, Some, None, option_map, decimal, bytes_eq, inl, inr, refl, sym, ◌∙◌, ap, subst, arith, eqb-true}
use Rattle.std.specs.Prelude.{if◌then◌else◌}
use Rattle.std.specs.List.{list_all, list_any, position_or_len}
use Rattle.std.specs.Int.{is_in_range}
use Rattle.std.specs.Option.{is_some}
use Rattle.std.proofs.lemmas.Bool.{cases_Bool, true≢false, and_parts}
use Rattle.std.proofs.lemmas.Grind.{common_steps}
use Rattle.std.proofs.lemmas.Option.{same_Some, none-some}
use Rattle.std.proofs.lemmas.Slice.Eq.{bytes_eq-Decides}
use Rattle.std.proofs.Math.Seq.{take-append_seam}
use Rattle.field_values.specs.declared.numbers.FieldNo.{FieldNo}
use Rattle.field_values.specs.declared.numbers.TheConstants.FieldNo as number
use Rattle.field_values.specs.declared.value.Value.{Value}
use Rattle.field_values.specs.declared.value.Value.TheVariants.{Empty, Text}
use Rattle.field_forms.specs.Known.{Names, form_of, value_of, fits}
use Rattle.field_forms.specs.Values.{value_in, is_line}
use Rattle.fields.specs.SetupParts.{names_in}
use Rattle.fields.specs.Naming.{field_numbers, key_of}
use Rattle.change_history.specs.declared.change.Change.{Change}
use Rattle.change_history.specs.History.{opening_value}
use Rattle.workflow.specs.Same.{is_empty, same_value}
use Rattle.workflow.specs.Inputs.{least_with}
use Rattle.workflow.proofs.Sameness.{same_value-Decides}
use Rattle.change_history.specs.Key.{project_of}
use Rattle.tracker_calls.specs.declared.given.GivenField.{GivenField}
use Rattle.tracker_calls.specs.declared.cause.Cause.{Cause}
use Rattle.tracker_machine.specs.declared.wanted.Wanted.{Wanted}
use Rattle.tracker_machine.specs.declared.wanted.Wanted.TheVariants as wanted
use Rattle.tracker_machine.specs.Machine.{Machine}
use Rattle.tracker_machine.specs.Wanted.{wanted_or, given_for, is_fault, faults_in, field_at_fault, change_to, changes_to, changes_of}
use Rattle.tracker_machine.specs.Checks.{values_refusal}
use Rattle.tracker_machine.specs.Create.{member_wanted, create_wants, filled, is_value_of}

-- ---- no field is at fault

least_there : (least : ℕ) (ns : List ℕ) → least_with (Some least) ns ≢ None
least_there least [] = λ is. none-some least (sym is)
least_there least (n ∷ ns) = least_there (min least n) ns

no_least : (ns : List ℕ) → least_with None ns ≡ None → ns ≡ []
no_least [] is = refl
no_least (n ∷ ns) is = absurd (least_there n ns is)

passes_none : (p : ℕ → Bool) (ns : List ℕ) (n : ℕ) → filter p ns ≡ [] → list_any (λ k. k == n) ns ≡ true → p n ≡ false
passes_none p [] n none there = absurd (true≢false (sym there))
passes_none p (k ∷ ks) n none there = elim (cases_Bool (p k)) [
  | inl holds ↦ absurd (nonempty k (filter p ks) (rw holds at none))
  | inr fails ↦ elim (cases_Bool (k == n)) [
    | inl here ↦ ap p (sym (eqb-true k n here)) ∙ fails
    | inr behind ↦ passes_none p ks n (rw fails at none) (rw behind at there)
  ]
] where
  nonempty : (x : ℕ) (xs : List ℕ) → (x ∷ xs ≢ [])
  nonempty x xs is = cc

module _ (names : Names) (wants : ℕ → Wanted) (none : field_at_fault names wants ≡ None) where
  no_faults : faults_in names wants (field_numbers names.fields) ≡ []
  unfolding field_at_fault
  no_faults = no_least (faults_in names wants (field_numbers names.fields)) none

  no_fault : (n : ℕ) → list_any (λ k. k == n) (field_numbers names.fields) ≡ true → is_fault names n (wants n) ≡ false
  no_fault n there = passes_none (λ k. is_fault names k (wants k)) (field_numbers names.fields) n no_faults there

-- ---- what an issue opens with

opening_behind : (n : ℕ) (w : Wanted) (f : FieldNo) (rest : List Change) → (n == f.0) ≡ false → opening_value (filled (change_to n w ++ rest)) f ≡ opening_value (filled rest) f
opening_behind n wanted.Nothing f rest other = refl
opening_behind n wanted.NoValue f rest other = refl
opening_behind n (wanted.Value v) f rest other = elim (cases_Bool (is_empty v)) [
  | inl empty ↦ rw empty refl
  | inr holds ↦ rw (holds, other) refl
]

opens_with : (wants : ℕ → Wanted) (ns : List ℕ) (f : FieldNo) (v : Value) → list_any (λ k. k == f.0) ns ≡ true → wants f.0 ≡ wanted.Value v → is_empty v ≡ false
    → opening_value (filled (changes_to wants ns)) f ≡ v
opens_with wants [] f v there is some = absurd (true≢false (sym there))
opens_with wants (n ∷ ns) f v there is some = elim (cases_Bool (n == f.0)) [
  | inl here ↦
      let own : wants n ≡ wanted.Value v = ap wants (eqb-true n f.0 here) ∙ is in
      ap (λ w. opening_value (filled (change_to n w ++ changes_to wants ns)) f) own ∙ rw (some, here) refl
  | inr behind ↦ opening_behind n (wants n) f (changes_to wants ns) behind ∙ opens_with wants ns f v (rw behind at there) is some
]

opening_is : (names : Names) (wants : ℕ → Wanted) (f : FieldNo) (v : Value) → list_any (λ k. k == f.0) (field_numbers names.fields) ≡ true → wants f.0 ≡ wanted.Value v
    → is_empty v ≡ false → opening_value (filled (changes_of names wants)) f ≡ v
unfolding changes_of
opening_is names wants f v there is some = opens_with wants (field_numbers names.fields) f v there is some

-- ---- the type and the summary

-- where the member for it is no fault, it is one of the field's values
member_is : (names : Names) (n : ℕ) (given : List GivenField) (text : List ℕ) → is_fault names n (member_wanted names n given text) ≡ false
    → (v : Value) × (member_wanted names n given text ≡ wanted.Value v) × (value_of names n text ≡ Some v) × (fits names n v ≡ true)
member_is names n given text passes = by (is_some (given_for names.fields n given)) (value_of names n text) refl passes
  where
    fine : (b : Bool) → not b ≡ false → b ≡ true
    fine true is = refl
    fine false is = absurd (true≢false is)

    by : (b : Bool) (o : Option Value) → value_of names n text ≡ o → is_fault names n (if b then wanted.NoValue else wanted_or (value_of names n text)) ≡ false
        → (v : Value) × ((if b then wanted.NoValue else wanted_or (value_of names n text)) ≡ wanted.Value v) × (value_of names n text ≡ Some v) × (fits names n v ≡ true)
    by true o is fits_it = absurd (true≢false fits_it)
    by false None is fits_it = absurd (true≢false (subst (λ o. is_fault names n (wanted_or o) ≡ false) is fits_it))
    by false (Some v) is fits_it = (v, ap wanted_or is, is, fine (fits names n v) (subst (λ o. is_fault names n (wanted_or o) ≡ false) is fits_it))

-- a type, and a summary, isn't empty
type_fits : (names : Names) (v : Value) → fits names number.TYPE.0 v ≡ true → is_empty v ≡ false
unfolding fits form_of
type_fits names Empty is = absurd (true≢false (sym is))
type_fits names _ is = refl

summary_is : (names : Names) (text : List ℕ) (v : Value) → value_of names number.SUMMARY.0 text ≡ Some v → v ≡ Text text
unfolding value_of value_in form_of
summary_is names text v is = by (is_line 255 text) is
  where
    by : (b : Bool) → (if b then Some (Text text) else None) ≡ Some v → v ≡ Text text
    by true e = sym (same_Some (Text text) v e)
    by false e = absurd (none-some v e)

module _ (m : Machine) (user : ℕ) (issue_type summary : List ℕ) (given : List GivenField)
    (none : values_refusal m (create_wants m.setup user issue_type summary given) ≡ None) where
  abbrev names : Names
  names = names_in m.setup

  abbrev wants : ℕ → Wanted
  wants = create_wants m.setup user issue_type summary given

  fault_none : (o : Option ℕ) (f : ℕ → Cause) → option_map f o ≡ None → o ≡ None
  fault_none None f is = refl
  fault_none (Some n) f is = absurd (none-some (f n) (sym is))

  at_fault : field_at_fault names wants ≡ None
  at_fault = fault_none (field_at_fault names wants) _ none

  pub opens_with_type : is_value_of names number.TYPE.0 issue_type (opening_value (filled (changes_of names wants)) number.TYPE) ≡ true
  opens_with_type =
      let it = member_is names number.TYPE.0 given issue_type (no_fault names wants at_fault number.TYPE.0 refl) in
      let opens : opening_value (filled (changes_of names wants)) number.TYPE ≡ it.0 = opening_is names wants number.TYPE it.0 refl it.1 (type_fits names it.0 it.3) in
      rw it.2 ((same_value-Decides it.0 (opening_value (filled (changes_of names wants)) number.TYPE)).1 (sym opens))

  pub opens_with_summary : same_value (Text summary) (opening_value (filled (changes_of names wants)) number.SUMMARY) ≡ true
  opens_with_summary =
      let it = member_is names number.SUMMARY.0 given summary (no_fault names wants at_fault number.SUMMARY.0 refl) in
      let text : it.0 ≡ Text summary = summary_is names summary it.0 it.2 in
      let opens : opening_value (filled (changes_of names wants)) number.SUMMARY ≡ Text summary =
      opening_is names wants number.SUMMARY it.0 refl it.1 (ap is_empty text) ∙ text in
      (same_value-Decides (Text summary) (opening_value (filled (changes_of names wants)) number.SUMMARY)).1 (sym opens)

-- ---- the project

hyphen_at : (letters rest : List ℕ) → list_all (λ b. is_in_range 65 90 b) letters ≡ true → position_or_len (λ b. b == 45) (letters ++ 45 ∷ rest) ≡ length letters
hyphen_at [] rest all = refl
hyphen_at (letter ∷ letters) rest all =
    let parts = and_parts (is_in_range 65 90 letter) (list_all (λ b. is_in_range 65 90 b) letters) all in
    let later : position_or_len (λ b. b == 45) (letters ++ 45 ∷ rest) ≡ length letters = hyphen_at letters rest parts.1 in
    let other : (letter == 45) ≡ false = grind (arith, parts.0) in
    grind (arith, common_steps, other, later)

-- a new issue's project is the one that it is created in
pub project_of_key : (letters : List ℕ) (n : ℕ) → list_all (λ b. is_in_range 65 90 b) letters ≡ true → bytes_eq (project_of (key_of letters n)) letters ≡ true
project_of_key letters n all =
    (bytes_eq-Decides (project_of (key_of letters n)) letters).1 (rw (hyphen_at letters (decimal n) all) (take-append_seam letters (45 ∷ decimal n)))
