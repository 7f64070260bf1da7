-- What comes of some fields and then of others comes of all of them.
use Rattle.std.proofs.Common.{◌≡◌, ◌++◌, ℕ, List, [], ◌∷◌, map, Bool, true, false, Option, Some, None, refl, sym, ap, ◌∙◌, append_assoc, min, cond}
use Rattle.field_values.specs.declared.field.Field.{Field}
use Rattle.field_forms.specs.Known.{Names}
use Rattle.fields.specs.Naming.{built_in_numbers, field_numbers}
use Rattle.change_history.specs.declared.change.Change.{Change}
use Rattle.workflow.specs.Inputs.{least_with}
use Rattle.tracker_machine.specs.declared.wanted.Wanted.{Wanted}
use Rattle.tracker_machine.specs.Wanted.{faults_in, changes_to, change_to, is_fault}

least_with-append : (least : Option ℕ) (xs ys : List ℕ) → least_with (least_with least xs) ys ≡ least_with least (xs ++ ys)
least_with-append least [] ys = refl
least_with-append None (n ∷ xs) ys = least_with-append (Some n) xs ys
least_with-append (Some k) (n ∷ xs) ys = least_with-append (Some (min k n)) xs ys

faults_in-append : (names : Names) (wants : ℕ → Wanted) (ms ns : List ℕ)
    → faults_in names wants (ms ++ ns) ≡ faults_in names wants ms ++ faults_in names wants ns
faults_in-append names wants [] ns = refl
faults_in-append names wants (n ∷ ms) ns =
    ap (λ (rest : List ℕ). cond (is_fault names n (wants n)) (n ∷ rest) rest) (faults_in-append names wants ms ns)
    ∙ either (is_fault names n (wants n)) where
      either : (b : Bool) → cond b (n ∷ (faults_in names wants ms ++ faults_in names wants ns)) (faults_in names wants ms ++ faults_in names wants ns)
          ≡ cond b (n ∷ faults_in names wants ms) (faults_in names wants ms) ++ faults_in names wants ns
      either true = refl
      either false = refl

changes_to-append : (wants : ℕ → Wanted) (ms ns : List ℕ) → changes_to wants (ms ++ ns) ≡ changes_to wants ms ++ changes_to wants ns
changes_to-append wants [] ns = refl
changes_to-append wants (n ∷ ms) ns =
    ap (λ (rest : List Change). change_to n (wants n) ++ rest) (changes_to-append wants ms ns)
    ∙ sym (append_assoc (change_to n (wants n)) (changes_to wants ms) (changes_to wants ns))

-- the first field at fault among those of every tracker and then among the setup's own
pub faults_of_all : (names : Names) (wants : ℕ → Wanted) (built own : Option ℕ)
    → built ≡ least_with None (faults_in names wants built_in_numbers)
    → own ≡ least_with built (faults_in names wants (map (λ f. f.number.0) names.fields))
    → own ≡ least_with None (faults_in names wants (field_numbers names.fields))
faults_of_all names wants built own first then_own =
    then_own
    ∙ ap (λ (least : Option ℕ). least_with least (faults_in names wants (map (λ f. f.number.0) names.fields))) first
    ∙ least_with-append None (faults_in names wants built_in_numbers) (faults_in names wants (map (λ f. f.number.0) names.fields))
    ∙ ap (least_with None) (sym (faults_in-append names wants built_in_numbers (map (λ f. f.number.0) names.fields)))

pub changes_to_all : (fields : List Field) (wants : ℕ → Wanted) (built own : List Change)
    → built ≡ changes_to wants built_in_numbers
    → own ≡ built ++ changes_to wants (map (λ f. f.number.0) fields)
    → own ≡ changes_to wants (field_numbers fields)
changes_to_all fields wants built own first then_own =
    then_own
    ∙ ap (λ (changes : List Change). changes ++ changes_to wants (map (λ f. f.number.0) fields)) first
    ∙ sym (changes_to-append wants built_in_numbers (map (λ f. f.number.0) fields))
