-- The project of a new issue's key.
use Rattle.std.proofs.Common.{◌≡◌, ◌==◌, ℕ, ◌<◌, Bool, true, false, List, [], ◌∷◌, ◌++◌, length, map, slice_get, Option, Some, option_map, unwrap_or, bytes_eq, nat_lt, refl, sym, ap, ◌∙◌, arith, decimal, lt-ltb, length-append}
use Rattle.std.specs.Prelude.{option_and_then}
use Rattle.std.specs.List.{list_all, position_or_len}
use Rattle.std.specs.Int.{is_in_range}
use Rattle.std.specs.Option.{option_map_or}
use Rattle.std.proofs.lemmas.Bool.{and_parts, eqb-true, eq-eqb}
use Rattle.std.proofs.lemmas.Grind.{common_steps}
use Rattle.std.proofs.lemmas.Option.{slice_get-map}
use Rattle.std.proofs.lemmas.Slice.Eq.{bytes_eq-Decides}
use Rattle.std.proofs.Math.Seq.{take-append_seam}
use Rattle.field_values.specs.declared.parts.Project.{Project}
use Rattle.field_values.specs.Parts.{Parts}
use Rattle.field_forms.specs.Cuts.{cut_at}
use Rattle.field_forms.specs.Names.{place_named, is_project_key}
use Rattle.fields.specs.Sound.{IsSound}
use Rattle.fields.specs.Naming.{name_at, key_of}
use Rattle.fields.proofs.PlaceNames.{at_place, projects_are_found}
use Rattle.change_history.specs.History.{History}
use Rattle.change_history.specs.Key.{project_of}
use Rattle.workflow.specs.Conditions.{project_number}
use Rattle.tracker_machine.specs.Known.{project_keys}
use Rattle.tracker_machine.proofs.Settled as settled

-- the first hyphen after letters
hyphen_at : (letters rest : List ℕ) → list_all (λ b. is_in_range 65 90 b) letters ≡ true → position_or_len (λ b. b == 45) (letters ++ 45 ∷ rest) ≡ length letters
hyphen_at [] rest all = refl
hyphen_at (letter ∷ letters) rest all =
    let parts = and_parts (is_in_range 65 90 letter) (list_all (λ b. is_in_range 65 90 b) letters) all in
    let later : position_or_len (λ b. b == 45) (letters ++ 45 ∷ rest) ≡ length letters = hyphen_at letters rest parts.1 in
    let other : (letter == 45) ≡ false = grind (arith, parts.0) in
    grind (arith, common_steps, other, later)

-- letters that a hyphen follows are a project's key
project_of_letters : (letters rest : List ℕ) → list_all (λ b. is_in_range 65 90 b) letters ≡ true → project_of (letters ++ 45 ∷ rest) ≡ letters
project_of_letters letters rest all =
    rw (hyphen_at letters rest all) (take-append_seam letters (45 ∷ rest))

-- what is asked of the text before the first hyphen is asked of them
of_letters : (f : List ℕ → Option ℕ) (letters rest : List ℕ) → list_all (λ b. is_in_range 65 90 b) letters ≡ true
    → option_and_then (λ parts. f parts.0) (cut_at 45 (letters ++ 45 ∷ rest)) ≡ f letters
of_letters f letters rest all =
    let longer = length-append letters (45 ∷ rest) in
    let inside : nat_lt (length letters) (length (letters ++ 45 ∷ rest)) ≡ true = lt-ltb _ _ (omega (arith, longer)) in
    rw (hyphen_at letters rest all) (rw inside (ap f (take-append_seam letters (45 ∷ rest))))

key_at : (ps : List Project) (k : ℕ) (p : Project) → slice_get ps k ≡ Some p → slice_get (map (λ q. q.key) ps) k ≡ Some p.key
key_at ps k p at = slice_get-map (λ (q : Project). q.key) ps k ∙ ap (λ o. option_map (λ (q : Project). q.key) o) at

same_truth : (a b : Bool) → (a ≡ true → b ≡ true) → (b ≡ true → a ≡ true) → a ≡ b
same_truth true true f g = refl
same_truth true false f g = sym (f refl)
same_truth false true f g = g refl
same_truth false false f g = refl

module _ (setup : Parts) (sound : IsSound setup) where
  place_is : (k : ℕ) (p : Project) → slice_get setup.project k ≡ Some p → place_named p.key (project_keys setup) ≡ Some k
  place_is k p at = projects_are_found setup k p sound at

  one_place : (j k : ℕ) (p q : Project) → slice_get setup.project j ≡ Some p → slice_get setup.project k ≡ Some q → q.key ≡ p.key → j ≡ k
  one_place j k p q p_at q_at same =
      ap (λ o. unwrap_or o 0) (sym (place_is j p p_at) ∙ ap (λ key. place_named key (project_keys setup)) (sym same) ∙ place_is k q q_at)

  -- a new issue is that of the project at the place, and of no other
  pub only_project : (k number : ℕ) → k < length setup.project → (j : ℕ) (p : Project) → slice_get setup.project j ≡ Some p
      → bytes_eq (project_of (key_of (name_at (project_keys setup) k) number)) p.key ≡ (j == k)
  only_project k number in' j p at =
      let found = settled.at_place setup.project k in' in
      let q = found.0 in
      let q_at = found.1 in
      let named : name_at (project_keys setup) k ≡ q.key = ap (λ o. unwrap_or o []) (key_at setup.project k q q_at) in
      let formed : is_project_key q.key ≡ true = at_place is_project_key (project_keys setup) k q.key sound.keys.formed (key_at setup.project k q q_at) in
      let letters = (and_parts _ (list_all (λ b. is_in_range 65 90 b) q.key) formed).1 in
      let is : project_of (key_of (name_at (project_keys setup) k) number) ≡ q.key =
      ap (λ name. project_of (key_of name number)) named ∙ project_of_letters q.key (decimal number) letters in
      ap (λ name. bytes_eq name p.key) is ∙ same_truth (bytes_eq q.key p.key) (j == k)
      (λ same. eq-eqb j k (one_place j k p q at q_at ((bytes_eq-Decides q.key p.key).0 same)))
      (λ same. (bytes_eq-Decides q.key p.key).1 (ap (λ (o : Option Project). option_map_or (λ (r : Project). r.key) o []) (sym q_at ∙ ap (slice_get setup.project) (sym (eqb-true j k same)) ∙ at)))

  -- and its number is that place
  pub own_project : (k number : ℕ) → k < length setup.project → (h : History) → h.key ≡ key_of (name_at (project_keys setup) k) number → project_number setup h ≡ Some k
  unfolding project_number
  own_project k number in' h key =
      let found = settled.at_place setup.project k in' in
      let q = found.0 in
      let q_at = found.1 in
      let named : name_at (project_keys setup) k ≡ q.key = ap (λ o. unwrap_or o []) (key_at setup.project k q q_at) in
      let formed : is_project_key q.key ≡ true = at_place is_project_key (project_keys setup) k q.key sound.keys.formed (key_at setup.project k q q_at) in
      let letters = (and_parts _ (list_all (λ b. is_in_range 65 90 b) q.key) formed).1 in
      ap (λ (text : List ℕ). option_and_then (λ parts. place_named parts.0 (project_keys setup)) (cut_at 45 text)) (key ∙ ap (λ name. key_of name number) named)
      ∙ of_letters (λ name. place_named name (project_keys setup)) q.key (decimal number) letters
      ∙ place_is k q q_at
