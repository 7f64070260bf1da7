-- Names that are known, and what holds of each of a list without faults.
use Rattle.std.proofs.Common.{◌≡◌, ℕ, ◌<◌, List, [], ◌∷◌, length, map, Bool, true, Option, Some, None, refl, arith}
use Rattle.std.specs.List.{list_all}
use Rattle.std.specs.Str.{str_eq_ignore_ascii_case}
use Rattle.std.proofs.lemmas.List.{length-map}
use Rattle.std.proofs.lemmas.List.Quantifiers.{position-Some}
use Rattle.setup_drafts.specs.declared.fault.SetupFault.{SetupFault}
use Rattle.field_forms.specs.Names.{place_named}
use Rattle.setup_reading.specs.Resolving.{unknown, place_in, first_over}
use Rattle.fields.proofs.Facts.{none_first, none_second}

-- a name that isn't unknown has a place
pub known_inside : (names : List (List ℕ)) (name : List ℕ) → unknown names name ≡ None → place_in names name < length names
known_inside names name h = by_place (place_named name names) refl where
  by_place : (place : Option ℕ) → place_named name names ≡ place → place_in names name < length names
  by_place None e = absurd (grind (arith, e, h))
  by_place (Some k) e =
      let found = position-Some (λ other. str_eq_ignore_ascii_case other name) names k [] e in
      grind (arith, e, found.0)

-- what holds of each thing that isn't faulty holds of all
pub each_over : {X : Type 0} (fault : X → Option SetupFault) (test : X → Bool) → ((x : X) → fault x ≡ None → test x ≡ true) → (xs : List X) → first_over fault xs ≡ None → list_all test xs ≡ true
each_over fault test holds [] none = refl
each_over fault test holds (x ∷ xs) none =
    let first : test x ≡ true = holds x (none_first _ _ none) in
    let rest : list_all test xs ≡ true = each_over fault test holds xs (none_second (fault x) (first_over fault xs) none) in
    grind (arith, first, rest)

pub inside_mapped : {A B : Type 0} (f : A → B) (xs : List A) (k : ℕ) → k < length (map f xs) → k < length xs
inside_mapped f xs k inside = omega (arith, length-map xs f)
