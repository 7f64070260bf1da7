-- A name has a place exactly where it is among the names.
use Rattle.std.proofs.Common.{◌≡◌, ℕ, List, [], ◌∷◌, length, Bool, nat_lt, is_some, position, refl, arith, inl, inr, ◌∙◌}
use Rattle.std.specs.List.{list_any, position_or_len}
use Rattle.std.proofs.lemmas.Bool.{cases_Bool}
use Rattle.field_forms.specs.Names.{place_named, is_among}

is_before_end : {X : Type 0} (p : X → Bool) (xs : List X) → nat_lt (position_or_len p xs) (length xs) ≡ list_any p xs
is_before_end p [] = refl
is_before_end p (x ∷ xs) = elim (cases_Bool (p x)) [
  | inl here ↦ grind (arith, here)
  | inr later ↦ let rest = is_before_end p xs in grind (arith, later, rest)
]

some_place : {X : Type 0} (p : X → Bool) (xs : List X) → is_some (position p xs) ≡ nat_lt (position_or_len p xs) (length xs)
some_place p xs = elim (cases_Bool (nat_lt (position_or_len p xs) (length xs))) [
  | inl inside ↦ rw inside refl
  | inr outside ↦ rw outside refl
]

pub place_tells : (name : List ℕ) (names : List (List ℕ)) → is_some (place_named name names) ≡ is_among names name
place_tells name names = some_place _ names ∙ is_before_end _ names
