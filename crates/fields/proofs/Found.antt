-- The places of names, and what stands there.
use Rattle.std.proofs.Common.{◌≡◌, ℕ, ◌<◌, ◌≤◌, ◌==◌, List, [], ◌∷◌, length, map, get_or, Bool, true, unwrap_or, Option, Some, position, option_and_then, option_map, ◌∙◌, sym, ap, refl, arith, inl, inr, nat_lt}
use Rattle.std.proofs.lemmas.List.Sums.{AllPass-from_list_all}
use Rattle.std.specs.List.{find, list_all, slice_get, position_or_len}
use Rattle.std.proofs.lemmas.Bool.{cases_Bool}
use Rattle.std.proofs.lemmas.List.Quantifiers.{position-Some}
use Rattle.std.proofs.lemmas.List.Folds.{find_at}
use Rattle.std.proofs.lemmas.Option.{slice_get_past, slice_get_within, slice_get-map, unwrap_or-slice_get}
use Rattle.std.specs.Str.{str_eq_ignore_ascii_case}
use Rattle.std.proofs.lemmas.List.{length-map}
use Rattle.field_values.specs.declared.field.Field.{Field}
use Rattle.field_forms.specs.Names.{place_named}
use Rattle.field_forms.specs.Known.{has_few_options, own_field, own_field_named}

-- a place is one of the list
pub place_below : (name : List ℕ) (names : List (List ℕ)) (place : ℕ) → place_named name names ≡ Some place → place < length names
place_below name names place e = (position-Some _ names place [] e).0

-- what is found is what stands at its place
pub found_at : {X : Type 0} (p : X → Bool) (xs : List X) → find p xs ≡ option_and_then (slice_get xs) (position p xs)
found_at p xs = elim (cases_Bool (nat_lt (position_or_len p xs) (length xs))) [
  | inl inside ↦ rw inside (find_at p xs)
  | inr outside ↦ rw outside (find_at p xs ∙ slice_get_past xs (position_or_len p xs) (grind (arith, outside)))
]

place_mapped : {X Y : Type 0} (p : Y → Bool) (f : X → Y) (xs : List X) → position_or_len p (map f xs) ≡ position_or_len (λ x. p (f x)) xs
place_mapped p f [] = refl
place_mapped p f (x ∷ xs) = elim (cases_Bool (p (f x))) [
  | inl here ↦ grind (arith, here)
  | inr later ↦ let rest = place_mapped p f xs in grind (arith, later, rest)
]

-- the field of a name is what stands at the name's place
pub named_at : (fields : List Field) (name : List ℕ) → own_field_named fields name ≡ option_and_then (slice_get fields) (place_named name (map (λ f. f.name) fields))
named_at fields name =
    let same = place_mapped (λ (other : List ℕ). str_eq_ignore_ascii_case other name) (λ (f : Field). f.name) fields in
    let long = length-map fields (λ (f : Field). f.name) in
    rw (same, long) (found_at (λ (f : Field). str_eq_ignore_ascii_case f.name name) fields)

pub own_at : (fields : List Field) (n : ℕ) → own_field fields n ≡ option_and_then (slice_get fields) (position (λ f. f.number.0 == n) fields)
own_at fields n = found_at (λ (f : Field). f.number.0 == n) fields

pub options_at : (fields : List Field) (place : ℕ) → slice_get (map (λ f. f.options) fields) place ≡ option_map (λ f. f.options) (slice_get fields place)
options_at fields place = slice_get-map (λ (f : Field). f.options) fields place

pub few_at : (fields : List Field) (place : ℕ) (field : Field) → list_all has_few_options fields ≡ true → slice_get fields place ≡ Some field → length field.options ≤ 200
few_at fields place field all e =
    let passes : has_few_options (get_or fields place field) ≡ true = AllPass-from_list_all has_few_options fields all place field (slice_get_within fields place field e) in
    let same : get_or fields place field ≡ field = sym (unwrap_or-slice_get fields place field) ∙ ap (λ (o : Option Field). unwrap_or o field) e in
    grind (arith, passes, same)
