-- What is found among things that all pass a test.
use Rattle.std.proofs.Common.{◌≡◌, ◌==◌, sym, ℕ, ◌≤◌, List, [], ◌∷◌, length, Bool, true, Option, Some, None, option_map, Bor, arith, inl, inr, nat_le}
use Rattle.std.specs.Prelude.{IfSome}
use Rattle.std.specs.List.{find, list_all}
use Rattle.std.proofs.lemmas.Bool.{cases_Bool, and_parts}
use Rattle.field_values.specs.declared.field.Field.{Field}
use Rattle.field_forms.specs.Known.{has_few_options}
use Rattle.field_forms.specs.Known.{own_field}

pub found_passes : {X : Type 0} (p q : X → Bool) (xs : List X) → list_all p xs ≡ true → (x : X) → find q xs ≡ Some x → p x ≡ true
found_passes p q [] all x e = cc
found_passes p q (y ∷ ys) all x e =
    let parts = and_parts (p y) (list_all p ys) all in
    elim (cases_Bool (q y)) [ inl this ↦ grind (arith, this, parts, e) | inr other ↦ found_passes p q ys parts.1 x (grind (arith, other, e)) ]

pub few_options : (fields : List Field) (n : ℕ) (r : Option (Bor Field)) → list_all has_few_options fields ≡ true → option_map (λ f. f.now) r ≡ own_field fields n → IfSome r (λ f. length f.now.options ≤ 200)
few_options fields n None all e = tt
few_options fields n (Some f) all e =
    let small : nat_le (length f.now.options) 200 ≡ true = found_passes has_few_options (λ (f : Field). f.number.0 == n) fields all f.now (sym e) in
    grind (arith, small)
