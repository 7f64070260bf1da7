-- Places, as that of a field is set.
use Rattle.std.proofs.Common.{◌≡◌, ◌==◌, ℕ, zero, suc, ◌+◌, List, [], ◌∷◌, ◌++◌, Bool, true, false, Option, Some, None, refl, sym, ap, ◌∙◌, arith}
use Rattle.std.specs.Prelude.{option_map, if◌then◌else◌}
use Rattle.std.proofs.lemmas.Bool.{eqb-true}
use Rattle.std.proofs.Math.ListN.{set}
use Rattle.field_values.specs.declared.numbers.FieldNo.{FieldNo}
use Rattle.change_history.specs.declared.places.Place.{Place}
use Rattle.change_history.specs.Places.{number_of, set_place, index_of}

-- the place that was kept there is set
set_found : (ps : List Place) (p : Place) (f : FieldNo) (last i : ℕ) (b : Bool) (r : Option ℕ) → index_of ps f ≡ r
    → (if b then Some 0 else option_map (λ k. k + 1) r) ≡ Some i
    → ((j : ℕ) → index_of ps f ≡ Some j → set ps j (record { field = f; last = last }) ≡ set_place ps f last)
    → set (p ∷ ps) i (record { field = f; last = last }) ≡ (if b then (record { field = f; last = last }) ∷ ps else p ∷ set_place ps f last)
set_found ps p f last zero true r is found more = refl
set_found ps p f last (suc i) true r is found more = cc
set_found ps p f last i false None is found more = cc
set_found ps p f last zero false (Some j) is found more = let none : j + 1 ≡ 0 = cc in absurd (omega arith)
set_found ps p f last (suc i) false (Some j) is found more =
    let next : j + 1 ≡ suc i = cc in
    let same : i ≡ j = omega arith in
    ap (λ l. p ∷ l) (ap (λ k. set ps k (record { field = f; last = last })) same ∙ more j is)

pub set_place-found : (ps : List Place) (f : FieldNo) (last i : ℕ) → index_of ps f ≡ Some i → set ps i (record { field = f; last = last }) ≡ set_place ps f last
set_place-found [] f last i found = cc
set_place-found (p ∷ ps) f last i found = set_found ps p f last i (p.field.0 == f.0) (index_of ps f) refl found (λ j is. set_place-found ps f last j is)

no_more : (r : Option ℕ) (b : Bool) → (if b then Some 0 else option_map (λ k. k + 1) r) ≡ None → (b ≡ false) × (r ≡ None)
no_more r true none = cc
no_more None false none = (refl, refl)
no_more (Some k) false none = cc

pub set_place-new : (ps : List Place) (f : FieldNo) (last : ℕ) → index_of ps f ≡ None → ps ++ (record { field = f; last = last }) ∷ [] ≡ set_place ps f last
set_place-new [] f last none = refl
set_place-new (p ∷ ps) f last none =
    let parts = no_more (index_of ps f) (p.field.0 == f.0) none in
    ap (λ l. p ∷ l) (set_place-new ps f last parts.1) ∙ ap (λ b. if b then (record { field = f; last = last }) ∷ ps else p ∷ set_place ps f last) (sym parts.0)

-- where the fields' places are then
after_set : (ps : List Place) (p : Place) (f g : FieldNo) (last : ℕ) (here that : Bool) → (p.field.0 == f.0) ≡ here → (f.0 == g.0) ≡ that
    → number_of (set_place ps f last) g ≡ (if that then last else number_of ps g)
    → number_of (if here then (record { field = f; last = last }) ∷ ps else p ∷ set_place ps f last) g ≡ (if that then last else (if p.field.0 == g.0 then p.last else number_of ps g))
after_set ps p f g last true true here that more = rw that refl
after_set ps p f g last true false here that more = rw (that, (ap (λ n. n == g.0) (eqb-true p.field.0 f.0 here) ∙ that)) refl
after_set ps p f g last false true here that more =
    let other : (p.field.0 == g.0) ≡ false = ap (λ n. p.field.0 == n) (sym (eqb-true f.0 g.0 that)) ∙ here in
    rw (other, more) refl
after_set ps p f g last false false here that more = rw more refl

pub number_of-set : (ps : List Place) (f g : FieldNo) (last : ℕ) → number_of (set_place ps f last) g ≡ (if f.0 == g.0 then last else number_of ps g)
number_of-set [] f g last = refl
number_of-set (p ∷ ps) f g last = after_set ps p f g last (p.field.0 == f.0) (f.0 == g.0) refl refl (number_of-set ps f g last)
