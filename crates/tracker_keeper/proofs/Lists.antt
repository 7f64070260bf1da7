-- Lists of which the length is no balance's and no stamp's.
use Rattle.std.proofs.Common.{◌≡◌, ◌≢◌, ◌≤◌, List, [], ◌∷◌, length, Some, None, refl, sym, subst, arith}
use Rattle.std.proofs.lemmas.Option.{none-some, same_Some}
use Rattle.serde_json.specs.declared.value.Value.{Value}
use Rattle.serde_json.specs.Data.{Data, null, boolean, number, string, array, object}
use Rattle.serde_json.specs.Find.{as_array}
use Rattle.serde_json.specs.View.{items_view}
use Rattle.tracker_keeper.specs.Looking.{pair_of, balance_of}

other_pair : (xs : List Value) → length xs ≢ 2 → None ≡ pair_of (array (items_view xs))
other_pair [] h = refl
other_pair (x ∷ []) h = refl
other_pair (x ∷ y ∷ []) h = absurd (h refl)
other_pair (x ∷ y ∷ z ∷ xs) h = refl

long_balance : (xs : List Value) → 3 ≤ length xs → None ≡ balance_of (array (items_view xs))
long_balance [] h = absurd (omega (arith, h))
long_balance (x ∷ []) h = absurd (omega (arith, h))
long_balance (x ∷ y ∷ []) h = absurd (omega (arith, h))
long_balance (x ∷ y ∷ z ∷ xs) h = refl

pub no_pair : (d : Data) (xs : List Value) → Some (items_view xs) ≡ as_array d → length xs ≢ 2 → None ≡ pair_of d
no_pair null xs e h = absurd (none-some _ (sym e))
no_pair (boolean b) xs e h = absurd (none-some _ (sym e))
no_pair (number n) xs e h = absurd (none-some _ (sym e))
no_pair (string s) xs e h = absurd (none-some _ (sym e))
no_pair (array ds) xs e h = subst (λ items. None ≡ pair_of (array items)) (same_Some _ _ e) (other_pair xs h)
no_pair (object ms) xs e h = absurd (none-some _ (sym e))

pub no_balance : (d : Data) (xs : List Value) → Some (items_view xs) ≡ as_array d → 3 ≤ length xs → None ≡ balance_of d
no_balance null xs e h = absurd (none-some _ (sym e))
no_balance (boolean b) xs e h = absurd (none-some _ (sym e))
no_balance (number n) xs e h = absurd (none-some _ (sym e))
no_balance (string s) xs e h = absurd (none-some _ (sym e))
no_balance (array ds) xs e h = subst (λ items. None ≡ balance_of (array items)) (same_Some _ _ e) (long_balance xs h)
no_balance (object ms) xs e h = absurd (none-some _ (sym e))
