-- Values that are put by name.
use Rattle.std.proofs.Common.{◌≡◌, ℕ, zero, suc, ◌<◌, List, [], ◌∷◌, ◌++◌, take, drop, length, get_or, set, Equal, Bor, arith, refl, ap}
use Rattle.std.specs.BTreeMap.{insert_entry}
use Rattle.short_lists.specs.ByName.{ByName, name_cmp}

-- what is put from the place on where the same name stands takes the place of the value there
pub found : {X : Type 0} (es : ByName X) (i : ℕ) (d : Bor (List ℕ) × X) (k : Bor (List ℕ)) (v : X)
    → i < length es → name_cmp k (get_or es i d).0 ≡ Equal
    → take i es ++ insert_entry name_cmp (drop i es) k v ≡ set es i ((get_or es i d).0, v)
found [] i d k v within same = absurd (omega arith)
found (e ∷ es) zero d k v within same = rw same refl
found (e ∷ es) (suc i) d k v within same = ap (λ (l : ByName _). e ∷ l) (found es i d k v (omega arith) same)
