-- Worked values, computed from the definitions: two issues that were imported, and one that was not between them.
use Rattle.std.specs.Prelude.{ℕ, ◌≡◌, List, [], ◌∷◌, Some, None, codes, refl}
use Rattle.rising_numbers.specs.ByNumber.{by_number, put_by_number}
use Rattle.external_ids.specs.declared.external_id.ExternalId.{ExternalId}
use Rattle.external_ids.specs.Ids.{external_number, external_named, HaveOwnIds}

abbrev external_of : ℕ → List ℕ → ExternalId
external_of n id = record { no = record { 0 = n }; id = id }

abbrev imported : List ExternalId
imported = external_of 1 (codes "OLD-1007") ∷ external_of 3 (codes "OLD-12") ∷ []

-- each is found by its id
pub found : external_named (codes "OLD-12") imported ≡ Some (external_of 3 (codes "OLD-12"))
found = refl

-- an id in other letters is another one
pub not_found : external_named (codes "old-12") imported ≡ None
not_found = refl

-- no two have the same
pub own : HaveOwnIds imported
own = (refl, (refl, tt))

-- the second issue has none
pub without : by_number external_number 2 imported ≡ None
without = refl

-- a fourth one comes behind them
pub behind : put_by_number external_number (external_of 4 (codes "OLD-9")) imported
    ≡ external_of 1 (codes "OLD-1007") ∷ external_of 3 (codes "OLD-12")
    ∷ external_of 4 (codes "OLD-9") ∷ []
behind = refl
