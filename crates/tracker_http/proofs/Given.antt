-- A member that stands at most once.
use Rattle.std.proofs.Common.{◌≡◌, ℕ, ◌<◌, ◌≤◌, List, [], ◌∷◌, length, Some, None, refl, arith}
use Rattle.std.specs.Prelude.{slice_get}
use Rattle.tracker_http.specs.Query.{once}

pub once_at_most : (values : List (List ℕ)) → length values ≤ 1 → once values ≡ Some (slice_get values 0)
once_at_most [] few = refl
once_at_most (value ∷ []) few = refl
once_at_most (value ∷ other ∷ more) few = absurd (omega arith)

pub more_than_once : (values : List (List ℕ)) → 1 < length values → once values ≡ None
more_than_once [] many = absurd (omega arith)
more_than_once (value ∷ []) many = absurd (omega arith)
more_than_once (value ∷ other ∷ more) many = refl
