-- What stands at a place of a list.
use Rattle.std.proofs.Common.{◌⊎◌, ◌≡◌, ◌≢◌, ℕ, zero, suc, Some, List, [], ◌∷◌, ◌++◌, length, set, option_map, slice_get, refl, ap, ◌∙◌, inl, inr, arith}
use Rattle.std.proofs.lemmas.Option.{none-some, same_Some, slice_get-map}
use Rattle.change_history.specs.History.{RoomyHistory, histories_of}
use Rattle.std.specs.declared.snapshot.Snapshot.{Snapshot}
use Rattle.change_history.specs.declared.issue.Issue.{Issue}
use Rattle.tracker_filters.specs.Watched.{histories_in}
use Rattle.std.proofs.lemmas.List.{map-append, map-set}

-- what stands in a list that is longer by one
pub get_pushed : {X : Type 0} (xs : List X) (y z : X) (k : ℕ) → slice_get (xs ++ y ∷ []) k ≡ Some z → (slice_get xs k ≡ Some z) ⊎ ((k ≡ length xs) × (y ≡ z))
get_pushed [] y z zero is = inr (refl, same_Some y z is)
get_pushed [] y z (suc k) is = absurd (none-some z is)
get_pushed (x ∷ xs) y z zero is = inl is
get_pushed (x ∷ xs) y z (suc k) is = elim (get_pushed xs y z k is) [ inl at ↦ inl at | inr h ↦ inr (ap suc h.0, h.1) ]

-- what stands in a list of which one place was written
pub get_set : {X : Type 0} (xs : List X) (k : ℕ) (y z : X) (j : ℕ) → slice_get (set xs k y) j ≡ Some z → ((j ≢ k) × (slice_get xs j ≡ Some z)) ⊎ ((j ≡ k) × (y ≡ z))
get_set [] k y z j is = absurd (none-some z is)
get_set (x ∷ xs) zero y z zero is = inr (refl, same_Some y z is)
get_set (x ∷ xs) zero y z (suc j) is = inl (λ e. omega (arith, e), is)
get_set (x ∷ xs) (suc k) y z zero is = inl (λ e. omega (arith, e), is)
get_set (x ∷ xs) (suc k) y z (suc j) is = elim (get_set xs k y z j is) [ inl h ↦ inl (λ e. h.0 (omega (arith, e)), h.1) | inr h ↦ inr (ap suc h.0, h.1) ]

-- lists of one length have something at the same places
pub get_beside : {X Y : Type 0} (xs : List X) (ys : List Y) (k : ℕ) (x : X) → length ys ≡ length xs → slice_get xs k ≡ Some x → (y : Y) × (slice_get ys k ≡ Some y)
get_beside [] ys k x many is = absurd (none-some x is)
get_beside (z ∷ xs) [] k x many is = absurd (omega (arith, many))
get_beside (z ∷ xs) (y ∷ ys) zero x many is = (y, refl)
get_beside (z ∷ xs) (y ∷ ys) (suc k) x many is = get_beside xs ys k x (omega (arith, many)) is

pub history_at : (issues : List RoomyHistory) (k : ℕ) (issue : RoomyHistory) → slice_get issues k ≡ Some issue → slice_get (histories_of issues) k ≡ Some issue.history
history_at issues k issue at = slice_get-map (λ (i : RoomyHistory). i.history) issues k ∙ ap (λ o. option_map (λ (i : RoomyHistory). i.history) o) at

-- what was seen, as one issue comes and as one changes
pub seen_new : (seen : List (Snapshot Issue)) (s : Snapshot Issue) (issue : RoomyHistory) → s.value ≡ issue → histories_in (seen ++ s ∷ []) ≡ histories_in seen ++ issue.history ∷ []
seen_new seen s issue is = map-append (λ (x : Snapshot Issue). x.value.history) seen (s ∷ []) ∙ ap (λ (i : RoomyHistory). histories_in seen ++ i.history ∷ []) is

pub seen_change : (seen : List (Snapshot Issue)) (k : ℕ) (s : Snapshot Issue) (issue : RoomyHistory) → s.value ≡ issue → histories_in (set seen k s) ≡ set (histories_in seen) k issue.history
seen_change seen k s issue is = map-set (λ (x : Snapshot Issue). x.value.history) seen k s ∙ ap (λ (i : RoomyHistory). set (histories_in seen) k i.history) is
