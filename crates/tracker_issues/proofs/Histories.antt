-- The histories of the issues, as one comes and as one changes.
use Rattle.std.proofs.Common.{◌≡◌, ℕ, zero, suc, ◌<◌, List, [], ◌∷◌, ◌++◌, length, slice_get, set, map, Option, None, Some, option_map, unwrap_or, IfSome, refl, ap, ap₂, ◌∙◌, arith}
use Rattle.std.proofs.lemmas.List.{map-set}
use Rattle.std.proofs.lemmas.Option.{slice_get-map}
use Rattle.change_history.specs.History.{RoomyHistory, History, histories_of}

pub histories_push : (is : List RoomyHistory) (i : RoomyHistory) → histories_of (is ++ i ∷ []) ≡ histories_of is ++ i.history ∷ []
histories_push [] i = refl
histories_push (j ∷ is) i = ap (λ (hs : List History). j.history ∷ hs) (histories_push is i)

pub histories_set : (is : List RoomyHistory) (k : ℕ) (i : RoomyHistory) → histories_of (set is k i) ≡ set (histories_of is) k i.history
histories_set is k i = map-set (λ (i : RoomyHistory). i.history) is k i

-- what stands at a place

pub history_at : (is : List RoomyHistory) (k : ℕ) (i : RoomyHistory) → slice_get is k ≡ Some i → slice_get (histories_of is) k ≡ Some i.history
history_at is k i at = slice_get-map (λ (i : RoomyHistory). i.history) is k ∙ ap (λ o. option_map (λ (i : RoomyHistory). i.history) o) at

pub room_at : (is : List RoomyHistory) (k : ℕ) (i : RoomyHistory) → slice_get is k ≡ Some i → slice_get (map (λ i. i.room) is) k ≡ Some i.room
room_at is k i at = slice_get-map (λ (i : RoomyHistory). i.room) is k ∙ ap (λ o. option_map (λ (i : RoomyHistory). i.room) o) at

pub set_here : {A : Type 0} (xs : List A) (k : ℕ) (x : A) → k < length xs → slice_get (set xs k x) k ≡ Some x
set_here [] k x in' = absurd (omega (arith, in'))
set_here (y ∷ xs) zero x in' = refl
set_here (y ∷ xs) (suc k) x in' = set_here xs k x (omega (arith, in'))

pub some_is : (a b : RoomyHistory) → Some a ≡ Some b → a ≡ b
some_is a b e = ap (λ o. unwrap_or o a) e

pub if_found : (o : Option RoomyHistory) (P : RoomyHistory → Type 0) → ((i : RoomyHistory) → o ≡ Some i → P i) → IfSome o P
if_found None P f = tt
if_found (Some i) P f = f i refl

pub kept_is : (a : RoomyHistory) (h : History) (n : ℕ) → a.history ≡ h → a.room ≡ n → a ≡ record { history = h; room = n }
kept_is a h n e f = ap₂ (λ h n. record { history = h; room = n }) e f
