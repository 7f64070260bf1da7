-- The issue that was made or changed, among the issues that are lent.
use Rattle.std.proofs.Common.{◌≡◌, ℕ, zero, suc, ◌-◌, ◌+◌, ◌<◌, List, [], ◌∷◌, ◌++◌, length, Some, option_map, slice_get, slice_set, refl, sym, ◌∙◌, ap, length-append, arith}
use Rattle.std.proofs.lemmas.List.{length-map, length-set}
use Rattle.std.proofs.lemmas.Option.{none-some, same_Some, slice_get-map, slice_get_within}
use Rattle.change_history.specs.History.{History, RoomyHistory, histories_of}

as_many : (issues : List RoomyHistory) → length (histories_of issues) ≡ length issues
as_many issues = length-map issues (λ (i : RoomyHistory). i.history)

lent : (issues : List RoomyHistory) (place : ℕ) (i : RoomyHistory) → slice_get issues place ≡ Some i → slice_get (histories_of issues) place ≡ Some i.history
lent issues place i there = slice_get-map (λ (x : RoomyHistory). x.history) issues place ∙ ap (option_map (λ (x : RoomyHistory). x.history)) there

last_there : (hs : List History) (h : History) → slice_get (hs ++ h ∷ []) (length hs) ≡ Some h
last_there [] h = refl
last_there (x ∷ hs) h = last_there hs h

set_there : (hs : List History) (place : ℕ) (old new : History) → slice_get hs place ≡ Some old → slice_get (slice_set hs place new) place ≡ Some new
set_there [] place old new there = absurd (none-some old there)
set_there (x ∷ hs) zero old new there = refl
set_there (x ∷ hs) (suc place) old new there = set_there hs place old new there

module _ (issues : List RoomyHistory) (hs : List History) where
  -- the last issue is the one that was made
  module _ (h : History) (last : histories_of issues ≡ hs ++ h ∷ []) where
    many : length issues ≡ length hs + 1
    many = sym (as_many issues) ∙ ap length last ∙ length-append hs (h ∷ [])

    pub last_within : length issues - 1 < length issues
    last_within = omega (arith, many)

    pub some_there : 0 < length issues
    some_there = omega (arith, many)

    pub last_is : (place : ℕ) (i : RoomyHistory) → place ≡ length issues - 1 → slice_get issues place ≡ Some i → i.history ≡ h
    last_is place i at there =
        let here : place ≡ length hs = omega (arith, at, many) in
        same_Some i.history h (sym (lent issues place i there) ∙ ap (λ xs. slice_get xs place) last ∙ ap (slice_get (hs ++ h ∷ [])) here ∙ last_there hs h)

  -- the issue at the place is the one that was changed
  module _ (place : ℕ) (old new : History) (there : slice_get hs place ≡ Some old) (grown : histories_of issues ≡ slice_set hs place new) where
    pub place_within : place < length issues
    place_within =
        let within = slice_get_within hs place old there in
        let same : length issues ≡ length hs = sym (as_many issues) ∙ ap length grown ∙ length-set hs place new in
        omega (arith, within, same)

    pub changed_is : (i : RoomyHistory) → slice_get issues place ≡ Some i → i.history ≡ new
    changed_is i found = same_Some i.history new (sym (lent issues place i found) ∙ ap (λ xs. slice_get xs place) grown ∙ set_there hs place old new there)
