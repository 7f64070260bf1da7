-- A walk over the issues.
use Rattle.std.proofs.Common.{◌≡◌, ◌<◌, ℕ, ◌+◌, Bool, List, [], ◌∷◌, ◌++◌, length, map, take, slice_get, Option, Some, None, IfSome, Bor, sym, ap, ap₂, ◌∙◌, subst, option_map}
use Rattle.std.specs.List.{All}
use Rattle.std.specs.Option.{option_copied}
use Rattle.std.proofs.lemmas.List.{map-append, take_more}
use Rattle.std.proofs.lemmas.Option.{slice_get-map, slice_get_within, get_or_from_slice_get}
use Rattle.field_values.specs.declared.numbers.FilterNo.{FilterNo}
use Rattle.field_values.specs.Parts.{Parts}
use Rattle.rising_numbers.specs.ByNumber.{by_number}
use Rattle.rising_numbers.proofs.Placed.{found_at}
use Rattle.change_history.specs.History.{History}
use Rattle.tracker_filters.specs.declared.filter.Filter.{Filter}
use Rattle.tracker_filters.specs.Saved.{number}
use Rattle.tracker_machine.proofs.Settled.{at_place}
use Rattle.tracker_state.specs.State.{IsBound}

-- a filter that was looked up is the one of its own number
pub own_entry : (entry : FilterNo) (fs : List Filter) (o : Option (Bor Filter)) → option_copied o ≡ by_number number entry.0 fs → IfSome o (λ f. f.now.no ≡ entry)
    → IfSome o (λ f. by_number number f.now.no.0 fs ≡ Some f.now)
own_entry entry fs None is own = tt
own_entry entry fs (Some f) is own = ap (λ (n : FilterNo). by_number number n.0 fs) own ∙ sym is

module _ (f : History → Bool) (hs : List History) (place : ℕ) (b : Bool) where
  -- one issue more
  pub walked_more : (list : List Bool) → place < length hs → list ≡ map f (take place hs) → IfSome (slice_get hs place) (λ h. b ≡ f h) → list ++ b ∷ [] ≡ map f (take (place + 1) hs)
  walked_more list within is told =
      let found = at_place hs place within in
      let h : History = found.0 in
      let one : b ≡ f h = subst (λ (o : Option History). IfSome o (λ x. b ≡ f x)) found.1 told in
      let more : take (place + 1) hs ≡ take place hs ++ h ∷ [] =
      take_more hs place h within ∙ ap (λ (q : History). take place hs ++ q ∷ []) (get_or_from_slice_get hs place h h found.1) in
      ap₂ (λ (bs : List Bool) (c : Bool). bs ++ c ∷ []) is one ∙ (sym (map-append f (take place hs) (h ∷ [])) ∙ ap (map f) (sym more))

  told_by : (o : Option History) → IfSome o (λ h. b ≡ f h) → IfSome (option_map f o) (λ is. b ≡ is)
  told_by None told = tt
  told_by (Some h) told = told

  -- that of one issue
  pub told_at : IfSome (slice_get hs place) (λ h. b ≡ f h) → IfSome (slice_get (map f hs) place) (λ is. b ≡ is)
  told_at told = subst (λ (o : Option Bool). IfSome o (λ is. b ≡ is)) (sym (slice_get-map f hs place)) (told_by (slice_get hs place) told)

-- a filter that is there is bound as all are
pub is_bound : (setup : Parts) (fs : List Filter) (f : Filter) → All (IsBound setup) fs → by_number number f.no.0 fs ≡ Some f → IsBound setup f
is_bound setup fs f all there =
    let (k, at, same) = found_at number f.no.0 f fs there in
    subst (IsBound setup) (get_or_from_slice_get fs k f f at) (all k f (slice_get_within fs k f at))
