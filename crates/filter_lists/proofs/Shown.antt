-- What is listed is what the call `filter` shows.
use Rattle.std.proofs.Common.{◌≡◌, ℕ, Bool, false, List, [], ◌∷◌, map, filter, Option, Some, None, if◌then◌else◌, refl, ◌∙◌, ap}
use Rattle.rising_numbers.specs.ByNumber.{by_number}
use Rattle.change_history.specs.History.{History}
use Rattle.tracker_machine.specs.Machine.{Machine}
use Rattle.tracker_machine.specs.Saved.{SavedFilter, filter_number}
use Rattle.tracker_machine.specs.Filters.{is_shown, shown}
use Rattle.filter_lists.specs.Listed.{listed, lists}
use Rattle.filter_lists.specs.Laws.{ListsAreShown, NothingIsListed, kept_by}

kept_by-map : {X : Type 0} (p : X → Bool) (xs : List X) → kept_by (map p xs) xs ≡ filter p xs
kept_by-map p [] = refl
kept_by-map p (x ∷ xs) = ap (λ l. if p x then x ∷ l else l) (kept_by-map p xs)

kept_by-none : {X : Type 0} (xs : List X) → kept_by (map (λ x. false) xs) xs ≡ []
kept_by-none [] = refl
kept_by-none (x ∷ xs) = kept_by-none xs

pub lists_are_shown : ListsAreShown
unfolding listed shown
lists_are_shown m user filter_no f is =
    ap (λ o. kept_by (map (lists m user o) m.histories) m.histories) is ∙ kept_by-map (is_shown m user f) m.histories

pub nothing_is_listed : NothingIsListed
unfolding listed
nothing_is_listed m user filter_no none =
    ap (λ o. kept_by (map (lists m user o) m.histories) m.histories) none ∙ kept_by-none m.histories
