-- Filters that are looked up among those that were read.
use Rattle.std.proofs.Common.{◌≡◌, ◌≢◌, ℕ, true, false, List, Option, Some, None, is_some, option_map, refl, sym, ◌∙◌, ap}
use Rattle.std.proofs.lemmas.Bool.{false≢true}
use Rattle.field_values.specs.declared.numbers.UserNo.{UserNo}
use Rattle.rising_numbers.specs.ByNumber.{by_number}
use Rattle.tracker_filters.specs.declared.filter.Filter.{Filter}
use Rattle.tracker_filters.specs.Saved.{number, by_owner}
use Rattle.tracker_machine.specs.Saved.{filter_number, filter_named}
use Rattle.tracker_state.specs.State.{saved_as, saved_filters}
use Rattle.tracker_state.proofs.Watching.{by_number-saved, filter_named-saved}

pub none_of : {A : Type 0} (o : Option A) → is_some o ≡ false → o ≡ None
none_of None is = refl
none_of (Some x) is = absurd (false≢true (sym is))

some_as : (o : Option Filter) → is_some o ≡ true → option_map saved_as o ≢ None
some_as None is none = false≢true is
some_as (Some f) is none = false≢true (ap is_some (sym none))

pub saved_there : (n : ℕ) (fs : List Filter) → is_some (by_number number n fs) ≡ true → by_number filter_number n (saved_filters fs) ≢ None
saved_there n fs is none = some_as (by_number number n fs) is (sym (by_number-saved n fs) ∙ none)

pub named_there : (owner : UserNo) (name : List ℕ) (fs : List Filter) → is_some (by_owner owner name fs) ≡ true → filter_named owner name (saved_filters fs) ≢ None
named_there owner name fs is none = some_as (by_owner owner name fs) is (sym (filter_named-saved owner name fs) ∙ none)

pub named_alone : (owner : UserNo) (name : List ℕ) (fs : List Filter) → is_some (by_owner owner name fs) ≡ false → filter_named owner name (saved_filters fs) ≡ None
named_alone owner name fs is = filter_named-saved owner name fs ∙ ap (option_map saved_as) (none_of (by_owner owner name fs) is)
