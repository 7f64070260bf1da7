-- How many issues a filter shows its owner, by the filters that a state keeps.
use Rattle.std.proofs.Common.{◌≡◌, ℕ, List, length, Option, Some, None, option_map, sym, ap, ◌∙◌}
use Rattle.std.specs.Option.{option_map_or}
use Rattle.change_history.specs.History.{History}
use Rattle.field_values.specs.declared.numbers.FilterNo.{FilterNo}
use Rattle.rising_numbers.specs.ByNumber.{by_number}
use Rattle.tracker_filters.specs.declared.filter.Filter.{Filter}
use Rattle.tracker_filters.specs.Saved.{number}
use Rattle.tracker_machine.specs.Machine.{Machine}
use Rattle.tracker_machine.specs.Saved.{SavedFilter, filter_number}
use Rattle.tracker_machine.specs.Filters.{filter_numbered, shown}
use Rattle.tracker_state.specs.State.{saved_as, saved_filters}
use Rattle.tracker_state.proofs.Watching.{by_number-saved}
use Rattle.tracker_import.specs.Load.{members_of}

abbrev shown_to_owner : Machine → Option SavedFilter → ℕ
shown_to_owner m o = option_map_or (λ f. length (shown m f.owner.0 f)) o 0

numbered_by : (m : Machine) (filter_no : FilterNo) (fs : List Filter) (o : Option Filter) → m.filters ≡ saved_filters fs → by_number number filter_no.0 fs ≡ o
    → filter_numbered m filter_no ≡ option_map saved_as o
numbered_by m filter_no fs o kept is = ap (by_number filter_number filter_no.0) kept ∙ by_number-saved filter_no.0 fs ∙ ap (option_map saved_as) is

pub members_there : (m : Machine) (filter_no : FilterNo) (fs : List Filter) (f : Filter) (hs : List History) → m.filters ≡ saved_filters fs → by_number number filter_no.0 fs ≡ Some f
    → hs ≡ shown m f.owner.0 (saved_as f) → length hs ≡ members_of m filter_no
members_there m filter_no fs f hs kept is are = ap length are ∙ ap (shown_to_owner m) (sym (numbered_by m filter_no fs (Some f) kept is))

pub members_missing : (m : Machine) (filter_no : FilterNo) (fs : List Filter) → m.filters ≡ saved_filters fs → by_number number filter_no.0 fs ≡ None → 0 ≡ members_of m filter_no
members_missing m filter_no fs kept is = ap (shown_to_owner m) (sym (numbered_by m filter_no fs None kept is))
