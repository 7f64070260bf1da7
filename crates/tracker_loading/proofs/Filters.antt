-- The filters of a tracker, beside those that are asked.
use Rattle.std.proofs.Common.{◌≡◌, None, Some, Option, option_map, List, [], ◌∷◌, refl, sym, ◌∙◌, arith}
use Rattle.std.proofs.lemmas.List.{length-map}
use Rattle.std.proofs.lemmas.Option.{none-some}
use Rattle.field_values.specs.Parts.{Parts}
use Rattle.board.specs.declared.board.Board.{Board}
use Rattle.rising_numbers.proofs.Mapped.{rise_from_map}
use Rattle.tracker_filters.specs.declared.filter.Filter.{Filter}
use Rattle.tracker_filters.specs.Saved.{by_owner, HaveOwnNames, AreSaved}
use Rattle.tracker_machine.specs.Saved.{SavedFilter, filter_number}
use Rattle.tracker_machine.specs.Saved as Machine
use Rattle.tracker_state.specs.State.{saved_as, saved_filters}
use Rattle.tracker_state.proofs.Watching.{filter_named-saved}

none_of : (o : Option Filter) → option_map saved_as o ≡ None → o ≡ None
none_of None none = refl
none_of (Some f) none = absurd (none-some (saved_as f) (sym none))

own_names : (fs : List Filter) → Machine.HaveOwnNames (saved_filters fs) → HaveOwnNames fs
own_names [] own = tt
own_names (f ∷ fs) own = (none_of (by_owner f.owner f.name fs) (sym (filter_named-saved f.owner f.name fs) ∙ own.0), own_names fs own.1)

-- what the abstract tracker has saved are filters as they are asked
pub are_saved : (setup : Parts) (fs : List Filter) (boards : List Board) → Machine.AreSaved setup (saved_filters fs) boards → AreSaved fs
are_saved setup fs boards are = record {
  rising = rise_from_map saved_as filter_number 1 fs are.rising;
  names = own_names fs are.names;
  few = omega (arith, are.few, length-map fs saved_as);
}
