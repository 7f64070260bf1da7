use Rattle.std.proofs.Common.{◌≡◌, Option, Some, None, option_map, ap, ◌∙◌, Bor}
use Rattle.std.specs.Option.{is_some, option_copied}
use Rattle.tracker_filters.specs.declared.filter.Filter.{Filter}
use Rattle.tracker_machine.specs.Saved.{SavedFilter}
use Rattle.tracker_state.specs.State.{saved_as}
use Rattle.list_calls.proofs.save_filter.has_named.Goals as goal

some_in_both : (o : Option (Bor Filter)) (p : Option SavedFilter) → option_map saved_as (option_copied o) ≡ p → is_some o ≡ is_some p
some_in_both None p is = ap is_some is
some_in_both (Some f) p is = ap is_some is

pub returns : goal.returns
returns c = c.is_some.ensures ∙ some_in_both c.named.result _ c.named.ensures
