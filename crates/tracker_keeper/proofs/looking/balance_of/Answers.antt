use Rattle.std.proofs.Common.{Some, ap, ◌∙◌}
use Rattle.serde_json.specs.View.{view, items_view}
use Rattle.tracker_keeper.proofs.Lists.{no_balance}
use Rattle.tracker_keeper.proofs.looking.balance_of.Goals as goal

pub returns-in_default-2 : goal.returns-in_default-2
returns-in_default-2 c = no_balance (view c.args.value.now) c.as_slice.result.now (ap (λ xs. Some (items_view xs)) c.as_slice.ensures.value ∙ c.in_ok-as_array.ensures) c.in_default.len_at_least
