use Rattle.std.proofs.Common.{Some, ap, ◌∙◌, arith}
use Rattle.serde_json.specs.View.{view, items_view}
use Rattle.tracker_keeper.proofs.Lists.{no_pair}
use Rattle.tracker_keeper.proofs.looking.pair_of.Goals as goal

pub returns-in-len1 : goal.returns-in-len1
returns-in-len1 c = no_pair (view c.args.value.now) c.as_slice.result.now (ap (λ xs. Some (items_view xs)) c.as_slice.ensures.value ∙ c.in_ok-as_array.ensures) (λ e. omega (arith, e, c.in-len1.len_below))

pub returns-in_default : goal.returns-in_default
returns-in_default c = no_pair (view c.args.value.now) c.as_slice.result.now (ap (λ xs. Some (items_view xs)) c.as_slice.ensures.value ∙ c.in_ok-as_array.ensures) (λ e. omega (arith, e, c.in_default.len_at_least))
