use Rattle.std.proofs.Common.{◌≡◌, length, ap, sym, ◌∙◌, subst, arith}
use Rattle.std.specs.Prelude.{Ok}
use Rattle.field_values.specs.Parts.{Parts}
use Rattle.tracker_machine.specs.Query.{Query, asked}
use Rattle.tracker_machine.specs.Saved.{MaySave}
use Rattle.tracker_machine.specs.Filters.{save_filter_meaning}
use Rattle.tracker_state.specs.State.{query_of}
use Rattle.tracker_state.specs.Plan.{cost_to_prepare}
use Rattle.list_calls.proofs.Saving.{may_save, save_means, saved_cost}
use Rattle.list_calls.proofs.save_filter.save_filter.Goals as goal

pub save-requires-clause-may : goal.save-requires-clause-may
save-requires-clause-may g c =
    let m = c.args.state.now.machine in
    let query : Query = query_of c.in_ok-query.query in
    let asks : asked m.setup c.args.caller.0 c.args.jql.now ≡ Ok query =
    subst (λ (p : Parts). asked p c.args.caller.0 c.args.jql.now ≡ Ok query) c.setup.ensures c.in_ok-query.ensures.query in
    subst (MaySave m.setup m.filters) (sym c.in_ok-filter.ensures.saved)
    (may_save m c.args.caller.0 c.args.name.now c.args.jql.now query c.is_tracker.ensures c.requires.caller c.requires.title asks c.in_ok-check_filters.ensures)

pub returns-clause-steps : goal.returns-clause-steps
returns-clause-steps g c =
    let m = c.args.state.now.machine in
    let caller = c.args.caller.0 in
    let name = c.args.name.now in
    let text = c.args.jql.now in
    let query : Query = query_of c.in_ok-query.query in
    let asks : asked m.setup caller text ≡ Ok query =
    subst (λ (p : Parts). asked p caller text ≡ Ok query) c.setup.ensures c.in_ok-query.ensures.query in
    let cost : cost_to_prepare (save_filter_meaning m caller name text) m ≡ length m.histories =
    ap (λ due. cost_to_prepare due m) (save_means m caller name text query c.in_ok-check_filters.ensures asks) ∙ saved_cost m caller name text query in
    omega (arith, c.save.ensures.steps, cost)
