use Rattle.std.proofs.Common.{◌≡◌, List, IfOk, map, option_map, ap, subst, ◌∙◌}
use Rattle.field_values.specs.Parts.{Parts}
use Rattle.change_history.specs.History.{History}
use Rattle.jql_bound.specs.Condition.{view}
use Rattle.list_calls.specs.Browsing.{browsable}
use Rattle.list_calls.proofs.Projects.{found_by}
use Rattle.list_calls.proofs.search.found.Goals as goal

pub returns-clause-found : goal.returns-clause-found
returns-clause-found g c =
    let m = c.args.state.now.machine in
    let table = c.deref.ensures.value ∙ c.in_ok-table.ensures ∙ ap (λ (setup : Parts). browsable setup c.args.caller.0) c.setup.ensures in
    subst (λ (hs : List History). IfOk c.found_among.result (λ issues. map (λ i. i.now.history) issues.items ≡ hs))
    (found_by m c.args.caller.0 (option_map view c.args.bound.now.cond) c.deref.result.now table)
    c.found_among.ensures.found
