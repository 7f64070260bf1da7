use Rattle.std.proofs.Common.{◌≡◌, ℕ, List, length, map, option_map, ap, subst}
use Rattle.std.specs.Prelude.{IfOk}
use Rattle.change_history.specs.History.{History}
use Rattle.jql_bound.specs.Condition.{view}
use Rattle.jql_bound.specs.declared.cond.Bound.{Bound}
use Rattle.jql_bound.specs.declared.order.OrderBy.{OrderBy}
use Rattle.jql_meaning.specs.Surroundings.{Surroundings, surroundings_of}
use Rattle.jql_meaning.specs.Truth.{query_holds}
use Rattle.tracker_calls.specs.Part.{part_of}
use Rattle.tracker_state.specs.State.{query_of}
use Rattle.list_calls.proofs.Settled.{HoldAlike, found_same, in_order_same}
use Rattle.list_calls.proofs.search.found_part.Goals as goal

pub returns-clause-issues : goal.returns-clause-issues
returns-clause-issues g c =
    let m = c.args.state.now.machine in
    let old : Bound = c.args.bound.now in
    let new : Bound = c.settle.new.query in
    let same : HoldAlike m c.args.caller.0 (query_of old).condition (query_of new).condition =
    subst (λ (s : Surroundings). (h : History) → query_holds s h m.moment (option_map view new.cond) ≡ query_holds s h m.moment (option_map view old.cond)) c.context.ensures
    (subst (λ (at : ℕ). (h : History) → query_holds (surroundings_of c.context.result.now) h at (option_map view new.cond) ≡ query_holds (surroundings_of c.context.result.now) h at (option_map view old.cond)) c.moment.ensures
    c.settle.ensures.holds) in
    subst (λ (hs : List History). IfOk c.ordered.result (λ found. map (λ i. i.now.history) (part_of c.args.part found.issues.items) ≡ part_of c.args.part hs))
    (in_order_same m c.args.caller.0 (query_of old) (query_of new) (ap (λ (o : OrderBy). o.keys) c.settle.ensures.order) same)
    c.ordered.ensures.issues

pub returns-clause-total : goal.returns-clause-total
returns-clause-total g c =
    let m = c.args.state.now.machine in
    let old : Bound = c.args.bound.now in
    let new : Bound = c.settle.new.query in
    let same : HoldAlike m c.args.caller.0 (query_of old).condition (query_of new).condition =
    subst (λ (s : Surroundings). (h : History) → query_holds s h m.moment (option_map view new.cond) ≡ query_holds s h m.moment (option_map view old.cond)) c.context.ensures
    (subst (λ (at : ℕ). (h : History) → query_holds (surroundings_of c.context.result.now) h at (option_map view new.cond) ≡ query_holds (surroundings_of c.context.result.now) h at (option_map view old.cond)) c.moment.ensures
    c.settle.ensures.holds) in
    subst (λ (hs : List History). IfOk c.ordered.result (λ found. found.total ≡ length hs))
    (found_same m c.args.caller.0 (query_of old).condition (query_of new).condition same)
    c.ordered.ensures.total
