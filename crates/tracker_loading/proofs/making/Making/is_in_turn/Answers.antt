use Rattle.std.proofs.Common.{◌≤◌, List, subst}
use Rattle.std.specs.Prelude.{IsTrue, ◌↔◌}
use Rattle.change_history.specs.History.{RoomyHistory, histories_of}
use Rattle.tracker_machine.specs.Machine.{Machine}
use Rattle.tracker_rows.specs.Rules.{IsInTurn}
use Rattle.tracker_loading.specs.Turns.{HasItsTurn}
use Rattle.tracker_loading.specs.contracts.making.Making.{the_view}
use Rattle.tracker_loading.proofs.Joined.{turn_from_parts, own_turn}
use Rattle.tracker_loading.proofs.Truths.{at_least}
use Rattle.tracker_loading.proofs.making.Making.is_in_turn.Goals as goal

pub returns : goal.returns
returns c =
    let m : Machine = the_view c.self.inside in
    let change = c.args.change in
    let at = c.args.at in
    let says = subst (λ (is : List RoomyHistory). IsTrue c.has_its_turn.result ↔ HasItsTurn (histories_of is) change at) c.as_slice.ensures c.has_its_turn.ensures in
    let counted : change ≤ m.change = c.if-self-change.false in
    let timely : at ≤ m.moment = at_least c.self.inside.moment at c.lt.result c.lt.ensures c.if-lt.false in
    subst (λ (o : Machine). IsTrue c.has_its_turn.result ↔ IsInTurn o change at) c.self.view_is
    (λ t. turn_from_parts m change at counted timely (says.0 t), λ turn. says.1 (own_turn m change at turn))
