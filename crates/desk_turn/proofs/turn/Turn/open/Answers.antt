use Rattle.std.proofs.Common.{arith, ◌∷◌, [], Some, ap, sym, subst}
use Rattle.atomic_table.specs.Table.{opening}
use Rattle.desk_turn.specs.Rule.{Keeps}
use Rattle.desk_turn.specs.Views.{opening_view}
use Rattle.desk_turn.proofs.Ends.{opens}
use Rattle.desk_turn.proofs.Calls.{pushed}
use Rattle.desk_turn.proofs.turn.Turn.open.Goals as goal

pub new-requires : goal.new-requires
new-requires g c =
    let h = g.V.Kept.history in
    let o = g.V.Kept.origin in
    let items = pushed c.in-Ok.slots.items c.push_reserved.new.self.items (Some c.args.value) c.push_reserved.ensures.items c.in-Ok.ensures.items in
    subst (λ l. Keeps h o c.args.most (o c.of.result.value) (opening (0 ∷ 0 ∷ 0 ∷ 0 ∷ []) l (opening_view c.args.most (o c.of.result.value)))) (sym items)
    (opens h o c.args.most (o c.of.result.value) c.args.value (omega (arith, c.ranges.most.fits)) c.requires.empty (ap o (sym c.of.ensures)))
