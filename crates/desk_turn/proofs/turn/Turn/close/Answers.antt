use Rattle.std.proofs.Common.{arith, sym, subst, ◌∙◌}
use Rattle.desk_turn.proofs.Ends.{Leftover}
use Rattle.desk_turn.proofs.Standing.{some_none, some_is}
use Rattle.desk_turn.proofs.Ends.{left_over}
use Rattle.desk_turn.proofs.turn.Turn.close.Goals as goal

pub unreachable-requires : goal.unreachable-requires
unreachable-requires g c =
    let o = g.V.Kept.origin in
    let it = left_over g.V.Kept.history o c.args.self.table.shared.key.most (o c.args.self.table.shared.key.value.value) c.args.first.seat.id c.args.first.seat.me.0 _ _ c.take.result
    c.args.first.is_pass.rests (c.args.first.is_pass.number ∙ c.requires.joined.0) (omega (arith, c.args.first.is_pass.first c.requires.joined.0, c.requires.joined.1))
    c.close_with-closed.ensures.values.2 c.take.ensures.value in
    some_none it.0 _ (sym it.1 ∙ c.in_default.is)

pub returns-clause-history : goal.returns-clause-history
returns-clause-history g c =
    let o = g.V.Kept.origin in
    let it = left_over g.V.Kept.history o c.args.self.table.shared.key.most (o c.args.self.table.shared.key.value.value) c.args.first.seat.id c.args.first.seat.me.0 _ _ c.take.result
    c.args.first.is_pass.rests (c.args.first.is_pass.number ∙ c.requires.joined.0) (omega (arith, c.args.first.is_pass.first c.requires.joined.0, c.requires.joined.1))
    c.close_with-closed.ensures.values.2 c.take.ensures.value in
    (subst (λ x. Leftover g.V.Kept.history o (o c.args.self.table.shared.key.value.value) c.args.first.seat.me.0 x) (some_is it.0 c.in-Some.value (sym it.1 ∙ c.in-Some.is)) it.2).whole

pub returns-clause-origin : goal.returns-clause-origin
returns-clause-origin g c =
    let o = g.V.Kept.origin in
    let it = left_over g.V.Kept.history o c.args.self.table.shared.key.most (o c.args.self.table.shared.key.value.value) c.args.first.seat.id c.args.first.seat.me.0 _ _ c.take.result
    c.args.first.is_pass.rests (c.args.first.is_pass.number ∙ c.requires.joined.0) (omega (arith, c.args.first.is_pass.first c.requires.joined.0, c.requires.joined.1))
    c.close_with-closed.ensures.values.2 c.take.ensures.value in
    (subst (λ x. Leftover g.V.Kept.history o (o c.args.self.table.shared.key.value.value) c.args.first.seat.me.0 x) (some_is it.0 c.in-Some.value (sym it.1 ∙ c.in-Some.is)) it.2).source
