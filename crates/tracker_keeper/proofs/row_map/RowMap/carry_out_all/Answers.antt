use Rattle.std.proofs.Common.{sym, subst, ap, take, reverse, ◌∷◌, [], ◌++◌, ◌∙◌, arith}
use Rattle.std.proofs.lemmas.List.{take_more, reverse-append}
use Rattle.tracker_keeper.specs.Places.{AreCarriedOut, CanTakeBack}
use Rattle.tracker_keeper.proofs.Placing.{carried_more, back_more, back_still}
use Rattle.tracker_keeper.proofs.row_map.RowMap.carry_out_all.Goals as goal

pub returns-in_default-clause-begun : goal.returns-in_default-clause-begun
returns-in_default-clause-begun c =
    let ensures = c.in_default.ensures in
    back_still (reverse c.loop-op.backs.items) c.args.self.now.places c.loop-op.self.places c.carry_out.new.self.places c.loop-op.invariant.back ensures.undone ensures.others

pub loop-op-preserved : goal.loop-op-preserved
loop-op-preserved c =
    let ops = c.args.ops.now in
    let at = c.loop-op.op-index in
    let first = c.args.self.now.places in
    let old = c.loop-op.self.places in
    let new = c.carry_out.new.self.places in
    let backs = c.loop-op.backs.items in
    let back = c.in-Ok.back in
    let ensures = c.in-Ok.ensures in
    record {
      done = subst (λ done. AreCarriedOut done first new) (ap (λ op. take at ops ++ op ∷ []) c.op-item.is ∙ sym (take_more ops at c.op-item.result c.loop-op-test.true))
          (carried_more (take at ops) c.op-item.result first old new c.loop-op.invariant.done ensures.rows);
      back = subst (λ left. CanTakeBack left first new) (sym (ap reverse c.push_reserved.ensures.items ∙ reverse-append backs (back ∷ [])))
          (back_more (reverse backs) back first old new c.loop-op.invariant.back ensures.back ensures.place ensures.others);
      room = omega arith;
      count = omega arith;
    }
