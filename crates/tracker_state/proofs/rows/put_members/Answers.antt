use Rattle.std.proofs.Common.{◌∷◌, ◌++◌, [], List, ap, ◌∙◌, arith}
use Rattle.field_values.specs.declared.numbers.UserNo.{UserNo}
use Rattle.fields.specs.SetupParts.{parts}
use Rattle.tracker_keeper.specs.declared.row.RowOp.{RowOp}
use Rattle.tracker_state.specs.Rows.{members_op}
use Rattle.tracker_state.proofs.MemberOps.{one_group_more}
use Rattle.tracker_state.proofs.rows.put_members.Goals as goal

pub loop-group-preserved : goal.loop-group-preserved
loop-group-preserved c =
    let so_far = c.loop-group.invariant in
    let setup = parts c.args.setup.now in (
      omega (arith, so_far.0),
      c.in_ok-push.ensures.items
          ∙ ap (λ (op : RowOp). c.loop-group.ops.items ++ op ∷ []) c.in_ok-op.ensures
          ∙ ap (λ (users : List UserNo). c.loop-group.ops.items ++ members_op setup c.loop-group.number users ∷ []) c.as_slice.ensures
          ∙ one_group_more setup c.args.ops.now.items c.loop-group.ops.items c.loop-group.group-index c.as_slice-group-items.result.now
          c.group-item.result c.group-item.result c.loop-group.number (omega arith) c.group-item.is so_far.0 so_far.1,
    )
