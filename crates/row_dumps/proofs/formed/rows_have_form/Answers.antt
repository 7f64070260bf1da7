use Rattle.std.proofs.Common.{arith}
use Rattle.row_dumps.proofs.Walked.{one_more}
use Rattle.row_dumps.proofs.formed.rows_have_form.Goals as goal

pub loop-row-init : goal.loop-row-init
loop-row-init c k d less = absurd (omega (arith, less))

pub loop-row-preserved : goal.loop-row-preserved
loop-row-preserved c =
    one_more c.args.rows.now c.loop-row.row-index c.row-item.result (omega (arith, c.loop-row-test.true)) c.row-item.is c.has_form.ensures c.loop-row.invariant

pub returns : goal.returns
returns c k d less = c.loop-row.invariant k d (omega (arith, less, c.loop-row-test.false))
