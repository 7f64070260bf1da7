use Rattle.request_lines.proofs.InTurn.{cut_before, all_written}
use Rattle.request_lines.proofs.waiting.keep.Goals as goal

pub returns-in-Err-clause-bytes : goal.returns-in-Err-clause-bytes
returns-in-Err-clause-bytes g c =
    let same = rw c.if-joins.false at c.joins.ensures in
    cut_before _ _ _ _ (rw same at c.in-Err.ensures.bytes)

pub returns-in-Ok-clause-bytes : goal.returns-in-Ok-clause-bytes
returns-in-Ok-clause-bytes g c =
    let same = rw c.if-joins.false at c.joins.ensures in
    all_written _ _ _ _ _ _ c.write_all.result (rw same at c.in-Ok.ensures.bytes) c.in-Ok.ensures.none c.write_all.ensures.bytes
