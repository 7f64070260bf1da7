use Rattle.tracker_backup.proofs.Ended.{line_front, row_front}
use Rattle.tracker_backup.proofs.restore.restore_bytes.Goals as goal

pub returns-in-Err-BadLine-clause-written : goal.returns-in-Err-BadLine-clause-written
returns-in-Err-BadLine-clause-written g c = λ is.
    let bad = c.in-Err-BadLine in
    line_front c.args.bytes.items bad.field-0 bad.number _ _ bad.ensures.fault bad.field-0-is (c.tell_line.ensures.written is)

pub returns-in-Err-BadRow-clause-written : goal.returns-in-Err-BadRow-clause-written
returns-in-Err-BadRow-clause-written g c = λ is.
    let bad = c.in-Err-BadRow in
    row_front c.args.bytes.items bad.field-0 bad.kind bad.no _ _ bad.ensures.fault bad.field-0-is (c.tell_row.ensures.written is)
