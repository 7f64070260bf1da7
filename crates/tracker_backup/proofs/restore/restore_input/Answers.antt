use Rattle.std.proofs.Common.{Err, ap, ◌∙◌}
use Rattle.tracker_backup.proofs.Ended.{input_front, limit_front}
use Rattle.tracker_backup.proofs.restore.restore_input.Goals as goal

pub returns-in-Ok-clause-written : goal.returns-in-Ok-clause-written
returns-in-Ok-clause-written g c = λ is.
    input_front _ _ c.in-Ok.bytes.items _ _ c.in-Ok.ensures.whole c.in-Ok.ensures.end (c.restore_bytes.ensures.written is)

pub returns-in-Err-TooLong-clause-written : goal.returns-in-Err-TooLong-clause-written
returns-in-Err-TooLong-clause-written g c = λ is.
    limit_front _ _ _ (c.read_whole.ensures.long (c.in-Err-TooLong.is ∙ ap Err c.in-Err-TooLong.field-0-is)) (c.tell.ensures.written is)
