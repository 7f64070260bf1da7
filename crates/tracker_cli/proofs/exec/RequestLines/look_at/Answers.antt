use Rattle.tracker_cli.proofs.AnswerLines.{read_fault, read_show}
use Rattle.tracker_cli.proofs.exec.RequestLines.look_at.Goals as goal
use Rattle.tracker_cli.proofs.exec.RequestLines.look_at.Goals.{in-Ok-Show+in_ok-put_show-in-Ok-Show, in-Ok-Call, in-Err+in_ok-put_reply_line-in-Err}

pub returns-clause-looked : goal.returns-clause-looked
returns-clause-looked g c = elim c.match-read_line_in.branch [
  | in-Ok-Show+in_ok-put_show-in-Ok-Show w ↦
      let has = w.in_ok-put_show-in-Ok-Show.ensures in
      rw (w.result-is, w.answer-is, ← c.self.view_is) (read_show _ _ _ _ _ _ _ _ _ has.reply (rw w.in-Ok-Show.field-0-is at w.in-Ok-Show.ensures) has.is has.line_is)
  | in-Ok-Call w ↦ rw (w.result-is) (rw w.in-Ok-Call.field-0-is at w.in-Ok-Call.ensures)
  | in-Err+in_ok-put_reply_line-in-Err w ↦
      rw (w.result-is, w.answer-is) (read_fault _ _ _ _ _ w.in-Err.ensures w.in_ok-put_reply_line-in-Err.ensures)
]
