use Rattle.tracker_cli.proofs.AnswerLines.{made_line, made_unwritten}
use Rattle.tracker_cli.proofs.exec.RequestLinesResponder.make.Goals as goal

pub returns-clause-ok : goal.returns-clause-ok
returns-clause-ok g c = λ line asks. made_line _ _ _ _ _ _ line _ _ _ asks c.answer_call.ensures

pub returns-clause-err : goal.returns-clause-err
returns-clause-err g c = λ line asks. made_unwritten _ _ _ _ _ _ line _ _ _ asks c.answer_call.ensures
