use Rattle.std.proofs.Common.{sym, ◌∙◌}
use Rattle.tracker_cli.proofs.AnswerLines.{looked_line}
use Rattle.tracker_cli.proofs.exec.RequestLinesResponder.look.Goals as goal

pub returns-clause-looked : goal.returns-clause-looked
returns-clause-looked g c = looked_line _ _ _ _ _ _ _ _ (sym c.is_blank.ensures ∙ c.if-is_blank.false) c.look_at.ensures.looked
