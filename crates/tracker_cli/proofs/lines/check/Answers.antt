use Rattle.tracker_cli.proofs.Outcomes.{checks_end}
use Rattle.tracker_cli.proofs.lines.check.Goals as goal

pub returns-clause-run : goal.returns-clause-run
returns-clause-run g c = checks_end _ _ _ _ _ _ _ c.answer_lines.ensures.run
