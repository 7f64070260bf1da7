use Rattle.request_lines.proofs.Progress.{ends_at_once}
use Rattle.request_lines.proofs.run.answer_lines.Goals as goal

pub returns-in_default-clause-run : goal.returns-in_default-clause-run
returns-in_default-clause-run g c = ends_at_once _ _ _ (g.S.Source.left c.args.input.now) _

pub returns-in_default-with_capacity-clause-run : goal.returns-in_default-with_capacity-clause-run
returns-in_default-with_capacity-clause-run g c = ends_at_once _ _ _ (g.S.Source.left c.args.input.now) _

pub returns-in_default-with_capacity-2-clause-run : goal.returns-in_default-with_capacity-2-clause-run
returns-in_default-with_capacity-2-clause-run g c = ends_at_once _ _ _ (g.S.Source.left c.args.input.now) _
