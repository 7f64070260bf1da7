use Rattle.std.proofs.Common.{◌∙◌}
use Rattle.jql_past.proofs.changes.is_in_windows.Goals as goal

pub returns-clause-answer : goal.returns-clause-answer
returns-clause-answer c = c.has_moment.ensures.value ∙ c.known_interval-interval.ensures.interval c.args.moment c.has_moment.ensures.bound
