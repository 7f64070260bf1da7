use Rattle.std.proofs.Common.{◌∙◌}
use Rattle.jql_meaning.specs.Surroundings.{surroundings_of}
use Rattle.jql_past.proofs.Intervals.{meets_is}
use Rattle.jql_past.proofs.spans.lasts_in_windows.Goals as goal

pub returns-clause-answer : goal.returns-clause-answer
returns-clause-answer c =
    c.meets.ensures.value
    ∙ meets_is (surroundings_of c.args.context.now) c.args.at c.args.predicates.now c.known_interval-interval.result
    (record { begin = c.args.span.now.begin; end = c.args.span.now.end; author = c.args.span.now.author; value = c.args.span.now.value.now })
    c.known_interval-interval.ensures.interval c.meets.ensures.begin c.meets.ensures.end
