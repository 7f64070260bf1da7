use Rattle.std.proofs.Common.{◌≡◌, ◌≢◌, ◌≤◌, ◌<◌, ◌-◌}
use Rattle.relative_dates.specs.Years.{last_second}
use Rattle.relative_dates.specs.Change.{compared}
use Rattle.relative_dates.proofs.term.Term.next.Given as goal

abbrev pub invariant-loop-other : goal.invariant-loop-other
invariant-loop-other l = record {
  order : l.at ≤ l.same;
  apart : l.same < l.other;
  within : l.other ≤ last_second;
  alike : compared l.calendar l.self l.mark l.same ≡ compared l.calendar l.self l.mark l.at;
  unlike : compared l.calendar l.self l.mark l.other ≢ compared l.calendar l.self l.mark l.at;
}

abbrev pub decreases-loop-other : goal.decreases-loop-other
decreases-loop-other l = l.other - l.same
