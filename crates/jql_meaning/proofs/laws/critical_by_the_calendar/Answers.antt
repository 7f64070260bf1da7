use Rattle.jql_meaning.proofs.Calendars.{critical_by_the_calendar}
use Rattle.jql_meaning.proofs.laws.critical_by_the_calendar.Goals as goal

pub returns : goal.returns
returns c = critical_by_the_calendar
