use Rattle.std.proofs.Common.{pos, ◌+ℤ◌, ◌*ℤ◌}
use Rattle.relative_dates.proofs.FirstLemmas.{first_at-is}
use Rattle.relative_dates.proofs.OrderLemmas.{first_at-first, first_at-le}
use Rattle.relative_dates.proofs.laws.first_moments.Goals as goal

pub returns-clause-first : goal.returns-clause-first
returns-clause-first c = first_at-first

pub returns-clause-one : goal.returns-clause-one
returns-clause-one c = first_at-is

pub returns-clause-order : goal.returns-clause-order
returns-clause-order c = first_at-le

pub returns-clause-literal : goal.returns-clause-literal
returns-clause-literal c = λ calendar local at is. first_at-first calendar.zone ((local.day *ℤ pos 86_400) +ℤ pos local.second) is.zone
