use Rattle.std.proofs.Common.{◌≡◌, arith}
use Rattle.jiff_core.specs.Date.{epoch_day}
use Rattle.jiff_core.proofs.SignedLemmas.{signed_casts}
use Rattle.civil_dates.proofs.Parts.{day_bounds, date_has_parts}
use Rattle.civil_dates.proofs.write.date_of.Goals as goal

same_day : (c : goal.After-from_days_since_min) → epoch_day c.from_days_since_min.result ≡ c.args.day
same_day c = omega (arith, signed_casts, day_bounds c.args.day c.requires)

pub returns-clause-year : goal.returns-clause-year
returns-clause-year c =
    (date_has_parts c.from_days_since_min.result c.args.day c.requires (same_day c)).0

pub returns-clause-month : goal.returns-clause-month
returns-clause-month c =
    (date_has_parts c.from_days_since_min.result c.args.day c.requires (same_day c)).1

pub returns-clause-day : goal.returns-clause-day
returns-clause-day c =
    (date_has_parts c.from_days_since_min.result c.args.day c.requires (same_day c)).2
