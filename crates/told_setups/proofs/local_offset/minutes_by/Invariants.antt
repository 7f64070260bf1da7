use Rattle.std.proofs.Common.{◌≡◌, map, drop, pos}
use Rattle.relative_dates.specs.Calendar.{minutes_at, minutes_from, step_at}
use Rattle.setup_drafts.specs.Offsets.{zone_of}
use Rattle.told_setups.proofs.local_offset.minutes_by.Given as goal

abbrev pub invariant-loop-step : goal.invariant-loop-step
invariant-loop-step l =
    minutes_at (zone_of l.first l.steps) (pos l.at)
    ≡ minutes_from l.minutes (map (λ o. step_at o.from o.minutes) (drop l.step-index l.steps)) (pos l.at)
