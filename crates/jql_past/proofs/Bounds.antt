-- Where the first moment of a local day lies.
use Rattle.std.proofs.Common.{arith, ℤ, pos, ◌-ℤ◌, ◌*ℤ◌}
use Rattle.jiff_core.specs.Calendar.{IsWithin}
use Rattle.jiff_core.proofs.SignedLemmas.{signed_arith}
use Rattle.relative_dates.specs.Calendar.{Zone, IsZone, IsFirstAt}
use Rattle.relative_dates.proofs.OffsetLemmas.{minutes_from_in}

pub midnight_bound : (zone : Zone) (day at : ℤ) → IsZone zone → IsWithin 3_000_000_000 day → IsFirstAt zone (day *ℤ pos 86_400) at → IsWithin 1_000_000_000_000_000 at
midnight_bound zone day at is within first =
    let now = minutes_from_in zone.first_offset zone.steps at is.first_in is.steps_in in
    let earlier = minutes_from_in zone.first_offset zone.steps (at -ℤ pos 1) is.first_in is.steps_in in
    let come = first.come in
    let not_yet = first.before (at -ℤ pos 1) (omega (arith, signed_arith)) in
    (omega (arith, signed_arith, within), omega (arith, signed_arith, within))
