-- A step of the offset from UTC, and the first fault of its table. Moments are seconds since 1970-01-01 00:00:00 UTC.
use Rattle.std.specs.Prelude.{ℕ, List, [], ◌∷◌, ◌++◌, Bool, not, nat_lt, map, Option, ℤ, pos, neg_ℤ, unsigned_abs, codes}
use Rattle.std.specs.List.{list_all}
use Rattle.toml.specs.Data.{Members, get_member}
use Rattle.relative_dates.specs.Calendar.{Zone, goes_back, step_at}
use Rattle.setup_drafts.specs.declared.fault.SetupFault.{SetupFault}
use Rattle.setup_drafts.specs.declared.fault.SetupFault.TheVariants.{BadValue}
use Rattle.field_values.specs.declared.offset.Offset.{Offset}
use Rattle.field_values.specs.Years.{last_second}
use Rattle.setup_drafts.specs.Faults.{first_of, fault_if}
use Rattle.setup_drafts.specs.declared.draft.offset.OffsetSteps.{OffsetSteps}
use Rattle.std.specs.Option.{option_or}
use Rattle.setup_drafts.specs.Entries.{entries_fault}
use Rattle.setup_drafts.specs.Cells.{whole_fault, whole_in, tables_fault, tables_in}

-- the local clock of an offset and of the steps after it
abbrev pub zone_of : ℤ → List Offset → Zone
zone_of minutes offsets =
    record { first_offset = minutes; steps = map (λ o. step_at o.from o.minutes) offsets }

-- the step turns the local clock back to a day before
unfoldable pub turns_back : Zone → ℕ → ℤ → Bool
turns_back zone from minutes = goes_back zone (step_at from minutes)

-- the moment is after those of all earlier steps
abbrev pub comes_later : List Offset → ℕ → Bool
comes_later earlier from = list_all (λ o. nat_lt o.from from) earlier

abbrev pub from_in : Members → ℕ
from_in e = unsigned_abs (whole_in (get_member (codes "from") e))

abbrev pub minutes_in : Members → ℤ
minutes_in e = whole_in (get_member (codes "minutes") e)

unfoldable pub offset_of : Members → Offset
offset_of e = record { from = from_in e; minutes = minutes_in e }

-- each moment is after the one before, and the local day doesn't go back
unfoldable pub offset_fault : ℤ → List Offset → Members → Option SetupFault
offset_fault first earlier e = first_of
    (whole_fault (codes "from") (pos 0) (pos last_second) (get_member (codes "from") e)
    ∷ fault_if (not (comes_later earlier (from_in e))) (BadValue (codes "from"))
    ∷ whole_fault (codes "minutes") (neg_ℤ (pos 840)) (pos 840) (get_member (codes "minutes") e)
    ∷ fault_if (turns_back (zone_of first earlier) (from_in e) (minutes_in e))
    (BadValue (codes "minutes"))
    ∷ [])

-- the steps so far, and one more
abbrev pub with_offset : List Offset → Members → List Offset
with_offset earlier e = earlier ++ offset_of e ∷ []

-- the steps, and the calendar that has taken them
abbrev pub steps_of : ℤ → ℕ → List Offset → OffsetSteps
steps_of minutes first_day offsets = record {
  offsets = offsets;
  calendar = record { zone = zone_of minutes offsets; first_day = first_day };
}

-- the steps of the top table, after so many minutes from the start
unfoldable pub offsets_fault : ℤ → Members → Option SetupFault
offsets_fault minutes ms =
    option_or (tables_fault (codes "offset") 0 400 (get_member (codes "offset") ms))
    (entries_fault (offset_fault minutes) with_offset []
    (tables_in (get_member (codes "offset") ms)))

unfoldable pub offsets_in : Members → List Offset
offsets_in ms = map offset_of (tables_in (get_member (codes "offset") ms))
