-- How a term compares with a mark, and when that changes.
use Rattle.std.specs.Prelude.{◌≡◌, ◌≢◌, ℕ, ◌<◌, ◌≤◌, Option, Some, None, ℤ, pos}
use Rattle.std.specs.declared.cmp.Ordering.{Ordering}
use Rattle.std.specs.Ordering.{int_cmp}
use Rattle.relative_dates.specs.Years.{last_second}
use Rattle.relative_dates.specs.declared.term.Term.{Term}
use Rattle.relative_dates.specs.Calendar.{LocalCalendar}
use Rattle.relative_dates.specs.Term.{second}

-- how the term's second compares with the mark at a moment
abbrev pub compared : LocalCalendar → Term → ℤ → ℕ → Ordering
compared calendar term mark at = int_cmp (second calendar term (pos at)) mark

-- the least later moment at which the comparison is another one, or none up to the last moment
abbrev pub IsNextChange : LocalCalendar → Term → ℤ → ℕ → Option ℕ → Type 0
IsNextChange calendar term mark at (Some next) =
    (at < next) × (next ≤ last_second)
    × (compared calendar term mark next ≢ compared calendar term mark at)
    × ((t : ℕ) → at < t → t < next → compared calendar term mark t ≡ compared calendar term mark at)
IsNextChange calendar term mark at None =
    (t : ℕ) → at < t → t ≤ last_second
    → compared calendar term mark t ≡ compared calendar term mark at
