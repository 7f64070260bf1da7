-- How many cells are due at a moment.
use Rattle.std.specs.Prelude.{ℕ, Bool, false, List, Option, Some, None, nat_le, count_by, sum_by}
use Rattle.filter_views.specs.Cell.{Cell, Views}

-- an end that is at or before the moment
abbrev pub is_over : ℕ → Option ℕ → Bool
is_over now None = false
is_over now (Some end) = nat_le end now

abbrev pub due_among : ℕ → List Cell → ℕ
due_among now cs = count_by (λ c. is_over now c.end) cs

-- how many cells end at or before the moment
abbrev pub due : Views → ℕ → ℕ
due v now = sum_by (λ l. due_among now l.cells) v.table
