-- Ends of cells, and their order.
use Rattle.std.specs.Prelude.{ℕ, Bool, List, slice_index_or}
use Rattle.std.specs.declared.cmp.Ordering.{Ordering}
use Rattle.std.specs.Ordering.{nat_cmp, ordering_then, is_lt}
use Rattle.filter_views.specs.declared.due.Due.{Due}

-- by moment, then by filter, then by issue
abbrev pub due_cmp : Due → Due → Ordering
due_cmp a b =
    ordering_then (nat_cmp a.end b.end)
    (ordering_then (nat_cmp a.filter.0 b.filter.0) (nat_cmp a.issue.0 b.issue.0))

unfoldable pub is_before : Due → Due → Bool
is_before a b = is_lt (due_cmp a b)

abbrev pub no_due : Due
no_due = record { end = 0; filter = record { 0 = 0 }; issue = record { 0 = 0 } }

-- the one at a place
abbrev pub due_at : List Due → ℕ → Due
due_at ds k = slice_index_or ds k no_due
