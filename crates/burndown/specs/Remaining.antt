-- Remaining work and rows as sums of shares: no total is kept from one event to the next.
use Rattle.std.specs.Prelude.{ℕ, ◌==◌, ℤ, pos, ◌+ℤ◌, List, [], ◌∷◌, ◌++◌, Option, Some, None, is_some, if◌then◌else◌}
use Rattle.std.specs.Option.{unwrap_or}
use Rattle.burndown.specs.declared.share.BurnRow.{BurnRow}
use Rattle.burndown.specs.Share.{counted_before}
use Rattle.burndown.specs.Course.{row_where_changed}
use Rattle.burndown.specs.Event.{Event, Changes, Begins, Ends, last_told}

-- what had happened when the sprint began, where it has
abbrev pub before_begin : ℕ → List Event → Option (List Event)
before_begin s [] = None
before_begin s (Changes group ∷ past) = before_begin s past
before_begin s (Begins t ∷ past) = if t == s then Some past else before_begin s past
before_begin s (Ends t ∷ past) = before_begin s past

-- what had happened when the sprint ended, where it has
abbrev pub before_end : ℕ → List Event → Option (List Event)
before_end s [] = None
before_end s (Changes group ∷ past) = before_end s past
before_end s (Begins t ∷ past) = before_end s past
before_end s (Ends t ∷ past) = if t == s then Some past else before_end s past

-- the sum of what each issue counts for in the sprint, as it was last told
abbrev pub sum_of_shares : List ℕ → ℕ → List Event → ℤ
sum_of_shares [] s events = pos 0
sum_of_shares (issue ∷ issues) s events =
    counted_before s (last_told events issue) +ℤ sum_of_shares issues s events

-- remaining work is that sum now, or where the sprint has ended, at its end
abbrev pub remaining : List ℕ → ℕ → List Event → ℤ
remaining issues s events = sum_of_shares issues s (unwrap_or (before_end s events) events)

-- the start is that sum at the begin, or now where the sprint has not begun
abbrev pub start : List ℕ → ℕ → List Event → ℤ
start issues s events = sum_of_shares issues s (unwrap_or (before_begin s events) events)

-- the rows are the groups since the begin that changed remaining work, the latest last
abbrev pub rows : List ℕ → ℕ → List Event → List BurnRow
rows issues s [] = []
rows issues s (Changes group ∷ past) =
    rows issues s past ++
    (if is_some (before_begin s past)
    then row_where_changed group (remaining issues s past)
    (remaining issues s (Changes group ∷ past)) else [])
rows issues s (Begins t ∷ past) = rows issues s past
rows issues s (Ends t ∷ past) = rows issues s past
