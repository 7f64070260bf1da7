-- What was so after each change group, as the histories of the issues tell it: nothing is kept from one group to the next.
use Rattle.std.specs.Prelude.{ℕ, ◌==◌, nat_le, nat_lt, ℤ, pos, ◌+ℤ◌, List, [], ◌∷◌, Option, Some, None, if◌then◌else◌}
use Rattle.std.specs.List.{filter}
use Rattle.field_values.specs.declared.numbers.FieldNo.{FieldNo}
use Rattle.field_values.specs.declared.numbers.IssueNo.{IssueNo}
use Rattle.field_values.specs.declared.value.Value.{Value}
use Rattle.change_history.specs.declared.entry.Entry.{Entry}
use Rattle.change_history.specs.History.{History, opening_value, value_after}
use Rattle.burndown.specs.declared.share.Share.{Share}
use Rattle.burndown.specs.Share.{counted_before}

-- the entries of the groups up to number n
abbrev pub up_to : ℕ → List Entry → List Entry
up_to n entries = filter (λ e. nat_le e.change n) entries

-- the value of an issue's field after group n
abbrev pub value_then : History → ℕ → FieldNo → Value
value_then h n f = value_after (opening_value h.opening f) (up_to n h.entries) f

-- an issue's share after group n, by how its values are read; before its creation it has none
abbrev pub share_then : ((FieldNo → Value) → Share) → History → ℕ → Option Share
share_then reading h n = if nat_lt n h.change then None else Some (reading (value_then h n))

-- remaining work of a sprint after group n: the sum of what all issues counted for as they were then
abbrev pub remaining_then : ((FieldNo → Value) → Share) → List History → ℕ → ℕ → ℤ
remaining_then reading [] s n = pos 0
remaining_then reading (h ∷ hs) s n =
    counted_before s (share_then reading h n) +ℤ remaining_then reading hs s n

-- the moment of the entries of group n, if there are any
abbrev pub moment_among : List Entry → ℕ → Option ℕ
moment_among [] n = None
moment_among (e ∷ es) n = if e.change == n then Some e.at else moment_among es n

-- the moment of group n, if it is one of the issue's
abbrev pub moment_in : History → ℕ → Option ℕ
moment_in h n = if h.change == n then Some h.at else moment_among h.entries n

abbrev pub this_or : Option ℕ → IssueNo → Option (ℕ × IssueNo) → Option (ℕ × IssueNo)
this_or None issue others = others
this_or (Some at) issue others = Some (at, issue)

-- the moment and the issue of group n, if there is one
abbrev pub group_numbered : List History → ℕ → Option (ℕ × IssueNo)
group_numbered [] n = None
group_numbered (h ∷ hs) n = this_or (moment_in h n) h.no (group_numbered hs n)
