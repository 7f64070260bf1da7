-- How much a tracker holds at most.
use Rattle.std.specs.Prelude.{ℕ, ◌+◌}

abbrev pub most_issues : ℕ
most_issues = 50_000

-- entries, in the histories of all issues
abbrev pub most_entries : ℕ
most_entries = 2_000_000

-- those that one change may bring: one for each field that an issue can have
abbrev pub entries_reserve : ℕ
entries_reserve = 43

-- changes are creations, one an issue, and groups, of an entry at least
abbrev pub most_changes : ℕ
most_changes = most_issues + most_entries

-- bytes of text, in the opening values and the entries of all issues
abbrev pub most_text_bytes : ℕ
most_text_bytes = 500_000_000

-- those that one call may add
abbrev pub text_reserve : ℕ
text_reserve = 200_000

abbrev pub most_filters : ℕ
most_filters = 200

abbrev pub most_boards : ℕ
most_boards = 200

abbrev pub most_sprints : ℕ
most_sprints = 1_000
