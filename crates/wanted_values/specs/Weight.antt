-- What one call adds of text bytes: values that fit are far below what the limit leaves room for.
use Rattle.std.specs.Prelude.{ℕ, ◌≤◌, List, sum_by}
use Rattle.field_values.specs.declared.numbers.FieldNo.{FieldNo}
use Rattle.field_values.specs.declared.numbers.UserNo.{UserNo}
use Rattle.field_values.specs.declared.value.Value.{Value}
use Rattle.field_forms.specs.Known.{Names}
use Rattle.tracker_limits.specs.Limits.{text_reserve}
use Rattle.change_history.specs.declared.change.Change.{Change}
use Rattle.change_history.specs.declared.entry.Entry.{Entry}
use Rattle.workflow.specs.Difference.{AreNews, entries_of}
use Rattle.workflow.specs.Laws.{AllFit}
use Rattle.tracker_machine.specs.declared.wanted.Wanted.{Wanted}
use Rattle.tracker_machine.specs.Wanted.{changes_of}
use Rattle.tracker_machine.specs.Create.{filled}
use Rattle.tracker_machine.specs.Checks.{text_bytes, entry_bytes}
use Rattle.tracker_machine.specs.Tracker.{Holds}

-- these values have at most 200,000 text bytes
abbrev pub AreLight : List Change → Type 0
AreLight changes = sum_by (λ c. text_bytes c.to) changes ≤ text_reserve

-- so have both sides of these entries
abbrev pub AllLight : List Entry → Type 0
AllLight entries = sum_by entry_bytes entries ≤ text_reserve

-- so have opening values that fit
abbrev pub OpeningsAreLight : Names → Type 0
OpeningsAreLight names =
    (wants : ℕ → Wanted) → AllFit names (changes_of names wants)
    → AreLight (filled (changes_of names wants))

-- so has a change group that gives fields values that fit, where they held nothing or such values before
abbrev pub GroupsAreLight : Names → Type 0
GroupsAreLight names =
    (before : FieldNo → Value) (change at : ℕ) (author : UserNo) (changes : List Change) →
    ((f : FieldNo) → Holds names f (before f)) → AreNews before 0 changes → AllFit names changes →
    AllLight (entries_of before change at author changes)
