-- The difference between what an issue's fields hold before and after.
use Rattle.std.specs.Prelude.{◌≡◌, ◌≢◌, ℕ, ◌+◌, ◌≤◌, List, [], ◌∷◌, map}
use Rattle.field_values.specs.declared.numbers.UserNo.{UserNo}
use Rattle.field_values.specs.declared.numbers.FieldNo.{FieldNo}
use Rattle.field_values.specs.declared.value.Value.{Value}
use Rattle.change_history.specs.declared.change.Change.{Change}
use Rattle.change_history.specs.declared.entry.Entry.{Entry}
use Rattle.workflow.specs.Net.{with_changes}

-- each field stands once, by rising number from `low` on, with another value than before
abbrev pub AreNews : (FieldNo → Value) → ℕ → List Change → Type 0
AreNews before low [] = Unit {0}
AreNews before low (c ∷ cs) =
    (low ≤ c.field.0) × (c.to ≢ before c.field) × AreNews before (c.field.0 + 1) cs

-- with these changes and no others the fields hold what they hold after
pub record IsDifference (before after : FieldNo → Value) (changes : List Change) : Type 0 where
  pub news : AreNews before 0 changes
  pub gives : (f : FieldNo) → with_changes before changes f ≡ after f

-- the entries of the change group that makes these changes
abbrev pub entry_of : (FieldNo → Value) → ℕ → ℕ → UserNo → Change → Entry
entry_of before change at author c =
    record
    { change = change; at = at; author = author; field = c.field; from = before c.field; to = c.to }

abbrev pub entries_of : (FieldNo → Value) → ℕ → ℕ → UserNo → List Change → List Entry
entries_of before change at author changes = map (entry_of before change at author) changes
