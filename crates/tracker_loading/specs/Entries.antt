-- The entries of a group.
use Rattle.std.specs.Prelude.{◌≡◌, ◌≢◌, ◌≤◌, ℕ, List}
use Rattle.std.specs.List.{All}
use Rattle.field_values.specs.declared.numbers.FieldNo.{FieldNo}
use Rattle.field_values.specs.declared.numbers.UserNo.{UserNo}
use Rattle.field_values.specs.declared.value.Value.{Value}
use Rattle.change_history.specs.declared.entry.Entry.{Entry}

-- an entry has its group's number, moment and author
pub record IsOfGroup (change at : ℕ) (author : UserNo) (e : Entry) : Type 0 where
  pub change_is : e.change ≡ change
  pub at_is : e.at ≡ at
  pub author_is : e.author ≡ author

abbrev pub AreOfGroup : ℕ → ℕ → UserNo → List Entry → Type 0
AreOfGroup change at author entries = All (IsOfGroup change at author) entries

-- an entry is of a field from this number on, and leads from its present value to another one
pub record LeadsOn (values : FieldNo → Value) (low : ℕ) (e : Entry) : Type 0 where
  pub behind : low ≤ e.field.0
  pub from : e.from ≡ values e.field
  pub other : e.from ≢ e.to
