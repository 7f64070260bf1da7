-- An issue's history.
use Rattle.std.specs.Prelude.{◌≡◌, ◌≢◌, ◌⊎◌, ◌==◌, ℕ, ◌+◌, ◌<◌, ◌≤◌, List, [], ◌∷◌, length, map, take, if◌then◌else◌}
use Rattle.field_values.specs.declared.numbers.UserNo.{UserNo}
use Rattle.field_values.specs.declared.numbers.FieldNo.{FieldNo}
use Rattle.field_values.specs.declared.numbers.IssueNo.{IssueNo}
use Rattle.field_values.specs.declared.value.Value.{Value}
use Rattle.field_values.specs.declared.value.Value.TheVariants.{Empty}
use Rattle.change_history.specs.declared.change.Change.{Change}
use Rattle.change_history.specs.declared.entry.Entry.{Entry}

-- a creation with its opening values, and the entries since
pub record History : Type 0 where
  pub no : IssueNo
  pub key : List ℕ
  pub change : ℕ
  pub at : ℕ
  pub author : UserNo
  pub opening : List Change
  pub entries : List Entry

-- a history, and room for so many entries more
pub record RoomyHistory : Type 0 where
  pub history : History
  pub room : ℕ

abbrev pub histories_of : List RoomyHistory → List History
histories_of issues = map (λ i. i.history) issues

-- the opening value of a field
abbrev pub opening_value : List Change → FieldNo → Value
opening_value [] f = Empty
opening_value (c ∷ cs) f = if c.field.0 == f.0 then c.to else opening_value cs f

-- the value after these entries, from one before them
abbrev pub value_after : Value → List Entry → FieldNo → Value
value_after v [] f = v
value_after v (e ∷ es) f = value_after (if e.field.0 == f.0 then e.to else v) es f

-- the value of a field after the first k entries
abbrev pub after : History → FieldNo → ℕ → Value
after h f k = value_after (opening_value h.opening f) (take k h.entries) f

abbrev pub present : History → FieldNo → Value
present h f = value_after (opening_value h.opening f) h.entries f

-- the values of the fields after an entry, and after entries
abbrev pub put_value : (FieldNo → Value) → Entry → FieldNo → Value
put_value values e f = if e.field.0 == f.0 then e.to else values f

abbrev pub values_after : (FieldNo → Value) → List Entry → FieldNo → Value
values_after values [] f = values f
values_after values (e ∷ es) f = values_after (put_value values e) es f

-- each entry changes the value that its field had then
abbrev pub AreChanges : (FieldNo → Value) → List Entry → Type 0
AreChanges values [] = Unit {0}
AreChanges values (e ∷ es) =
    (e.from ≡ values e.field) × (e.from ≢ e.to) × AreChanges (put_value values e) es

-- the second entry may stand after the first: in one group by rising field number, or in a later group
abbrev pub MayFollow : Entry → Entry → Type 0
MayFollow e f =
    ((f.change ≡ e.change) × (f.at ≡ e.at) × (f.author ≡ e.author) × (e.field.0 < f.field.0))
    ⊎ ((e.change < f.change) × (e.at ≤ f.at))

abbrev pub FollowEachOther : Entry → List Entry → Type 0
FollowEachOther last [] = Unit {0}
FollowEachOther last (e ∷ es) = MayFollow last e × FollowEachOther e es

abbrev pub AreInOrder : ℕ → ℕ → List Entry → Type 0
AreInOrder change at [] = Unit {0}
AreInOrder change at (e ∷ es) = (change < e.change) × (at ≤ e.at) × FollowEachOther e es

-- what holds of each history
pub record IsHistory (h : History) : Type 0 where
  pub changes : AreChanges (opening_value h.opening) h.entries
  pub order : AreInOrder h.change h.at h.entries

-- the entries of one group: by rising field number from `low` on, each with the group's number, moment and author,
-- and each from the present value to another
abbrev pub AreGroupEntries : (FieldNo → Value) → ℕ → ℕ → ℕ → UserNo → List Entry → Type 0
AreGroupEntries values low change at author [] = Unit {0}
AreGroupEntries values low change at author (e ∷ es) =
    (low ≤ e.field.0) × (e.change ≡ change) × (e.at ≡ at) × (e.author ≡ author)
    × (e.from ≡ values e.field) × (e.from ≢ e.to)
    × AreGroupEntries values (e.field.0 + 1) change at author es

-- the moment of the last change
abbrev pub last_moment : ℕ → List Entry → ℕ
last_moment at [] = at
last_moment at (e ∷ es) = last_moment e.at es

abbrev pub updated : History → ℕ
updated h = last_moment h.at h.entries

abbrev pub last_change : ℕ → List Entry → ℕ
last_change change [] = change
last_change change (e ∷ es) = last_change e.change es

-- a group that may be added
pub record MayAdd (h : History) (change at : ℕ) (author : UserNo)
    (entries : List Entry) : Type 0 where
  pub some : 0 < length entries
  pub later : updated h ≤ at
  pub greater : last_change h.change h.entries < change
  pub group : AreGroupEntries (present h) 0 change at author entries
