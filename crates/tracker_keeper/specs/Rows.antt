-- What is kept: a map from kind and number to a body, and operations on it.
use Rattle.std.specs.Prelude.{◌≡◌, ℕ, ◌==◌, ◌&&◌, ◌<◌, ◌⊎◌, List, [], ◌∷◌, Option, Some, None, if◌then◌else◌}
use Rattle.std.specs.List.{AllPairs}
use Rattle.tracker_keeper.specs.declared.row.Row.{Row}
use Rattle.tracker_keeper.specs.declared.row.RowOp.{RowOp}
use Rattle.tracker_keeper.specs.declared.row.RowOp.TheVariants.{Put, Drop}

-- the body at a kind and a number, where there is one
abbrev pub Rows : Type 0
Rows = ℕ → ℕ → Option (List ℕ)

abbrev pub no_rows : Rows
no_rows kind number = None

-- these rows, with that body, or none, at a kind and a number
abbrev pub with_body : ℕ → ℕ → Option (List ℕ) → Rows → Rows
with_body kind number body rows k n = if (kind == k) && (number == n) then body else rows k n

-- the rows after an operation
abbrev pub with_op : RowOp → Rows → Rows
with_op (Put row) rows = with_body row.kind row.no (Some row.body) rows
with_op (Drop kind number) rows = with_body kind number None rows

-- the rows after operations, the first one first
abbrev pub with_ops : List RowOp → Rows → Rows
with_ops [] rows = rows
with_ops (op ∷ ops) rows = with_ops ops (with_op op rows)

-- the operation that leaves that body, or none, at a kind and a number
abbrev pub op_leaving : ℕ → ℕ → Option (List ℕ) → RowOp
op_leaving kind number None = Drop kind number
op_leaving kind number (Some body) = Put (record { kind = kind; no = number; body = body })

-- the number of the row that an operation is on
abbrev pub number_of : RowOp → ℕ
number_of (Put row) = row.no
number_of (Drop kind number) = number

-- ---- the rows as a list

-- by kind, and then by number
abbrev pub IsBelow : Row → Row → Type 0
IsBelow one other = (one.kind < other.kind) ⊎ ((one.kind ≡ other.kind) × (one.no < other.no))

-- the body of the first row of that kind and number
abbrev pub found : List Row → Rows
found [] kind number = None
found (row ∷ list) kind number =
    if (kind == row.kind) && (number == row.no) then Some row.body else found list kind number

-- the list has each row once, by kind and then number
pub record IsListing (rows : Rows) (list : List Row) : Type 0 where
  pub rising : AllPairs IsBelow list
  pub same : (kind number : ℕ) → found list kind number ≡ rows kind number
