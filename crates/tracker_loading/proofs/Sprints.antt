-- Sprints that are named one by one.
use Rattle.std.proofs.Common.{ℕ, zero, suc, ◌<◌, List, [], ◌∷◌, length, get_or, arith}
use Rattle.change_history.specs.declared.change.Change.{Change}
use Rattle.change_history.specs.declared.entry.Entry.{Entry}
use Rattle.tracker_keeper.specs.declared.row.Row.{Row}
use Rattle.tracker_rows.specs.Listed.{HasSprint, OpenInRows, ChangeInRows}

-- each of the first ones names sprints that have rows
abbrev pub AreOpen : List Row → List Change → ℕ → Type 0
AreOpen rows values count = (k : ℕ) (d : Change) → k < count → HasSprint rows (get_or values k d).to

pub open_all : (rows : List Row) (values : List Change) → AreOpen rows values (length values) → OpenInRows rows values
open_all rows [] each = tt
open_all rows (c ∷ cs) each = (each 0 c (omega arith), open_all rows cs (λ k d within. each (suc k) d (omega (arith, within))))

pub open_each : (rows : List Row) (values : List Change) (k : ℕ) (d : Change) → OpenInRows rows values → k < length values → HasSprint rows (get_or values k d).to
open_each rows [] k d opened within = absurd (omega (arith, within))
open_each rows (c ∷ cs) zero d opened within = opened.0
open_each rows (c ∷ cs) (suc k) d opened within = open_each rows cs k d opened.1 (omega (arith, within))

abbrev pub HasSprints : List Row → Entry → Type 0
HasSprints rows e = HasSprint rows e.from × HasSprint rows e.to

abbrev pub AreNamed : List Row → List Entry → ℕ → Type 0
AreNamed rows entries count = (k : ℕ) (d : Entry) → k < count → HasSprints rows (get_or entries k d)

pub named_all : (rows : List Row) (entries : List Entry) → AreNamed rows entries (length entries) → ChangeInRows rows entries
named_all rows [] each = tt
named_all rows (e ∷ es) each =
    let first = each 0 e (omega arith) in
    (first.0, first.1, named_all rows es (λ k d within. each (suc k) d (omega (arith, within))))

pub named_each : (rows : List Row) (entries : List Entry) (k : ℕ) (d : Entry) → ChangeInRows rows entries → k < length entries → HasSprints rows (get_or entries k d)
named_each rows [] k d named within = absurd (omega (arith, within))
named_each rows (e ∷ es) zero d named within = (named.0, named.1)
named_each rows (e ∷ es) (suc k) d named within = named_each rows es k d named.2 (omega (arith, within))
