-- An issue and a rank with other numbers.
use Rattle.std.specs.Prelude.{ℕ, map}
use Rattle.change_history.specs.declared.entry.Entry.{Entry}
use Rattle.change_history.specs.History.{History}
use Rattle.board.specs.Order.{Pair}

abbrev pub renumbered_entry : (ℕ → ℕ) → Entry → Entry
renumbered_entry changes e = record e { change = changes e.change }

-- its own number, that of the change that created it, and those of its entries' changes
abbrev pub renumbered_issue : (ℕ → ℕ) → (ℕ → ℕ) → History → History
renumbered_issue numbers changes h = record h {
  no = record { 0 = numbers h.no.0 };
  change = changes h.change;
  entries = map (renumbered_entry changes) h.entries;
}

abbrev pub renumbered_rank : (ℕ → ℕ) → Pair → Pair
renumbered_rank numbers p = (p.0, record { 0 = numbers p.1.0 })
