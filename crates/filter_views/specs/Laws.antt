-- What holds of all filter views.
use Rattle.std.specs.Prelude.{ℕ, ◌≡◌, ◌+◌, ◌<◌, ◌↔◌, true, false, Option, Some, IfSome}
use Rattle.field_values.specs.declared.numbers.FilterNo.{FilterNo}
use Rattle.field_values.specs.declared.numbers.IssueNo.{IssueNo}
use Rattle.filter_views.specs.FilterRow.{HasNumber}
use Rattle.filter_views.specs.Cell.{Cell, Views, cell_of, is_there}
use Rattle.filter_views.specs.Views.{Settles, IsNextDue}
use Rattle.filter_views.specs.Grid.{IsGrid}
use Rattle.filter_views.specs.Counts.{is_over, due}

-- where a due cell is settled with an end after the moment, or with none, exactly one cell less is due
abbrev pub SettlingTakesOneOff : Type 0
SettlingTakesOneOff =
    (old new : Views) (f issue now : ℕ) (cell : Cell) →
    IsGrid old → IsGrid new → Settles old new f issue cell →
    is_over now (cell_of old f issue).end ≡ true → is_over now cell.end ≡ false →
    due old now ≡ due new now + 1

-- the next end is after the moment, or there is none
abbrev pub ComesLater : ℕ → Option (ℕ × FilterNo × IssueNo) → Type 0
ComesLater now next = IfSome next (λ n. now < n.0)

-- that is so exactly where no cell is due
abbrev pub NoneIsDueBeforeTheNext : Type 0
NoneIsDueBeforeTheNext =
    (v : Views) (next : Option (ℕ × FilterNo × IssueNo)) (now : ℕ) →
    IsGrid v → IsNextDue v next →
    (due v now ≡ 0) ↔ ComesLater now next

-- a cell that has an end is there
abbrev pub EndsAreOfCells : Type 0
EndsAreOfCells =
    (v : Views) (f issue end : ℕ) →
    IsGrid v → (cell_of v f issue).end ≡ Some end →
    (is_there v f ≡ true) × HasNumber issue v.issues
