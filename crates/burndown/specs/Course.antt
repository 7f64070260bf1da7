-- A sprint's burndown, and what a begin, an end and a change group make of it.
use Rattle.std.specs.Prelude.{ℕ, ◌^◌, ◌-◌, ℤ, pos, negsuc, ◌+ℤ◌, ◌-ℤ◌, ◌≤ℤ◌, ◌<ℤ◌, List, [], ◌∷◌, ◌++◌, if◌then◌else◌}
use Rattle.std.specs.Ordering.{int_eq}
use Rattle.burndown.specs.declared.share.BurnRow.{BurnRow}
use Rattle.burndown.specs.declared.group.Group.{Group}
use Rattle.burndown.specs.declared.progress.Stage.{Stage}
use Rattle.burndown.specs.declared.progress.Stage.TheVariants.{Ahead, Running, Ended}
use Rattle.burndown.specs.Share.{counts_for, counted_before}

-- a sprint has a total, a stage and rows
pub record Course : Type 0 where
  pub total : ℤ
  pub stage : Stage
  pub rows : List BurnRow

-- a sprint of which nothing was told
abbrev pub untold : Course
untold = record { total = pos 0; stage = Ahead; rows = [] }

-- totals lie from -2^62 to 2^62 - 1
abbrev pub IsTotal : ℤ → Type 0
IsTotal total = (negsuc (2 ^ 62 - 1) ≤ℤ total) × (total <ℤ pos (2 ^ 62))

-- a total loses what the issue counted for before, and gains what it counts for after
abbrev pub total_after : ℕ → Group → ℤ → ℤ
total_after s group total = (total -ℤ counted_before s group.before) +ℤ counts_for s group.after

-- a group has a row exactly where the total changes
abbrev pub row_where_changed : Group → ℤ → ℤ → List BurnRow
row_where_changed group was left =
    if int_eq left was then []
    else record {
      at = group.at;
      change = group.change;
      issue = group.issue;
      by = left -ℤ was;
      left = left;
    } ∷ []

-- only a running sprint gets rows, and an ended one stays as it is
abbrev pub told_in : Stage → ℕ → Group → Course → Course
told_in Ahead s group c = record c { total = total_after s group c.total }
told_in (Running start) s group c =
    record c
    { total = total_after s group c.total; rows = c.rows ++ row_where_changed group c.total (total_after s group c.total) }
told_in (Ended start) s group c = c

abbrev pub after_group : ℕ → Group → Course → Course
after_group s group c = told_in c.stage s group c

-- the begin fixes the start
abbrev pub begun : Course → Course
begun c = record c { stage = Running c.total }

-- the total at the begin, or now where the sprint is ahead
abbrev pub start_in : Stage → ℤ → ℤ
start_in Ahead total = total
start_in (Running start) total = start
start_in (Ended start) total = start

abbrev pub start_of : Course → ℤ
start_of c = start_in c.stage c.total

-- only a running sprint ends
abbrev pub stage_after_end : Stage → Stage
stage_after_end Ahead = Ahead
stage_after_end (Running start) = Ended start
stage_after_end (Ended start) = Ended start

abbrev pub ended : Course → Course
ended c = record c { stage = stage_after_end c.stage }

abbrev pub IsRunning : Stage → Type 0
IsRunning Ahead = ⊥
IsRunning (Running start) = Unit {0}
IsRunning (Ended start) = ⊥
