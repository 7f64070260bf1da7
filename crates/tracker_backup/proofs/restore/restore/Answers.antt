use Rattle.std.proofs.Common.{◌≡◌, ◌≢◌, true, subst}
use Rattle.std.specs.Bool.{MatchBool}
use Rattle.tracker_keeper.specs.Rows.{no_rows}
use Rattle.tracker_backup.proofs.Ended.{held_end}
use Rattle.tracker_backup.proofs.restore.restore.Goals as goal

pub returns-in-Ok-true-clause-end : goal.returns-in-Ok-true-clause-end
returns-in-Ok-true-clause-end g c =
    let test = c.in-Ok-true.field-0-test in
    let is = c.in-Ok-true.field-0-is in
    let yes : c.in-Ok-true.field-0 ≡ true = cc in
    held_end _ _ _ c.tell.result _ _ _ c.has_row.ensures.same
    (λ rows kept told. subst (λ b. MatchBool b (rows ≢ no_rows) (rows ≡ no_rows)) yes (c.in-Ok-true.ensures.there rows kept told))
    c.tell.ensures.statuses c.tell.ensures.told c.tell.ensures.written
