use Rattle.std.proofs.Common.{◌+◌, sym, subst}
use Rattle.tracker_loading.specs.Load.{IsFault}
use Rattle.tracker_loading.specs.Reading.{IsReadTo, gathered_in}
use Rattle.tracker_loading.specs.declared.progress.Progress.{Progress}
use Rattle.tracker_loading.proofs.Faults.{missing_before}
use Rattle.tracker_loading.proofs.Made.{next_at}
use Rattle.tracker_loading.proofs.Opening.{row_bad, row_not_joined, row_joined}
use Rattle.tracker_loading.proofs.walk.add_row.Goals as goal

pub returns-in-Some-clause-fault : goal.returns-in-Some-clause-fault
returns-in-Some-clause-fault c =
    missing_before c.args.rows.now c.args.place (gathered_in c.args.read.now) c.row_at-row.result.now c.in-Some.kind c.in-Some.no c.requires.read c.row_at-row.ensures
    c.in-Some.ensures.0 c.in-Some.ensures.1

pub returns-in_default-found-clause-fault : goal.returns-in_default-found-clause-fault
returns-in_default-found-clause-fault c =
    let read = c.args.read.now in
    subst (IsFault c.args.rows.now) (sym c.bad_row.ensures)
    (row_bad c.args.rows.now c.args.place read.format read.told read.made c.row_at-row.result.now c.requires.read c.row_at-row.ensures c.in_default.ensures
    (rw c.in_default-found.is at c.in-Ok.ensures))

pub join-requires-clause-next : goal.join-requires-clause-next
join-requires-clause-next c =
    let read = c.args.read.now in
    let own = rw c.in-Some-found.is at c.in-Ok.ensures in
    next_at c.args.rows.now c.args.place c.row_at-row.result.now read.format read.told read.made c.in-Some-found.part c.requires.read c.row_at-row.ensures c.in_default.ensures
    own.own

pub returns-in-Ok-true-clause-read : goal.returns-in-Ok-true-clause-read
returns-in-Ok-true-clause-read c =
    let read = c.args.read.now in
    let joins = c.in-Ok-true.ensures.good c.in-Ok-true.field-0-test in
    subst (λ (p : Progress). IsReadTo c.args.rows.now (c.args.place + 1) (gathered_in p)) (sym joins.1)
    (row_joined c.args.rows.now c.args.place read.format read.told read.made c.row_at-row.result.now c.requires.read c.row_at-row.ensures c.in_default.ensures
    c.in-Some-found.part (rw c.in-Some-found.is at c.in-Ok.ensures) joins.0)

pub returns-in-Ok-false-clause-fault : goal.returns-in-Ok-false-clause-fault
returns-in-Ok-false-clause-fault c =
    let read = c.args.read.now in
    subst (IsFault c.args.rows.now) (sym c.bad_row-in-Ok-false.ensures)
    (row_not_joined c.args.rows.now c.args.place read.format read.told read.made c.row_at-row.result.now c.requires.read c.row_at-row.ensures c.in_default.ensures
    c.in-Some-found.part (rw c.in-Some-found.is at c.in-Ok.ensures) (c.in-Ok-false.ensures.bad c.in-Ok-false.field-0-test))
