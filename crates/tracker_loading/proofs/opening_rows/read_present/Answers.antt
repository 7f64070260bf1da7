use Rattle.std.proofs.Common.{sym, subst}
use Rattle.fields.specs.SetupParts.{parts}
use Rattle.tracker_loading.specs.Load.{IsFault}
use Rattle.tracker_loading.proofs.Opening.{present_missing, present_bad, not_present, present_leads}
use Rattle.tracker_loading.proofs.opening_rows.read_present.Goals as goal

pub returns-in_default-clause-fault : goal.returns-in_default-clause-fault
returns-in_default-clause-fault c =
    present_missing c.args.rows.now c.args.setup.now.text (parts c.args.setup.now) c.requires c.in_default.ensures

pub returns-in_default-found-clause-fault : goal.returns-in_default-found-clause-fault
returns-in_default-found-clause-fault c =
    subst (IsFault c.args.rows.now) (sym c.bad_row.ensures)
    (present_bad c.args.rows.now c.args.setup.now.text (parts c.args.setup.now) c.requires c.in-Some.row.now c.in-Some.ensures.0 c.in-Some.ensures.1
    (rw c.in_default-found.is at c.in-Ok.ensures))

pub returns-in-Some-standing_of-clause-read : goal.returns-in-Some-standing_of-clause-read
returns-in-Some-standing_of-clause-read c =
    let s = c.in-Some-standing_of.standing in
    present_leads c.args.rows.now c.args.setup.now.text (parts c.args.setup.now) c.requires c.in-Some.row.now c.in-Some-found.part s.format s.balance s.change s.moment
    c.in-Some.ensures.0 c.in-Some.ensures.1 (rw c.in-Some-found.is at c.in-Ok.ensures) c.in-Some-standing_of.ensures

pub returns-clause-fault : goal.returns-clause-fault
returns-clause-fault c =
    subst (IsFault c.args.rows.now) (sym c.bad_row-in-None.ensures)
    (not_present c.args.rows.now c.args.setup.now.text (parts c.args.setup.now) c.requires c.in-Some.row.now c.in-Some-found.part c.in-Some.ensures.0 c.in-Some.ensures.1
    (rw c.in-Some-found.is at c.in-Ok.ensures) c.in-None.ensures)
