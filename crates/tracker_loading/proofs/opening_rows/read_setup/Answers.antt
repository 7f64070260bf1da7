use Rattle.std.proofs.Common.{sym, subst}
use Rattle.fields.specs.SetupParts.{parts}
use Rattle.tracker_loading.specs.Load.{IsFault}
use Rattle.tracker_loading.proofs.Opening.{setup_leads, no_setup_first}
use Rattle.tracker_loading.proofs.opening_rows.read_setup.Goals as goal

pub returns-in-Ok-Some-clause-read : goal.returns-in-Ok-Some-clause-read
returns-in-Ok-Some-clause-read c =
    let found = rw c.in-Ok-Some.field-0-is at c.in-Ok-Some.ensures in
    let setup = c.in-Ok-Some.setup in
    setup_leads c.args.rows.now c.in-Some.row.now setup.text (parts setup) c.requires c.in-Some.ensures.0 c.in-Some.ensures.1 found.0 found.1

pub returns-in-Ok-None-clause-fault : goal.returns-in-Ok-None-clause-fault
returns-in-Ok-None-clause-fault c =
    subst (IsFault c.args.rows.now) (sym c.bad_row.ensures)
    (no_setup_first c.args.rows.now c.in-Some.row.now c.requires c.in-Some.ensures.0 c.in-Some.ensures.1 (rw c.in-Ok-None.field-0-is at c.in-Ok-None.ensures))
