use Rattle.fields.specs.SetupParts.{parts}
use Rattle.tracker_amend.proofs.Amends.{way_front, way_grew}
use Rattle.tracker_amend.proofs.command.amend_told.Goals as goal

pub returns-in-Err-BadRow-clause-written : goal.returns-in-Err-BadRow-clause-written
returns-in-Err-BadRow-clause-written g c = λ is.
    let bad = c.in-Err-BadRow in
    way_front c.args.setup.text (parts c.args.setup) c.args.rows.items bad.field-0 bad.kind bad.no _ _ bad.ensures.fault bad.field-0-is (c.tell_row.ensures.written is)

pub returns-in-Err-BadRow-clause-bad : goal.returns-in-Err-BadRow-clause-bad
returns-in-Err-BadRow-clause-bad g c = λ is.
    let bad = c.in-Err-BadRow in
    way_grew c.args.setup.text (parts c.args.setup) c.args.rows.items bad.field-0 bad.kind bad.no _ _ bad.ensures.fault bad.field-0-is (c.tell_row.ensures.told is)
