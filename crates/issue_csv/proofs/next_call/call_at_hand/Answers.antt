use Rattle.std.proofs.Common.{◌≡◌, length, rules, refl}
use Rattle.csv.specs.Records.{fields_of}
use Rattle.issue_csv.proofs.Fields.{text_is}
use Rattle.issue_csv.proofs.next_call.call_at_hand.Goals as goal

pub returns-in-Ok : goal.returns-in-Ok
returns-in-Ok c =
    let nine : length (fields_of c.args.row.now) ≡ 9 = search rules in
    (rw (nine, text_is (fields_of c.args.row.now) c.requires) refl, c.in-Ok.ensures)
