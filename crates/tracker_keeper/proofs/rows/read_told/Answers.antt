use Rattle.std.proofs.Common.{sym, ◌∙◌}
use Rattle.fields.specs.SetupParts.{parts}
use Rattle.tracker_keeper.proofs.RowsBack.{none_of_row, answered}
use Rattle.tracker_keeper.proofs.rows.read_told.Goals as goal

pub returns-in_default : goal.returns-in_default
returns-in_default c = λ p.
    none_of_row (parts c.args.setup.now) c.args.kind c.args.no c.args.body.now p c.keeps_what_was_read.ensures.sound c.requires.setup c.requires.rank
    (sym c.in_default.is ∙ c.in_ok-part.ensures)

pub returns : goal.returns
returns c =
    answered (parts c.args.setup.now) c.args.kind c.args.no c.args.body.now c.in-Some.part c.of_text.result c.keeps_what_was_read.ensures.sound c.requires.setup c.requires.rank
    (sym c.in-Some.is ∙ c.in_ok-part.ensures) c.of_text.ensures
