use Rattle.fields.specs.SetupParts.{parts}
use Rattle.tracker_keeper.proofs.RowsBack.{tells_its_part}
use Rattle.tracker_keeper.proofs.laws.bodies_tell_their_parts.Goals as goal

pub returns : goal.returns
returns c = tells_its_part (parts c.args.setup.now) c.keeps_what_was_read.ensures.sound
