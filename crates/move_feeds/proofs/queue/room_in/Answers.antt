use Rattle.std.proofs.Common.{◌≡◌, ℕ, ◌<◌, ◌∙◌, false, length, sym, arith}
use Rattle.std.proofs.lemmas.Bool.Decides.{nat_tests}
use Rattle.move_feeds.proofs.Blocks.{room_of_read}
use Rattle.move_feeds.proofs.queue.room_in.Goals as goal

pub returns : goal.returns
returns c =
    let none = sym c.is_empty.ensures ∙ c.if-is_empty.false in
    let some : 0 < length c.args.blocks.now = grind (arith, nat_tests, none) in
    c.room.ensures ∙ room_of_read c.args.blocks.now c.index-blocks-at.result some c.index-blocks-at.is
