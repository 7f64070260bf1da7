use Rattle.std.proofs.Common.{◌≡◌, ◌≤◌, ap, sym, ◌∙◌, length, arith}
use Rattle.move_feeds.specs.Block.{Queued, items_of, room_of}
use Rattle.move_feeds.proofs.Blocks.{items_of_push, queued_same, room_of_push}
use Rattle.move_feeds.proofs.queue.Queue.reserve.Goals as goal

same_items : (c : goal.In_ok-push) → items_of c.push.new.self.items ≡ items_of c.self.inside.blocks.items
same_items c = ap items_of c.in_ok-push.ensures.items ∙ items_of_push c.self.inside.blocks.items c.in_ok-block.block c.in_ok-block.ensures.items

pub invariant_of-self-2 : goal.invariant_of-self-2
invariant_of-self-2 c = c.self.invariant ∙ ap length (sym (same_items c))

pub returns-clause-room : goal.returns-clause-room
returns-clause-room c =
    let room : room_of c.push.new.self.items ≡ c.in_ok-block.block.room = ap room_of c.in_ok-push.ensures.items ∙ room_of_push c.self.inside.blocks.items c.in_ok-block.block in
    omega (arith, room, c.in_ok-block.ensures.room)

pub returns-clause-same : goal.returns-clause-same
returns-clause-same c = queued_same _ _ _ (same_items c ∙ ap (λ (q : Queued). q.items) c.self.view_is)
