use Rattle.std.proofs.Common.{◌≡◌, ℕ, suc, ◌-◌, ◌<◌, length, sym, ap, ◌∙◌, subst, arith}
use Rattle.move_feeds.specs.Block.{Queued}
use Rattle.move_feeds.proofs.Blocks.{items_of_last, room_of_last, room_of_set, room_some}
use Rattle.move_feeds.proofs.queue.push_to_last.Goals as goal

pub push-requires : goal.push-requires
push-requires c =
    let bs = c.args.blocks.now in
    let e : length bs ≡ suc (length bs - 1) = omega (arith, room_some bs c.requires) in
    subst (λ (r : ℕ). 0 < r) (room_of_last bs c.index-blocks-at.result (length bs - 1) e) c.requires

pub returns-clause-items : goal.returns-clause-items
returns-clause-items c =
    let bs = c.args.blocks.now in
    let e : length bs ≡ suc (length bs - 1) = omega (arith, room_some bs c.requires) in
    items_of_last bs c.push.new.self c.index-blocks-at.result c.args.change (length bs - 1) e (ap (λ (q : Queued). q.items) c.push.ensures)

pub returns-clause-room : goal.returns-clause-room
returns-clause-room c =
    let bs = c.args.blocks.now in
    let e : length bs ≡ suc (length bs - 1) = omega (arith, room_some bs c.requires) in
    room_of_set bs c.push.new.self (length bs - 1) e
    ∙ (ap (λ (q : Queued). q.room) c.push.ensures ∙ ap (λ (r : ℕ). r - 1) (sym (room_of_last bs c.index-blocks-at.result (length bs - 1) e)))
