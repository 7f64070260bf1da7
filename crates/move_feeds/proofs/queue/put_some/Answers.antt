use Rattle.std.proofs.Common.{◌≡◌, ◌<◌, ◌+◌, ◌++◌, ◌∷◌, [], List, false, length, take, get_or, ap, sym, ◌∙◌, arith, append_assoc}
use Rattle.move_feeds.specs.declared.moves.Change.{Change}
use Rattle.move_feeds.specs.declared.moves.Move.{Move}
use Rattle.move_feeds.specs.Changes.{numbered}
use Rattle.move_feeds.proofs.Blocks.{numbered_step}
use Rattle.move_feeds.proofs.queue.put_some.Goals as goal

pub loop-at-preserved : goal.loop-at-preserved
loop-at-preserved c =
    let none : Change = record { issue = record { 0 = 0 }; entered = false } in
    let cs : List Change = c.args.changes.now in
    let at = c.loop-at.at in
    let lt : at < length cs = omega (arith, c.loop-at-test.true, c.least-put.ensures) in
    let one : Move = record { number = c.args.first + at; issue = (get_or cs at none).issue; entered = (get_or cs at none).entered } in
    let before : List Move = numbered c.args.first (take at cs) in
    record {
      items =
          c.push_reserved.ensures.items ∙ (ap (λ (l : List Move). l ++ one ∷ []) c.loop-at.invariant.items
          ∙ (append_assoc c.args.room.now.items before (one ∷ []) ∙ ap (λ (l : List Move). c.args.room.now.items ++ l) (sym (numbered_step c.args.first cs at none lt))));
      len = omega (arith, c.push_reserved.ensures.len, c.loop-at.invariant.len);
      capacity = c.push_reserved.ensures.capacity ∙ c.loop-at.invariant.capacity;
    }
