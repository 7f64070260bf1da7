use Rattle.std.proofs.Common.{◌≡◌, ℕ, ◌+◌, ◌-◌, ◌++◌, List, ◌∷◌, min, length, take, drop, get_or, ap, sym, ◌∙◌, arith, append_assoc}
use Rattle.std.proofs.lemmas.List.{drop_more}
use Rattle.move_feeds.specs.declared.moves.Change.{Change}
use Rattle.move_feeds.specs.declared.moves.Move.{Move}
use Rattle.move_feeds.specs.Block.{Queued, items_of}
use Rattle.move_feeds.specs.Changes.{numbered}
use Rattle.move_feeds.proofs.Blocks.{part_step}
use Rattle.move_feeds.proofs.queue.put_blocks.Goals as goal

pub loop-block-preserved : goal.loop-block-preserved
loop-block-preserved c =
    let bs : List Queued = c.args.blocks.now in
    let at : ℕ = c.loop-block.block-index in
    let b : Queued = c.block-item.result in
    let m : List Change = items_of (drop (at + 1) bs) in
    let skip = c.loop-block.skip in
    let left = c.loop-block.left in
    let number = c.loop-block.number in
    let passed = c.least-passed.result in
    let put = c.put_some-put.result in
    let told : List Change = c.split_at.result.1.now in
    let rest : List Move = numbered (number + put) (take (left - put) (drop (skip - passed) m)) in
    let here : items_of (drop at bs) ≡ b.items ++ m =
    ap items_of (drop_more bs at b c.loop-block-test.true) ∙ ap (λ (q : Queued). q.items ++ m) (sym c.block-item.is) in
    let is_passed : passed ≡ min skip (length b.items) = c.least-passed.ensures ∙ ap (λ (l : List Change). min skip (length l)) c.as_slice-changes.ensures in
    let is_told : told ≡ drop passed b.items = c.split_at.ensures.back ∙ ap (λ (l : List Change). drop passed l) c.as_slice-changes.ensures in
    let is_put : put ≡ min left (length (drop passed b.items)) = c.put_some-put.ensures.put ∙ ap (λ (l : List Change). min left (length l)) is_told in
    let step : numbered number (take left (drop skip (items_of (drop at bs)))) ≡ numbered number (take left told) ++ rest =
    ap (λ (l : List Change). numbered number (take left (drop skip l))) here
    ∙ (part_step b.items m skip left number passed put is_passed is_put ∙ ap (λ (l : List Change). numbered number (take left l) ++ rest) (sym is_told)) in
    record {
      told =
          ap (λ (l : List Move). l ++ rest) c.put_some-put.ensures.items
          ∙ (append_assoc c.loop-block.room.items (numbered number (take left told)) rest
          ∙ (ap (λ (l : List Move). c.loop-block.room.items ++ l) (sym step) ∙ c.loop-block.invariant.told));
      slots = omega (arith, is_put, c.put_some-put.ensures.len, c.put_some-put.ensures.capacity, c.loop-block.invariant.slots);
      numbers = omega (arith, is_put, c.loop-block.invariant.numbers);
    }
