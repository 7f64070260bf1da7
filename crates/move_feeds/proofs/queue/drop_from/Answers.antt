use Rattle.std.proofs.Common.{◌≡◌, ℕ, ◌-◌, true, List, drop, length, ap, sym, ◌∙◌, arith}
use Rattle.move_feeds.specs.Block.{Queued, first_len, goes_whole, items_of}
use Rattle.move_feeds.proofs.Blocks.{FirstGoes, first_goes}
use Rattle.move_feeds.proofs.queue.drop_from.Goals as goal

pub loop-blocks-preserved : goal.loop-blocks-preserved
loop-blocks-preserved c =
    let bs = c.loop-blocks.blocks.items in
    let left = c.loop-blocks.left in
    let goes : goes_whole bs left ≡ true = sym (c.goes_whole.ensures ∙ ap (λ (l : List Queued). goes_whole l left) c.deref.ensures.value) ∙ c.loop-blocks-test.true in
    let first : FirstGoes bs left = first_goes bs left goes in
    let len : c.first_len-left.result ≡ first_len bs = c.first_len-left.ensures ∙ ap first_len c.deref-in-loop-blocks.ensures.value in
    let rest : c.remove-block.new.self.items ≡ drop 1 bs = c.remove-block.ensures.items in
    record {
      within = omega (arith, len, first.within, first.long, ap (λ (l : List Queued). length (items_of l)) rest, c.loop-blocks.invariant.within);
      same =
          ap (λ (k : ℕ). drop (left - k) (items_of c.remove-block.new.self.items)) len
          ∙ (ap (λ (l : List Queued). drop (left - first_len bs) (items_of l)) rest ∙ (first.same ∙ c.loop-blocks.invariant.same));
    }
