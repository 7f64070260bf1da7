use Rattle.std.proofs.Common.{◌≡◌, ℕ, ◌+◌, Bool, length, take, ap, sym, ◌∙◌, arith, if◌then◌else◌}
use Rattle.move_feeds.specs.Changes.{lacking}
use Rattle.move_feeds.proofs.Lacking.{count_small, count_step}
use Rattle.move_feeds.proofs.feed.count_lacking.Goals as goal

pub overflow_add-count : goal.overflow_add-count
overflow_add-count c = omega (arith, c.loop-at.invariant, c.one_if-count.ensures.small, count_small c.args.these.now c.args.those.now c.loop-at.at)

pub loop-at-preserved : goal.loop-at-preserved
loop-at-preserved c =
    let these = c.args.these.now in
    let those = c.args.those.now in
    let at = c.loop-at.at in
    ap (λ (n : ℕ). n + c.one_if-count.result) c.loop-at.invariant
    ∙ (ap (λ (n : ℕ). length (lacking (take at these) those) + n) (c.one_if-count.ensures.value ∙ ap (λ (b : Bool). if b then 1 else 0) c.lacks.ensures)
    ∙ sym (count_step these those at c.loop-at-test.true))
