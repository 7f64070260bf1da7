use Rattle.std.proofs.Common.{arith, sym, ◌∙◌}
use Rattle.std.proofs.lemmas.Bool.{false≢true}
use Rattle.tracker_core.proofs.Order.{one_more, none_in_order}
use Rattle.tracker_core.proofs.opening.first_behind.Goals as goal

pub loop-at-init : goal.loop-at-init
loop-at-init c = record { some = omega arith; ordered = λ i j d less within. absurd (omega (arith, less, within)) }

pub returns-then-is_below : goal.returns-then-is_below
returns-then-is_below c =
    none_in_order c.args.rows.now c.loop-at.at c.index-rows-at.result c.index-rows-at-in-loop-at.result c.loop-at.invariant.some c.loop-at-test.true
    c.index-rows-at.is c.index-rows-at-in-loop-at.is (c.is_below.ensures.0 c.if-is_below.true)

pub loop-at-preserved : goal.loop-at-preserved
loop-at-preserved c = record {
  some = omega arith;
  ordered = one_more c.args.rows.now c.loop-at.at c.index-rows-at.result c.index-rows-at-in-loop-at.result c.loop-at.invariant.some c.loop-at-test.true
      c.loop-at.invariant.ordered c.index-rows-at.is c.index-rows-at-in-loop-at.is (λ below. false≢true (sym c.if-is_below.false ∙ c.is_below.ensures.1 below));
}

pub returns : goal.returns
returns c = λ i j d less within. c.loop-at.invariant.ordered i j d less (omega (arith, within, c.loop-at-test.false))
