use Rattle.jql_eval.proofs.Digits.{lead_on}
use Rattle.jql_eval.proofs.number.number_cmp.Goals as goal

pub loop-left-preserved : goal.loop-left-preserved
loop-left-preserved c =
    let one = c.args.one.now in
    let other = c.args.other.now in
    let loop = c.loop-left in
    let digit = c.digit_before-digit in
    let opposite = c.digit_before-opposite in
    record {
      ahead = lead_on one other loop.left loop.ahead loop.behind digit.result opposite.result c.lead_after-further.result c.loop-left-test.true loop.invariant.ahead loop.invariant.behind digit.ensures.digit opposite.ensures.digit digit.ensures.small opposite.ensures.small c.lead_after-further.ensures;
      behind = lead_on other one loop.left loop.behind loop.ahead opposite.result digit.result c.lead_after-behind.result c.loop-left-test.true loop.invariant.behind loop.invariant.ahead opposite.ensures.digit digit.ensures.digit opposite.ensures.small digit.ensures.small c.lead_after-behind.ensures;
    }
