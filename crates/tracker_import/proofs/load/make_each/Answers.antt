use Rattle.std.proofs.Common.{arith, subst}
use Rattle.tracker_import.specs.Stages.{HandsOut}
use Rattle.tracker_import.proofs.LoadMade.{none_made, one_more_made}
use Rattle.tracker_import.proofs.load.make_each.Goals as goal

pub each-init : goal.each-init
each-init g c = record { so_far = none_made _ _ _ _ _; fewer = omega arith }

pub each-preserved : goal.each-preserved
each-preserved g c =
    let out = subst (λ o. HandsOut c.each.calls o c.next_call.new.self) c.in-Ok-Some.field-0-is c.in-Ok-Some.ensures in
    record {
      so_far = one_more_made _ _ _ c.args.desk.now c.each.desk c.make.new.desk c.args.calls.now c.each.calls c.next_call.new.self c.each.counts c.counted-counts.result
          c.in-Ok-Some.call c.in-Ok.refused c.each.invariant.so_far out c.in-Ok.ensures c.counted-counts.ensures.calls c.counted-counts.ensures.refused;
      fewer = c.counted-counts.ensures.fewer;
    }
