use Rattle.std.proofs.Common.{◌<◌, length, arith}
use Rattle.filter_views.proofs.AllRows.{widen_none, widen_set, all_have_room, room_more}
use Rattle.filter_views.proofs.rows.widen.Goals as goal

pub loop-at-init : goal.loop-at-init
loop-at-init c = record { same = widen_none c.args.rows.now; room = λ k lt. absurd (omega (arith, lt)) }

pub returns-in_err-reserve-clause-same : goal.returns-in_err-reserve-clause-same
returns-in_err-reserve-clause-same c =
    widen_set c.args.rows.now c.loop-at.rows c.loop-at.at c.reserve.new.self c.index-rows-at.result c.loop-at.invariant.same (omega (arith, c.loop-at-test.true, c.loop-at.auto.rows)) c.in_err-reserve.ensures.same c.in_err-reserve.ensures.more

pub loop-at-preserved : goal.loop-at-preserved
loop-at-preserved c =
    let in_range : c.loop-at.at < length c.loop-at.rows = omega (arith, c.loop-at-test.true, c.loop-at.auto.rows) in
    record {
      same = widen_set c.args.rows.now c.loop-at.rows c.loop-at.at c.reserve.new.self c.index-rows-at.result c.loop-at.invariant.same in_range c.in_ok-reserve.ensures.same c.in_ok-reserve.ensures.more;
      room = room_more c.loop-at.rows c.loop-at.at c.args.most c.reserve.new.self in_range c.in_ok-reserve.ensures.room c.loop-at.invariant.room;
    }

pub returns-clause-room : goal.returns-clause-room
returns-clause-room c = all_have_room c.args.most c.loop-at.rows (λ k lt. c.loop-at.invariant.room k (omega (arith, c.loop-at-test.false, c.loop-at.auto.rows, lt)))
