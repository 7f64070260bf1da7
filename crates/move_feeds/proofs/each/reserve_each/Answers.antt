use Rattle.std.proofs.Common.{◌≡◌, ◌∙◌, arith}
use Rattle.move_feeds.specs.Held.{HasRoomForOne}
use Rattle.move_feeds.proofs.AllFeeds.{feeds_set, within_set}
use Rattle.move_feeds.proofs.each.reserve_each.Goals as goal

pub returns-in_err-reserve_one-clause-same : goal.returns-in_err-reserve_one-clause-same
returns-in_err-reserve_one-clause-same c =
    feeds_set c.loop-at.feeds c.loop-at.at c.reserve_one.new.self c.index-feeds-at.result c.reserve_one.ensures.same ∙ c.loop-at.invariant.same

pub loop-at-preserved : goal.loop-at-preserved
loop-at-preserved c = record {
  room = within_set HasRoomForOne c.loop-at.feeds c.loop-at.at c.reserve_one.new.self c.loop-at.invariant.room (omega (arith, c.loop-at-test.true, c.loop-at.auto.feeds)) c.in_ok-reserve_one.ensures.room;
  same = feeds_set c.loop-at.feeds c.loop-at.at c.reserve_one.new.self c.index-feeds-at.result c.reserve_one.ensures.same ∙ c.loop-at.invariant.same;
}
