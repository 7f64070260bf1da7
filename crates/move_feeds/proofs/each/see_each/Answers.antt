use Rattle.std.proofs.Common.{◌≡◌, ◌<◌, length, false, ap, sym, ◌∙◌, arith}
use Rattle.list_changes.specs.Differ.{DifferAt}
use Rattle.move_feeds.specs.Feed.{Feed, after_event}
use Rattle.move_feeds.specs.Held.{HasRoomForOne, HeldFeed}
use Rattle.move_feeds.proofs.AllFeeds.{done_more, feed_holds, held_holds, rest_set}
use Rattle.move_feeds.proofs.each.see_each.Goals as goal

pub see-requires-clause-room : goal.see-requires-clause-room
see-requires-clause-room g c =
    let lt : c.loop-at.at < length c.args.feeds.now = omega (arith, c.loop-at-test.true, c.loop-at.auto.feeds) in
    held_holds HasRoomForOne c.args.feeds.now c.loop-at.feeds c.loop-at.at c.index-feeds-at.result c.requires.room c.loop-at.invariant.rest lt

pub see-requires-clause-one : goal.see-requires-clause-one
see-requires-clause-one g c =
    let lt : c.loop-at.at < length c.args.feeds.now = omega (arith, c.loop-at-test.true, c.loop-at.auto.feeds) in
    feed_holds (λ (f : Feed). f.lapsed ≡ false → DifferAt c.args.place f.listed (g.L.Lister.lists c.args.lister.now f.user.0 f.filter.0))
    c.args.feeds.now c.loop-at.feeds c.loop-at.at c.index-feeds-at.result c.requires.one c.loop-at.invariant.rest lt

pub loop-at-preserved : goal.loop-at-preserved
loop-at-preserved g c =
    let lt : c.loop-at.at < length c.args.feeds.now = omega (arith, c.loop-at-test.true, c.loop-at.auto.feeds) in
    record {
      done = done_more (λ (f : Feed). after_event (g.L.Lister.lists c.args.lister.now f.user.0 f.filter.0) f) c.args.feeds.now c.loop-at.feeds c.loop-at.at c.index-feeds-at.result lt c.loop-at.invariant.done c.index-feeds-at.is
          c.see.new.self (c.see.ensures ∙ ap (λ (h : HeldFeed). after_event (g.L.Lister.lists c.args.lister.now h.feed.user.0 h.feed.filter.0) h.feed) (sym c.index-feeds-at.is));
      rest = rest_set c.args.feeds.now c.loop-at.feeds c.loop-at.at c.see.new.self c.loop-at.invariant.rest;
    }
