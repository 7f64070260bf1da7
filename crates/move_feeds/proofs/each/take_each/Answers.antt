use Rattle.std.proofs.Common.{◌≡◌, ◌<◌, length, true, ap, sym, ◌∙◌, arith}
use Rattle.move_feeds.specs.Held.{HeldFeed, IsReady, is_concerned, taken_in}
use Rattle.move_feeds.proofs.AllFeeds.{done_more, held_holds, rest_set}
use Rattle.move_feeds.proofs.each.take_each.Goals as goal

pub take_if-requires : goal.take_if-requires
take_if-requires g c =
    let lt : c.loop-at.at < length c.args.feeds.now = omega (arith, c.loop-at-test.true, c.loop-at.auto.feeds) in
    held_holds (λ (h : HeldFeed). is_concerned c.args.only h.feed ≡ true → IsReady (g.L.Lister.lists c.args.lister.now h.feed.user.0 h.feed.filter.0) h)
    c.args.feeds.now c.loop-at.feeds c.loop-at.at c.index-feeds-at.result c.requires c.loop-at.invariant.rest lt

pub loop-at-preserved : goal.loop-at-preserved
loop-at-preserved g c =
    let lt : c.loop-at.at < length c.args.feeds.now = omega (arith, c.loop-at-test.true, c.loop-at.auto.feeds) in
    record {
      done = done_more (taken_in c.args.only (g.L.Lister.lists c.args.lister.now)) c.args.feeds.now c.loop-at.feeds c.loop-at.at c.index-feeds-at.result lt c.loop-at.invariant.done c.index-feeds-at.is
          c.take_if.new.self (c.take_if.ensures ∙ ap (λ (h : HeldFeed). taken_in c.args.only (g.L.Lister.lists c.args.lister.now) h.feed) (sym c.index-feeds-at.is));
      rest = rest_set c.args.feeds.now c.loop-at.feeds c.loop-at.at c.take_if.new.self c.loop-at.invariant.rest;
    }
