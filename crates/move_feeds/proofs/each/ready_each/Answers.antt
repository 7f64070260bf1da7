use Rattle.std.proofs.Common.{◌≡◌, ◌<◌, length, true, ◌∙◌, sym, subst, arith}
use Rattle.move_feeds.specs.Feed.{Feed}
use Rattle.move_feeds.specs.Held.{HeldFeed, IsReady, is_concerned}
use Rattle.move_feeds.proofs.AllFeeds.{feeds_set, within_set}
use Rattle.move_feeds.proofs.each.ready_each.Goals as goal

pub returns-in_err-ready_if-clause-same : goal.returns-in_err-ready_if-clause-same
returns-in_err-ready_if-clause-same g c = feeds_set c.loop-at.feeds c.loop-at.at c.ready_if.new.self c.index-feeds-at.result c.ready_if.ensures.same ∙ c.loop-at.invariant.same

pub loop-at-preserved : goal.loop-at-preserved
loop-at-preserved g c = record {
  ready = within_set (λ (h : HeldFeed). is_concerned c.args.only h.feed ≡ true → IsReady (g.L.Lister.lists c.args.lister.now h.feed.user.0 h.feed.filter.0) h)
      c.loop-at.feeds c.loop-at.at c.ready_if.new.self c.loop-at.invariant.ready (omega (arith, c.loop-at-test.true, c.loop-at.auto.feeds))
      (subst (λ (f : Feed). is_concerned c.args.only f ≡ true → IsReady (g.L.Lister.lists c.args.lister.now f.user.0 f.filter.0) c.ready_if.new.self) (sym c.ready_if.ensures.same) c.in_ok-ready_if.ensures.ready);
  same = feeds_set c.loop-at.feeds c.loop-at.at c.ready_if.new.self c.index-feeds-at.result c.ready_if.ensures.same ∙ c.loop-at.invariant.same;
}
