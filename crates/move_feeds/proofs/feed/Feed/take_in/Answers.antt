use Rattle.std.proofs.Common.{◌≡◌, ◌++◌, Bool, false, true, List, length, map, ap, sym, ◌∙◌, subst, arith, refl}
use Rattle.move_feeds.specs.declared.moves.Change.{Change}
use Rattle.move_feeds.specs.Changes.{change, changes, lacking}
use Rattle.move_feeds.specs.Feed.{IsFeed}
use Rattle.move_feeds.specs.Held.{HasNext, HeldFeed, IsReady}
use Rattle.move_feeds.proofs.Lacking.{both_put, waits_few}
use Rattle.move_feeds.proofs.Takes.{stays_feed}
use Rattle.move_feeds.proofs.feed.Feed.take_in.Goals as goal

pub put_lacking-requires-2-clause-waiting : goal.put_lacking-requires-2-clause-waiting
put_lacking-requires-2-clause-waiting g c =
    let ready = subst (λ (h : HeldFeed). IsReady (g.L.Lister.lists c.args.lister.now h.feed.user.0 h.feed.filter.0) h) (sym c.self.view_is) c.requires in
    let next = ready c.if-self.false in
    let first = c.deref.ensures.value in
    let third = c.deref-3.ensures.value in
    let few = waits_few c.self.inside.waiting.items c.put_lacking.new.waiting.items c.deref.result.now c.deref-2.result.now false c.put_lacking.ensures.items in
    omega (arith, few, ap length first, ap length third, c.self.invariant.few, c.self.invariant.issues, next.few, ap length next.next)

pub drop_if_many-self-inside-requires : goal.drop_if_many-self-inside-requires
drop_if_many-self-inside-requires g c =
    let ready = subst (λ (h : HeldFeed). IsReady (g.L.Lister.lists c.args.lister.now h.feed.user.0 h.feed.filter.0) h) (sym c.self.view_is) c.requires in
    let next = ready c.if-self.false in
    let few = waits_few c.self.inside.waiting.items c.put_lacking.new.waiting.items c.deref.result.now c.deref-2.result.now false c.put_lacking.ensures.items in
    let more = waits_few c.put_lacking.new.waiting.items c.put_lacking-2.new.waiting.items c.deref-3.result.now c.deref-4.result.now true c.put_lacking-2.ensures.items in
    omega (arith, few, more, ap length c.deref.ensures.value, ap length c.deref-3.ensures.value, c.self.invariant.few, c.self.invariant.issues, next.few, ap length next.next, next.numbers)

pub invariant_of-self : goal.invariant_of-self
invariant_of-self g c =
    let ready = subst (λ (h : HeldFeed). IsReady (g.L.Lister.lists c.args.lister.now h.feed.user.0 h.feed.filter.0) h) (sym c.self.view_is) c.requires in
    let next = ready c.if-self.false in
    let put = both_put c.self.inside.waiting.items c.put_lacking.new.waiting.items c.put_lacking-2.new.waiting.items c.self.inside.listed.items c.self.inside.next.items
    c.deref.result.now c.deref-2.result.now c.deref-3.result.now c.deref-4.result.now c.deref.ensures.value c.deref-2.ensures.value c.deref-3.ensures.value c.deref-4.ensures.value
    c.put_lacking.ensures.items c.put_lacking-2.ensures.items in
    let swapped = c.swap.ensures.x_after in
    let now : c.swap.new.x.items ≡ c.self.inside.next.items = cc swapped in
    stays_feed c.self.inside.listed.items c.self.inside.next.items c.self.inside.acked c.self.inside.waiting.items c.put_lacking-2.new.waiting.items
    c.drop_if_many-self-inside.new.waiting.items c.drop_if_many-self-inside.result c.drop_if_many-self-inside.new.acked _ now refl refl put
    c.drop_if_many-self-inside.ensures.lapsed c.drop_if_many-self-inside.ensures.acked c.drop_if_many-self-inside.ensures.waiting
    next.numbers c.self.invariant.issues (omega (arith, next.few, ap length next.next))
