use Rattle.std.proofs.Common.{◌≡◌, ℕ, ◌≤◌, ◌+◌, ◌++◌, Bool, false, List, length, ap, sym, ◌∙◌, subst, get_or}
use Rattle.list_changes.specs.Differ.{with_at}
use Rattle.move_feeds.specs.declared.moves.Change.{Change}
use Rattle.move_feeds.specs.Changes.{changes, one_change}
use Rattle.move_feeds.specs.Feed.{Feed, after_event, with_listed}
use Rattle.move_feeds.specs.Held.{HeldFeed}
use Rattle.move_feeds.proofs.One.{changes_one}
use Rattle.move_feeds.proofs.Takes.{event_open, takes}
use Rattle.move_feeds.proofs.feed.Feed.see_one.Goals as goal

pub returns : goal.returns
returns c =
    let place = c.args.place in
    let is = c.args.is in
    let f : Feed = record {
      no = c.self.inside.no;
      user = c.self.inside.user;
      filter = c.self.inside.filter;
      listed = c.self.inside.listed.items;
      acked = c.self.inside.acked;
      waiting = c.self.inside.waiting.items;
      lapsed = c.self.inside.lapsed;
    } in
    let now : List Bool = with_at place is f.listed in
    let drop = c.drop_if_many-self-inside in
    let waits : List Change = c.put_one.new.waiting.items in
    let made : Feed = record f { listed = c.put_at.new.list.items; acked = drop.new.acked; waiting = drop.new.waiting.items; lapsed = drop.result } in
    let le : place ≤ length f.listed =
    subst (λ (h : HeldFeed). h.feed.lapsed ≡ false → place ≤ length h.feed.listed) (sym c.self.view_is) c.requires.place c.if-self.false in
    let was : c.is_at-was.result ≡ get_or f.listed place false = c.is_at-was.ensures ∙ ap (λ (l : List Bool). get_or l place false) c.deref.ensures.value in
    let same : waits ≡ f.waiting ++ changes f.listed now =
    c.put_one.ensures.items
    ∙ ap (λ (l : List Change). f.waiting ++ l) (ap (λ (b : Bool). one_change (place + 1) b is) was ∙ sym (changes_one place is f.listed le)) in
    let with_now : made ≡ with_listed now f =
    ap (λ (l : List Bool). record f { listed = l; acked = drop.new.acked; waiting = drop.new.waiting.items; lapsed = drop.result }) c.put_at.ensures
    ∙ takes f now c.if-self.false waits drop.new.waiting.items drop.result drop.new.acked same drop.ensures.lapsed drop.ensures.acked drop.ensures.waiting in
    subst (λ (h : HeldFeed). made ≡ after_event (with_at place is h.feed.listed) h.feed) c.self.view_is (event_open now f made c.if-self.false with_now)
