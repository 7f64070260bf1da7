use Rattle.std.proofs.Common.{◌≡◌, ℕ, ◌-◌, ◌≤◌, min, length, ap, ◌∙◌, subst, arith}
use Rattle.move_feeds.specs.Feed.{Feed, told}
use Rattle.move_feeds.specs.Held.{HeldFeed}
use Rattle.move_feeds.proofs.Blocks.{told_none, told_some}
use Rattle.move_feeds.proofs.feed.Feed.put_told.Goals as goal

pub returns-then-passed-len : goal.returns-then-passed-len
returns-then-passed-len c =
    let f : Feed = record {
      no = c.self.inside.no;
      user = c.self.inside.user;
      filter = c.self.inside.filter;
      listed = c.self.inside.listed.items;
      acked = c.self.inside.acked;
      waiting = c.self.inside.waiting.items;
      lapsed = c.self.inside.lapsed;
    } in
    let passed = c.saturating_sub-passed.result in
    let some : c.least-count.result ≡ min c.args.count (length f.waiting - passed) = c.least-count.ensures ∙ ap (λ (n : ℕ). min c.args.count (n - passed)) c.len-then-passed-len.ensures in
    subst (λ (h : HeldFeed). c.put_part.new.room.items ≡ told c.args.from c.args.count h.feed) c.self.view_is
    (told_some f c.args.from c.args.count passed c.least-count.result c.clear.new.self.items c.put_part.new.room.items c.clear.ensures.items c.saturating_sub-passed.ensures some c.put_part.ensures)

pub returns-else-passed-len : goal.returns-else-passed-len
returns-else-passed-len c =
    let f : Feed = record {
      no = c.self.inside.no;
      user = c.self.inside.user;
      filter = c.self.inside.filter;
      listed = c.self.inside.listed.items;
      acked = c.self.inside.acked;
      waiting = c.self.inside.waiting.items;
      lapsed = c.self.inside.lapsed;
    } in
    let passed = c.saturating_sub-passed.result in
    let le : length f.waiting ≤ passed = omega (arith, c.len.ensures, c.if-passed-len.false) in
    subst (λ (h : HeldFeed). c.clear.new.self.items ≡ told c.args.from c.args.count h.feed) c.self.view_is
    (told_none f c.args.from c.args.count passed c.clear.new.self.items c.clear.ensures.items c.saturating_sub-passed.ensures le)
