use Rattle.std.proofs.Common.{◌≡◌, ℕ, List, Option, Some, None, position, ap, sym, ◌∙◌}
use Rattle.move_feeds.specs.Feed.{Feed, is_of}
use Rattle.move_feeds.specs.Held.{HeldFeed, feeds_of}
use Rattle.move_feeds.proofs.Places.{find_none, without_none, without_read}
use Rattle.move_feeds.proofs.feeds.remove_first.Goals as goal

pub returns-in-Some-clause-feeds : goal.returns-in-Some-clause-feeds
returns-in-Some-clause-feeds c =
    let is = is_of c.args.no c.args.user.0 in
    let hs : List HeldFeed = c.args.feeds.now.items in
    let at : position (λ (h : HeldFeed). is h.feed) hs ≡ Some c.in-Some.at =
    sym (c.place_of.ensures ∙ ap (λ (l : List HeldFeed). position (λ (h : HeldFeed). is h.feed) l) c.deref.ensures.value) ∙ c.in-Some.is in
    ap feeds_of c.remove-feed.ensures.items ∙ without_read is hs c.in-Some.at at c.remove-feed.result

pub returns-in_default-clause-feeds : goal.returns-in_default-clause-feeds
returns-in_default-clause-feeds c =
    let is = is_of c.args.no c.args.user.0 in
    let hs : List HeldFeed = c.args.feeds.now.items in
    let none : position (λ (h : HeldFeed). is h.feed) hs ≡ None =
    sym (c.place_of.ensures ∙ ap (λ (l : List HeldFeed). position (λ (h : HeldFeed). is h.feed) l) c.deref.ensures.value) ∙ c.in_default.is in
    sym (without_none is (feeds_of hs) (find_none is hs none))
