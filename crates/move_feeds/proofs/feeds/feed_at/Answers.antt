use Rattle.std.proofs.Common.{sym, ◌∙◌}
use Rattle.move_feeds.specs.Feed.{is_of}
use Rattle.move_feeds.proofs.Places.{find_none, found_at}
use Rattle.move_feeds.proofs.feeds.feed_at.Goals as goal

pub returns-in-Some : goal.returns-in-Some
returns-in-Some c = sym (found_at (is_of c.args.no c.args.user.0) c.args.feeds.now c.in-Some.at c.index-feeds-at.result (sym c.place_of.ensures ∙ c.in-Some.is) c.index-feeds-at.is)

pub returns-in-None : goal.returns-in-None
returns-in-None c = sym (find_none (is_of c.args.no c.args.user.0) c.args.feeds.now (sym c.place_of.ensures ∙ c.in-None.is))
