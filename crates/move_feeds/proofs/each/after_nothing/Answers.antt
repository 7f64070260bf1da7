use Rattle.std.proofs.Common.{sym}
use Rattle.move_feeds.specs.Held.{feeds_of}
use Rattle.move_feeds.proofs.Events.{nothing_changes}
use Rattle.move_feeds.proofs.each.after_nothing.Goals as goal

pub returns : goal.returns
returns g c = sym (nothing_changes (g.L.Lister.lists c.args.lister.now) (feeds_of c.args.feeds.now) c.are_feeds.ensures c.requires)
