use Rattle.std.proofs.Common.{◌≡◌, List, map, ap, sym, ◌∙◌, subst, Some}
use Rattle.move_feeds.specs.Feed.{Feed, after_event}
use Rattle.move_feeds.specs.Held.{feeds_of, taken_in}
use Rattle.move_feeds.proofs.Events.{filter_changes}
use Rattle.move_feeds.proofs.each.after_filter.Goals as goal

pub returns-clause-ok : goal.returns-clause-ok
returns-clause-ok g c =
    let lists = g.L.Lister.lists c.args.lister.now in
    c.take_each.ensures
    ∙ (ap (λ (fs : List Feed). map (taken_in (Some c.args.filter) lists) fs) c.ready_each.ensures.same
    ∙ filter_changes lists c.args.filter (feeds_of c.args.feeds.now) c.are_feeds.ensures c.requires)
