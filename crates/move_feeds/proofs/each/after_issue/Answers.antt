use Rattle.std.proofs.Common.{◌≡◌, List, map, ap, sym, ◌∙◌, subst}
use Rattle.list_changes.specs.declared.changed.Changed.TheVariants as changed
use Rattle.move_feeds.specs.Changed.{MayAllList}
use Rattle.move_feeds.specs.Feed.{Feed, after_event}
use Rattle.move_feeds.proofs.each.after_issue.Goals as goal

pub see_each-requires-clause-one : goal.see_each-requires-clause-one
see_each-requires-clause-one g c =
    subst (λ (fs : List Feed). MayAllList (changed.Issue c.args.place) (g.L.Lister.lists c.args.lister.now) fs) (sym c.reserve_each.ensures.same) c.requires
