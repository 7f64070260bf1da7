use Rattle.std.proofs.Common.{◌+◌, take, set, ap, ◌∙◌}
use Rattle.short_lists.proofs.Moved.{put_moved}
use Rattle.short_lists.proofs.places.put_between.Goals as goal

pub returns-clause-things : goal.returns-clause-things
returns-clause-things g c =
    ap (λ l. take (c.args.filled + 1) (set l c.args.at c.args.item)) c.copy_within.ensures.after
    ∙ put_moved c.args.places.now c.args.filled c.args.at c.args.item c.requires.place c.requires.room
