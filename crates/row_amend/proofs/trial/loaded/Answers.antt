use Rattle.std.proofs.Common.{refl, sym, subst}
use Rattle.tracker_keeper.specs.Places.{content}
use Rattle.tracker_keeper.specs.Rows.{IsListing}
use Rattle.row_dumps.proofs.Placed.{in_order}
use Rattle.row_amend.proofs.trial.loaded.Goals as goal

pub load-requires : goal.load-requires
load-requires c =
    let kept = content c.args.trial.now.rows.places in
    let listing : IsListing kept c.deref.result.now = subst (IsListing kept) (sym c.deref.ensures.value) (c.in-Ok.ensures.rows tt kept (λ k n. refl)) in
    in_order c.deref.result.now listing.rising

pub returns-in-Ok-load-clause-loads : goal.returns-in-Ok-load-clause-loads
returns-in-Ok-load-clause-loads c = λ kept has.
    (c.deref.result.now, subst (IsListing kept) (sym c.deref.ensures.value) (c.in-Ok.ensures.rows tt kept has), c.in-Ok-load.ensures.loads)
