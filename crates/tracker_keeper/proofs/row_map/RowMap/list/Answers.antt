use Rattle.std.proofs.Common.{◌≡◌, ◌++◌, ap, subst, ◌∙◌, append-nil}
use Rattle.tracker_keeper.specs.Rows.{IsListing}
use Rattle.tracker_keeper.specs.Places.{content, listed}
use Rattle.tracker_keeper.proofs.Listing.{listing}
use Rattle.tracker_keeper.proofs.row_map.RowMap.list.Goals as goal

pub returns : goal.returns
returns c =
    let places = c.args.self.now.places in
    let rows = c.loop-place.rows.items in
    let all : listed places.entries ≡ rows = c.loop-place.invariant ∙ ap (λ es. rows ++ listed es) c.in-None.ensures.steps.0 ∙ append-nil rows in
    subst (IsListing (content places)) all (listing places c.len.ensures.ordered)
