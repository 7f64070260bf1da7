use Rattle.std.proofs.Common.{◌≡◌, ◌∷◌, ◌++◌, [], List, ap, sym, subst, ◌∙◌}
use Rattle.std.specs.BTreeSet.{keys}
use Rattle.rank_strings.specs.Rank.{RankParts}
use Rattle.tracker_loading.specs.Taken.{AreTaken}
use Rattle.tracker_loading.proofs.Ranks.{taken_more}
use Rattle.tracker_loading.proofs.join_rank.add_rank.Goals as goal

pub returns-then-new-clause-taken : goal.returns-then-new-clause-taken
returns-then-new-clause-taken c =
    let ranks = c.args.ranks.now.items in
    let new = keys c.insert.new.self in
    let items : c.push_reserved.new.self.items ≡ ranks ++ c.in_ok-copy.copy ∷ [] =
    c.push_reserved.ensures.items ∙ ap (λ (rs : List RankParts). rs ++ c.args.rank ∷ []) c.reserve.ensures.items
    ∙ ap (λ (r : RankParts). ranks ++ r ∷ []) (sym c.in_ok-copy.ensures.copy) in
    subst (λ (rs : List RankParts). AreTaken rs new) (sym items)
    (taken_more ranks (keys c.args.taken.now) new c.in_ok-copy.copy c.requires c.in_ok-new.ensures.updates.0)
