use Rattle.std.proofs.Common.{◌≡◌, ◌<◌, length, arith, sym, ◌∙◌, get_or}
use Rattle.std.proofs.lemmas.List.{get_or_default}
use Rattle.short_lists.proofs.ByName.{found}
use Rattle.short_lists.proofs.by_name.place_of.Goals as goal

pub returns-in-Equal : goal.returns-in-Equal
returns-in-Equal g c =
    let within : c.loop-at.at < length c.args.list.now = omega arith in (
      within,
      λ k v e same.
          let is : get_or c.args.list.now c.loop-at.at e ≡ c.index-list-at.result = get_or_default _ _ _ _ within ∙ sym c.index-list-at.is in
          c.loop-at.invariant k v same ∙ found _ _ e k v within (rw (same, is) (sym c.in-Equal.ensures)),
    )
