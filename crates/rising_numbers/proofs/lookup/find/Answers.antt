use Rattle.std.proofs.Common.{◌∙◌, length, refl, sym}
use Rattle.std.proofs.lemmas.Option.{slice_get_read}
use Rattle.rising_numbers.proofs.Placed.{by_place, by_gap}
use Rattle.rising_numbers.proofs.Search.{stands_within}
use Rattle.rising_numbers.proofs.lookup.find.Goals as goal

pub returns-in-Ok : goal.returns-in-Ok
returns-in-Ok g c =
    let fs = c.args.things.now in
    sym (by_place _ 1 c.args.no c.in-Ok.place fs c.requires c.in-Ok.ensures.there
    ∙ slice_get_read fs (length fs) c.in-Ok.place c.index-things-place.result refl (stands_within g.T.Numbered.number fs c.args.no c.in-Ok.place c.in-Ok.ensures.there) c.index-things-place.is)

pub returns-in-Err : goal.returns-in-Err
returns-in-Err g c = sym (by_gap _ c.args.no _ _ c.in-Err.ensures.absent)
