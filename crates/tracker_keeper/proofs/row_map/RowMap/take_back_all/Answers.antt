use Rattle.std.proofs.Common.{◌++◌, ◌∷◌, [], sym, ap, subst, ◌∙◌, append_assoc}
use Rattle.std.specs.Vec.Iter.{into_iter_items}
use Rattle.tracker_keeper.specs.Places.{HavePlaces}
use Rattle.tracker_keeper.proofs.Placing.{HasDone, done_more}
use Rattle.tracker_keeper.proofs.row_map.RowMap.take_back_all.Goals as goal

pub take_back-requires : goal.take_back-requires
take_back-requires c = (subst (HavePlaces c.loop-back.self.places) c.in-Some.ensures.steps.0 c.loop-back.invariant.done.places).0

pub loop-back-preserved : goal.loop-back-preserved
loop-back-preserved c =
    let rest = into_iter_items c.next.new.self in
    let first = c.args.self.now.places in
    let old = c.loop-back.self.places in
    let step = c.in-Some.ensures.steps.0 in
    record {
      can = tt;
      finite = tt;
      rest = append_assoc c.loop-back.yielded (c.in-Some.back ∷ []) rest ∙ ap (λ xs. c.loop-back.yielded ++ xs) (sym step) ∙ c.loop-back.invariant.rest;
      done = done_more first old c.take_back.new.self.places c.loop-back.yielded c.in-Some.back rest (subst (HasDone first old c.loop-back.yielded) step c.loop-back.invariant.done) c.take_back.ensures.rows c.take_back.ensures.others;
    }
