use Rattle.std.proofs.Common.{◌≡◌, ℕ, ◌+◌, ◌-◌, ◌++◌, Bool, List, [], ◌∷◌, length, map, take, ap, sym, ◌∙◌, arith, append_assoc, if◌then◌else◌}
use Rattle.std.proofs.lemmas.List.{length-take}
use Rattle.move_feeds.specs.declared.moves.Change.{Change}
use Rattle.move_feeds.specs.Changes.{change, lacking, lacks_at}
use Rattle.move_feeds.proofs.Lacking.{count_step, mapped_step, room_step, waits_few}
use Rattle.move_feeds.proofs.feed.put_lacking.Goals as goal

pub put_if-requires-clause-waiting : goal.put_if-requires-clause-waiting
put_if-requires-clause-waiting c =
    omega (
      arith,
      waits_few c.args.waiting.now.items c.loop-at.waiting.items (take c.loop-at.at c.args.these.now) c.args.those.now c.args.entered c.loop-at.invariant.items,
      length-take c.loop-at.at c.args.these.now,
      c.requires.waiting,
    )

pub put_if-requires-clause-room : goal.put_if-requires-clause-room
put_if-requires-clause-room c = λ is.
    omega (arith, c.loop-at.invariant.room, room_step c.args.these.now c.args.those.now c.loop-at.at c.loop-at-test.true (sym c.lacks.ensures ∙ is), c.requires.room)

pub loop-at-preserved : goal.loop-at-preserved
loop-at-preserved c =
    let these = c.args.these.now in
    let those = c.args.those.now in
    let at = c.loop-at.at in
    let entered = c.args.entered in
    let one = λ (b : Bool). if b then change entered (record { 0 = at + 1 }) ∷ [] else [] in
    let mapped : List Change = map (change entered) (lacking (take at these) those) in
    let room = c.put_if.ensures.room ∙ ap (λ (b : Bool). c.loop-at.waiting.room - (if b then 1 else 0)) c.lacks.ensures in
    record {
      items =
          c.put_if.ensures.items ∙ (ap (λ (l : List Change). l ++ one c.lacks.result) c.loop-at.invariant.items
          ∙ (append_assoc c.args.waiting.now.items mapped (one c.lacks.result)
          ∙ ap (λ (l : List Change). c.args.waiting.now.items ++ l) (ap (λ (b : Bool). mapped ++ one b) c.lacks.ensures ∙ sym (mapped_step entered these those at c.loop-at-test.true))));
      room = omega (arith, room, c.loop-at.invariant.room, count_step these those at c.loop-at-test.true);
    }
