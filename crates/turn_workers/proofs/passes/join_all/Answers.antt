use Rattle.std.proofs.Common.{rules, ◌≡◌, ◌<◌, ◌++◌, ◌∷◌, map, ap, ap₂, sym, subst, ◌∙◌}
use Rattle.std.specs.Vec.Iter.{into_iter_items}
use Rattle.desk_turn.specs.Passes.{IsPassOf, caller_of, lists}
use Rattle.turn_workers.specs.Round.{signed, owned}
use Rattle.turn_workers.proofs.Turns.{moved, listed_more, each_tail}
use Rattle.turn_workers.proofs.passes.join_all.Goals as goal

pub loop-seat-preserved : goal.loop-seat-preserved
loop-seat-preserved g c =
    let at = c.loop-seat in
    let seat = c.in-Some.seat in
    let steps : into_iter_items at.seat-iterator ≡ seat ∷ into_iter_items c.next.new.self = c.in-Some.ensures.steps.0 in
    let pushed = c.push_reserved.ensures.items in
    let joined = c.join-receipt.ensures in (
      search rules,
      search rules,
      search rules,
      search rules,
      search rules,
      search rules,
      subst (λ l. lists c.join-receipt.new.first ≡ lists c.args.first.now ++ map signed l) (sym pushed)
          (listed_more signed (lists c.args.first.now) at.ended.items _ _ _ _ at.invariant.6 joined.lists (ap₂ (λ a b. (a, b)) c.caller-caller.ensures joined.receipt)),
      subst (λ l. map signed l ++ map (λ s. owned s.pass) (into_iter_items c.next.new.self) ≡ map (λ s. owned s.pass) c.args.seats.items) (sym pushed)
          (moved signed (λ s. owned s.pass) at.ended.items _ seat _ _ _ steps (ap₂ (λ a b. (a, b)) c.caller-caller.ensures joined.receipt ∙ ap owned c.into_pass-pass.ensures.pass) at.invariant.7),
      each_tail (λ s. IsPassOf c.args.turn.now s.pass × (0 < caller_of s.pass)) seat _ _ steps at.invariant.8,
    )
