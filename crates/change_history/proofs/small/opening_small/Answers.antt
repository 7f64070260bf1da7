use Rattle.std.proofs.Common.{◌≡◌, ℕ, ◌+◌, ◌<◌, ◌-◌, ◌∷◌, List, length, drop, sym, ap, subst, ◌∙◌, arith}
use Rattle.std.proofs.lemmas.List.{drop_more}
use Rattle.change_history.specs.declared.change.Change.{Change}
use Rattle.change_history.specs.History.{opening_value}
use Rattle.change_history.specs.Small.{AreSmall}
use Rattle.change_history.proofs.Smalls.{set_small-are}
use Rattle.change_history.proofs.small.opening_small.Goals as goal

pub loop-left-preserved : goal.loop-left-preserved
loop-left-preserved c =
    let opening = c.args.opening.now in
    let place = c.loop-left.left - 1 in
    let change = c.index-opening-left.result in
    let below : place < length opening = omega (arith, c.loop-left.invariant.within, c.loop-left-test.true) in
    let behind : place + 1 ≡ c.loop-left.left = omega (arith, c.loop-left-test.true) in
    let whole : drop place opening ≡ change ∷ drop c.loop-left.left opening =
    drop_more opening place change below
    ∙ ap (λ (c : Change). c ∷ drop (place + 1) opening) (sym c.index-opening-left.is)
    ∙ ap (λ (k : ℕ). change ∷ drop k opening) behind in
    let set = set_small-are (opening_value (drop c.loop-left.left opening)) c.loop-left.small change.field change.to c.loop-left.invariant.are in
    record {
      within = omega (arith, below);
      are = subst (λ (cs : List Change). AreSmall (opening_value cs) c.set_small.new.small) (sym whole)
          (subst (AreSmall (opening_value (change ∷ drop c.loop-left.left opening))) (sym c.set_small.ensures) set);
    }
