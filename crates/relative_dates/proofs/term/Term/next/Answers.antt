use Rattle.std.proofs.Common.{◌≡◌, ◌∙◌, sym, arith, rules, FitsSigned, w64}
use Rattle.std.proofs.lemmas.Int.{to_z-of_z}
use Rattle.relative_dates.specs.Years.{last_second}
use Rattle.relative_dates.proofs.OrderLemmas.{between_alike}
use Rattle.relative_dates.proofs.term.Term.next.Goals as goal

pub returns-then-is_same : goal.returns-then-is_same
returns-then-is_same c =
    let mark : FitsSigned w64 c.args.mark = c.ranges.mark in
    let first = simp to_z-of_z at c.compared-order.ensures in
    let last = simp to_z-of_z at c.compared.ensures in
    let same : c.compared.result ≡ c.compared-order.result = search rules in
    λ t after within.
    between_alike _ _ _ c.args.mark (c.never_falls.ensures c.args.at t (omega arith) within) (c.never_falls.ensures t last_second within (omega arith)) (sym last ∙ same ∙ first)

pub returns : goal.returns
returns c =
    let mark : FitsSigned w64 c.args.mark = c.ranges.mark in
    let i = c.loop-other.invariant in
    let alike = simp to_z-of_z at i.alike in
    let unlike = simp to_z-of_z at i.unlike in (
      omega (arith, i.order, i.apart),
      i.within,
      unlike,
      λ t after before.
          between_alike _ _ _ c.args.mark
          (c.never_falls.ensures c.args.at t (omega arith) (omega (arith, i.within)))
          (c.never_falls.ensures t c.loop-other.same (omega (arith, c.loop-other-test.false)) (omega (arith, i.apart, i.within)))
          alike,
    )
