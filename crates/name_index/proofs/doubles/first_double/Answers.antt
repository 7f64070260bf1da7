use Rattle.std.proofs.Common.{◌≡◌, ◌∙◌, ◌||◌, Bool, true, false, not, sym, ap, refl, arith}
use Rattle.std.specs.Str.{str_eq_ignore_ascii_case}
use Rattle.name_index.proofs.SeenNames.{double_here, no_double_here, seen_more}
use Rattle.name_index.proofs.doubles.first_double.Goals as goal

seen_before : (seen : Bool) → false ≡ not seen → seen ≡ true
seen_before true e = refl
seen_before false e = absurd (cc)

not_before : (seen : Bool) → true ≡ not seen → seen ≡ false
not_before true e = absurd (cc)
not_before false e = refl

pub returns-then-not-branch : goal.returns-then-not-branch
returns-then-not-branch c =
    let seen = seen_before _ (sym c.if-not-branch.true ∙ c.in_ok-put_seen.ensures.new) in
    sym (c.loop-name.invariant.0 ∙ double_here c.args.names.now c.loop-name.name-index c.name-item.result (omega arith) c.name-item.is (sym (c.loop-name.invariant.1 c.name-item.result) ∙ seen))

pub loop-name-preserved : goal.loop-name-preserved
loop-name-preserved c =
    let new = not_before _ (sym c.if-not-branch.false ∙ c.in_ok-put_seen.ensures.new) in (
      c.loop-name.invariant.0 ∙ no_double_here c.args.names.now c.loop-name.name-index c.name-item.result (omega arith) c.name-item.is (sym (c.loop-name.invariant.1 c.name-item.result) ∙ new),
      λ other. c.in_ok-put_seen.ensures.seen other ∙ (ap (λ (b : Bool). str_eq_ignore_ascii_case c.name-item.result other || b) (c.loop-name.invariant.1 other) ∙ sym (seen_more c.args.names.now c.loop-name.name-index c.name-item.result (omega arith) c.name-item.is other)),
    )
