use Rattle.std.proofs.Common.{◌≡◌, ◌∷◌, ◌∙◌}
use Rattle.jql_syntax.specs.Tree.{all_of, any_of}
use Rattle.jql_syntax.specs.View.{view, views}
use Rattle.jql_syntax.specs.declared.token.Token.TheVariants.{Marked}
use Rattle.jql_syntax.specs.declared.token.Mark.TheVariants.{Close}
use Rattle.jql_syntax.proofs.Views.{view-All, view-Any}
use Rattle.jql_print.specs.Print.{units_text, conjunctions_text}
use Rattle.jql_print.proofs.Writes.{OnOk-map}
use Rattle.jql_print.proofs.write_expr.+writer.Goals as goal

pub write_conjunction-returns-in-All : goal.write_conjunction-returns-in-All
write_conjunction-returns-in-All t c =
    let seen : view c.args.expr.now ≡ all_of (views c.deref.result.now) = rw (c.in-All.is, c.deref.ensures.value) (view-All c.in-All.units) in
    rw seen c.write_units.ensures

pub write_unit-returns-in_ok-write_units-in-All : goal.write_unit-returns-in_ok-write_units-in-All
write_unit-returns-in_ok-write_units-in-All t c =
    let xs = views c.deref-in-All.result.now in
    let seen : view c.args.expr.now ≡ all_of xs = rw (c.in-All.is, c.deref-in-All.ensures.value) (view-All c.in-All.units) in
    rw seen (OnOk-map c.put-in-All-2.result (λ h rest. h rest ∙ c.in_ok-write_units-in-All.ensures (Marked Close ∷ rest) ∙ c.in_ok-put-in-All.ensures (units_text xs (Marked Close ∷ rest))) c.put-in-All-2.ensures)

pub write_unit-returns-in_ok-write_conjunctions-in-Any : goal.write_unit-returns-in_ok-write_conjunctions-in-Any
write_unit-returns-in_ok-write_conjunctions-in-Any t c =
    let xs = views c.deref-in-Any.result.now in
    let seen : view c.args.expr.now ≡ any_of xs = rw (c.in-Any.is, c.deref-in-Any.ensures.value) (view-Any c.in-Any.conjunctions) in
    rw seen (OnOk-map c.put-in-Any-2.result (λ h rest. h rest ∙ c.in_ok-write_conjunctions-in-Any.ensures (Marked Close ∷ rest) ∙ c.in_ok-put-in-Any.ensures (conjunctions_text xs (Marked Close ∷ rest))) c.put-in-Any-2.ensures)
