use Rattle.std.proofs.Common.{◌≡◌, ◌≢◌, [], false, inr, sym, subst, ◌∙◌}
use Rattle.std.specs.Bool.{MatchBool}
use Rattle.std.proofs.lemmas.Result.{IfOk-weaker}
use Rattle.fields.specs.SetupParts.{parts}
use Rattle.row_amend.proofs.Opening.{comes_of_none}
use Rattle.row_amend.proofs.amending.operations.Goals as goal

pub returns-then-has_some-clause-done : goal.returns-then-has_some-clause-done
returns-then-has_some-clause-done c = λ kept listing. IfOk-weaker c.tried.result _ _ (λ ops is. inr is) (c.tried.ensures.done kept listing)

pub returns-in-Ok-clause-done : goal.returns-in-Ok-clause-done
returns-in-Ok-clause-done c = λ kept listing.
    let none : c.deref.result.now ≡ [] = subst (λ b. MatchBool b (c.deref.result.now ≢ []) (c.deref.result.now ≡ [])) c.if-has_some.false c.has_some.ensures in
    comes_of_none c.in-Ok.ops.items c.args.rows.items kept c.args.setup.text (parts c.args.setup) c.in-Ok.ensures.ops (sym c.deref.ensures.value ∙ none) listing
