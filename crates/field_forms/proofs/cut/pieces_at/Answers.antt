use Rattle.std.proofs.Common.{◌≡◌, ◌∷◌, arith, rules}
use Rattle.std.proofs.lemmas.Grind.{common_steps}
use Rattle.field_forms.specs.Cuts.{pieces_at}
use Rattle.field_forms.proofs.Cutting.{cut_some}
use Rattle.field_forms.proofs.cut.pieces_at.Goals as goal

pub loop-piece-preserved : goal.loop-piece-preserved
loop-piece-preserved c =
    let e : pieces_at c.args.mark c.loop-piece.left.now ≡ c.in-Some.piece.now ∷ pieces_at c.args.mark c.in-Some.rest.now = cut_some c.args.mark c.loop-piece.left.now c.in-Some.piece.now c.in-Some.rest.now (search rules) in
    (search rules, grind (arith, common_steps, e))
