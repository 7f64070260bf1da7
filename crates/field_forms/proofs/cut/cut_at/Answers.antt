use Rattle.field_forms.proofs.Cutting.{cut_is}
use Rattle.field_forms.proofs.cut.cut_at.Goals as goal

pub returns-clause-parts : goal.returns-clause-parts
returns-clause-parts c = cut_is c.args.mark c.args.text.now c.split_once.result (c.split_once.ensures.byte c.requires (λ w o h. h))
