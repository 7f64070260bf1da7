use Rattle.std.proofs.Common.{◌∙◌, ap, is_some}
use Rattle.name_index.proofs.Among.{place_tells}
use Rattle.fields.proofs.setup.Setup.has_among.Goals as goal

pub returns : goal.returns
returns c = c.is_some.ensures ∙ (ap is_some c.place_among.ensures.place ∙ place_tells c.args.name.now _)
