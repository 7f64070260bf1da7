use Rattle.std.proofs.Common.{subst}
use Rattle.tracker_keeper.specs.Kept.{IsSetupText}
use Rattle.tracker_keeper.proofs.Lone.{a_setup}
use Rattle.tracker_keeper.proofs.lone_texts.is_setup.Goals as goal

pub returns-in-Ok-clause-there : goal.returns-in-Ok-clause-there
returns-in-Ok-clause-there c = λ t. subst IsSetupText c.as_bytes.ensures.value (a_setup c.as_bytes.result.now c.in-Ok.field-0 c.in-Ok.ensures.ok.1)
