use Rattle.field_forms.proofs.SoundRules.{condition_sound, validator_sound, post_sound}
use Rattle.field_forms.proofs.laws.rules_are_sound.Goals as goal

pub returns-clause-conditions : goal.returns-clause-conditions
returns-clause-conditions c = condition_sound

pub returns-clause-validators : goal.returns-clause-validators
returns-clause-validators c = validator_sound

pub returns-clause-posts : goal.returns-clause-posts
returns-clause-posts c = post_sound
