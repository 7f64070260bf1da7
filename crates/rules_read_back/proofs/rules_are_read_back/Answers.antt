use Rattle.fields.specs.Sound.{part_names}
use Rattle.rules_read_back.proofs.Conditions.{condition_back}
use Rattle.rules_read_back.proofs.Validators.{validator_back}
use Rattle.rules_read_back.proofs.PostFunctions.{post_back}
use Rattle.rules_read_back.proofs.rules_are_read_back.Goals as goal

pub returns-clause-conditions : goal.returns-clause-conditions
returns-clause-conditions c = λ parts text condition sound is. condition_back (part_names parts) sound.groups.distinct text condition is

pub returns-clause-validators : goal.returns-clause-validators
returns-clause-validators c = λ parts text validator sound is. validator_back parts sound text validator is

pub returns-clause-posts : goal.returns-clause-posts
returns-clause-posts c = λ parts text post sound is. post_back parts sound text post is
