use Rattle.std.proofs.Common.{◌≡◌, map, take}
use Rattle.fields.specs.SetupParts.{names}
use Rattle.rule_texts.specs.RuleTexts.{validator_text}
use Rattle.told_setups.proofs.transitions_told.validator_texts.Given as goal

abbrev pub invariant-loop-validator : goal.invariant-loop-validator
invariant-loop-validator l = l.told ≡ map (validator_text (names l.setup)) (take l.validator-index l.validators)
