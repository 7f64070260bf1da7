use Rattle.std.proofs.Common.{◌≡◌, map, take}
use Rattle.fields.specs.SetupParts.{names}
use Rattle.rule_texts.specs.RuleTexts.{condition_text}
use Rattle.told_setups.proofs.transitions_told.condition_texts.Given as goal

abbrev pub invariant-loop-condition : goal.invariant-loop-condition
invariant-loop-condition l = l.told ≡ map (condition_text (names l.setup)) (take l.condition-index l.conditions)
