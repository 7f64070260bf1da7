use Rattle.std.proofs.Common.{◌≡◌, map, take, drop, true}
use Rattle.std.specs.List.{list_all}
use Rattle.field_forms.specs.SoundRules.{post_is_sound}
use Rattle.fields.specs.SetupParts.{names}
use Rattle.rule_texts.specs.RuleTexts.{post_text}
use Rattle.told_setups.proofs.transitions_told.post_texts.Given as goal

abbrev pub invariant-loop-function : goal.invariant-loop-function
invariant-loop-function l = record {
  so_far : l.told ≡ map (post_text (names l.setup)) (take l.function-index l.functions);
  rest : list_all (post_is_sound (names l.setup)) (drop l.function-index l.functions) ≡ true;
}
