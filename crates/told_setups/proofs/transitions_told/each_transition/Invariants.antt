use Rattle.std.proofs.Common.{◌≡◌, map, take, drop, true}
use Rattle.std.specs.List.{list_all}
use Rattle.field_forms.specs.SoundRules.{rules_are_sound}
use Rattle.fields.specs.SetupParts.{names}
use Rattle.told_setups.specs.Told.{told_transition}
use Rattle.told_setups.proofs.transitions_told.each_transition.Given as goal

abbrev pub invariant-loop-transition : goal.invariant-loop-transition
invariant-loop-transition l = record {
  so_far : l.told ≡ map (told_transition (names l.setup)) (take l.transition-index l.transitions);
  rest : list_all (rules_are_sound (names l.setup)) (drop l.transition-index l.transitions) ≡ true;
}
