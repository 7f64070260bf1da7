use Rattle.std.proofs.Common.{◌≡◌, take}
use Rattle.told_setups.proofs.fields_told.copy_names.Given as goal

abbrev pub invariant-loop-text : goal.invariant-loop-text
invariant-loop-text l = l.copy ≡ take l.text-index l.texts
