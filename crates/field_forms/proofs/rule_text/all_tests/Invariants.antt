use Rattle.std.proofs.Common.{◌≡◌, ◌++◌, drop, option_map}
use Rattle.field_forms.specs.Known.{names_of}
use Rattle.field_forms.specs.Rules.{all_tests}
use Rattle.field_forms.proofs.rule_text.all_tests.Given as goal

abbrev pub invariant-loop-text : goal.invariant-loop-text
invariant-loop-text l =
    all_tests (names_of l.known) l.texts ≡ option_map (λ rest. l.tests ++ rest) (all_tests (names_of l.known) (drop l.text-index l.texts))
