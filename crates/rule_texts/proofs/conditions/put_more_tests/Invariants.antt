use Rattle.std.proofs.Common.{◌≡◌, ◌++◌, drop, string_bytes}
use Rattle.fields.specs.SetupParts.{names}
use Rattle.rule_texts.specs.RuleTexts.{more_tests_text}
use Rattle.rule_texts.proofs.conditions.put_more_tests.Given as goal

-- what is left to be put comes to the same
abbrev pub invariant-loop-test : goal.invariant-loop-test
invariant-loop-test l =
    string_bytes l.fn.text ++ more_tests_text (names l.setup) l.tests
    ≡ string_bytes l.text ++ more_tests_text (names l.setup) (drop l.test-index l.tests)
