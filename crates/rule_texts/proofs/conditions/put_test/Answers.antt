use Rattle.std.proofs.Common.{◌≡◌, ◌++◌, ◌∙◌, OnOk, string_bytes, ℕ, List, ap, sym, subst, codes}
use Rattle.fields.specs.SetupParts.{names}
use Rattle.rule_texts.specs.RuleTexts.{test_text}
use Rattle.rule_texts.proofs.conditions.put_test.Goals as goal

-- src/conditions.rt:38:1
pub returns-in-HasPermission : goal.returns-in-HasPermission
returns-in-HasPermission c =
    let text : codes "permission:" ++ c.permission_name.result.now ≡ test_text (names c.args.setup.now) c.args.test =
    ap (λ (name : List ℕ). codes "permission:" ++ name) c.permission_name.ensures ∙ ap (test_text (names c.args.setup.now)) (sym c.in-HasPermission.is) in
    subst (λ (added : List ℕ). OnOk c.put_named-in-HasPermission.result (string_bytes c.put_named-in-HasPermission.new.text ≡ string_bytes c.args.text.now ++ added)) text c.put_named-in-HasPermission.ensures
