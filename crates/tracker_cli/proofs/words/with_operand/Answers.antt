use Rattle.std.proofs.Common.{◌≡◌, ◌∙◌, ◌||◌, Some, ap, ap₂, true, false}
use Rattle.clap.specs.Words.{Rule, app_of, rule_of, with_rule}
use Rattle.clap.specs.declared.builder.action.ArgAction.TheVariants.{Set}
use Rattle.tracker_cli.specs.Words.{operand, with_one}
use Rattle.tracker_cli.proofs.words.with_operand.Goals as goal

pub returns : goal.returns
returns c =
    let operand_is : rule_of c.action-operand.result ≡ operand =
    rw (c.action-operand.ensures, c.required.ensures) (ap (λ (r : Rule). record r { required = true; action = Some Set }) c.new.ensures.rule) in
    let own : c.action-operand.result.global ≡ false = rw (c.action-operand.ensures, c.required.ensures) c.new.ensures.optional.1 in
    let one_is = c.in_ok-one.ensures.shape own ∙ ap₂ with_rule c.new-2.ensures.app operand_is in
    c.in_ok-both.ensures.shape (c.in_ok-one.ensures.globals ∙ ap₂ ◌||◌ c.new-2.ensures.local own) ∙ ap (with_one (app_of c.args.all)) one_is
