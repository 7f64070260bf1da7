use Rattle.std.proofs.lemmas.Result.{IfOk-weaker}
use Rattle.fields.specs.SetupParts.{parts}
use Rattle.row_amend.proofs.Small.{small_amending, some_amending}
use Rattle.row_amend.proofs.operations.amending_ops.Goals as goal

pub returns-clause-numbers : goal.returns-clause-numbers
returns-clause-numbers c =
    IfOk-weaker c.made_ops.result _ _
    (λ ops is. small_amending ops.items c.args.state.now.machine c.args.setup.text (parts c.args.setup) is c.is_tracker.ensures c.keeps_what_was_read.ensures.sound)
    c.made_ops.ensures
