use Rattle.std.proofs.Common.{◌∙◌}
use Rattle.row_amend.proofs.Tried.{put_rows}
use Rattle.row_amend.proofs.trial.in_memory.Goals as goal

pub returns-in-Ok-new-clause-rows : goal.returns-in-Ok-new-clause-rows
returns-in-Ok-new-clause-rows c = λ kept listing.
    put_rows c.deref.result.now c.args.rows.items kept c.in-Ok-new.trial.rows.places (c.deref.ensures.value ∙ c.in-Ok.ensures) listing c.in-Ok-new.ensures
