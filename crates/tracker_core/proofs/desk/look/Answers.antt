use Rattle.std.proofs.Common.{◌∙◌}
use Rattle.tracker_core.proofs.Desks.{listed_row}
use Rattle.tracker_core.proofs.desk.look.Goals as goal

pub returns-in-Ok-clause-held : goal.returns-in-Ok-clause-held
returns-in-Ok-clause-held g c = λ rows kept same tells. listed_row rows c.in-Ok.list.items (λ empty. c.has_none.ensures.some c.if-has_none.false (c.deref.ensures.value ∙ empty)) (c.in-Ok.ensures.rows tells rows kept)

pub returns-then-has_none-clause-left : goal.returns-then-has_none-clause-left
returns-then-has_none-clause-left g c = λ rows kept left. c.in-Ok.ensures.left rows rows kept left

pub returns-in-Ok-clause-left : goal.returns-in-Ok-clause-left
returns-in-Ok-clause-left g c = λ rows kept left. c.in-Ok.ensures.left rows rows kept left

pub returns-clause-left : goal.returns-clause-left
returns-clause-left g c = λ rows kept left. c.in-Err.ensures.left rows rows kept left
