use Rattle.std.proofs.Common.{◌<◌, List, length, subst, ◌∙◌}
use Rattle.field_values.specs.declared.parts.Project.{Project}
use Rattle.fields.specs.SetupParts.{parts}
use Rattle.list_calls.proofs.Projects.{table_more}
use Rattle.list_calls.proofs.browsing.browsable.Goals as goal

pub loop-place-preserved : goal.loop-place-preserved
loop-place-preserved c =
    c.in_ok-push.ensures.items
    ∙ table_more (parts c.args.setup.now) c.args.user.0 c.loop-place.place c.loop-place.table.items c.may.result
    (subst (λ (ps : List Project). c.loop-place.place < length ps) c.as_slice-place-end.ensures c.loop-place-test.true) c.loop-place.invariant c.may.ensures
