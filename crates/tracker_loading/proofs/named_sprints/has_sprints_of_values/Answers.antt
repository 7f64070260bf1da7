use Rattle.std.proofs.Common.{refl, sym, ◌∙◌, subst, arith}
use Rattle.std.proofs.lemmas.Bool.{false≢true}
use Rattle.change_history.specs.declared.change.Change.{Change}
use Rattle.tracker_rows.specs.Listed.{HasSprint}
use Rattle.tracker_loading.proofs.Tests.{ruled_out}
use Rattle.tracker_loading.proofs.Sprints.{open_all, open_each}
use Rattle.tracker_loading.proofs.named_sprints.has_sprints_of_values.Goals as goal

pub returns-then-not-has_sprint : goal.returns-then-not-has_sprint
returns-then-not-has_sprint c =
    let rows = c.args.rows.now in
    let value = c.value-item.result in
    ruled_out (λ opened.
    false≢true (sym c.if-not-has_sprint.true
    ∙ c.has_sprint.ensures.1 (subst (λ (v : Change). HasSprint rows v.to) (sym c.value-item.is)
    (open_each rows c.args.values.now c.loop-value.value-index value opened c.loop-value-test.true))))

pub returns : goal.returns
returns c = (λ t. open_all c.args.rows.now c.args.values.now (λ k d within. c.loop-value.invariant k d (omega (arith, within))), λ opened. refl)
