use Rattle.std.proofs.Common.{refl, sym, ◌∙◌, subst, arith}
use Rattle.std.proofs.lemmas.Bool.{false≢true}
use Rattle.tracker_loading.proofs.Tests.{ruled_out}
use Rattle.tracker_loading.proofs.Sprints.{HasSprints, named_all, named_each}
use Rattle.tracker_loading.proofs.named_sprints.has_sprints_of_entries.Goals as goal

pub returns-then-not-has_sprints_of_entry : goal.returns-then-not-has_sprints_of_entry
returns-then-not-has_sprints_of_entry c =
    let rows = c.args.rows.now in
    let entry = c.entry-item.result in
    ruled_out (λ named.
    false≢true (sym c.if-not-has_sprints_of_entry.true
    ∙ c.has_sprints_of_entry.ensures.1 (subst (HasSprints rows) (sym c.entry-item.is)
    (named_each rows c.args.entries.now c.loop-entry.entry-index entry named c.loop-entry-test.true))))

pub returns : goal.returns
returns c = (λ t. named_all c.args.rows.now c.args.entries.now (λ k d within. c.loop-entry.invariant k d (omega (arith, within))), λ named. refl)
