use Rattle.std.proofs.Common.{◌+◌, List, length, refl, sym, subst, arith}
use Rattle.std.proofs.lemmas.Option.{slice_get_read}
use Rattle.jql_meaning.specs.Surroundings.{surroundings_of}
use Rattle.jql_eval.specs.Told.{Told}
use Rattle.tracker_filters.specs.Saved.{condition_of}
use Rattle.tracker_filters.proofs.Made.{FirstVerdicts, one_verdict_more}
use Rattle.tracker_filters.proofs.ready.verdicts_on.Goals as goal

pub loop-issue-preserved : goal.loop-issue-preserved
loop-issue-preserved g c =
    let issues = c.args.issues.now in
    let k = c.loop-issue.issue-index in
    let around = surroundings_of c.args.context.now in
    let query = condition_of c.args.filter.now in
    let at = slice_get_read issues (length issues) k c.issue-item.result refl c.loop-issue-test.true c.issue-item.is in
    record {
      made = subst (λ (told : List Told). FirstVerdicts around c.args.at query issues told (k + 1)) (sym c.push_reserved.ensures.items)
          (one_verdict_more around c.args.at query issues c.loop-issue.verdicts.items k c.issue-item.result c.evaluate.result at c.evaluate.ensures.right c.loop-issue.invariant.made);
      len = omega (arith, c.push_reserved.ensures.len, c.loop-issue.invariant.len);
      room = omega (arith, c.push_reserved.ensures.capacity, c.loop-issue.invariant.room);
      steps = omega (arith, c.evaluate.ensures.steps, c.loop-issue.invariant.steps);
    }
