use Rattle.std.proofs.Common.{◌≡◌, ◌++◌, [], ◌∷◌, arith, sym, ap, ◌∙◌, Some}
use Rattle.std.specs.Prelude.{slice_get}
use Rattle.change_history.specs.Span.{entries_of}
use Rattle.jql_past.specs.Near.{IsNearChange}
use Rattle.jql_past.proofs.Walks.{up_to, walk_at, walk_on, up_to_here, of_field, none_left}
use Rattle.jql_past.proofs.Nexts.{none_passed, one_more_passed, all_passed}
use Rattle.jql_past.proofs.end.near_changes.Goals as goal

pub loop-place-init : goal.loop-place-init
loop-place-init c =
    let es = c.args.issue.now.history.entries in
    let start = walk_at es c.args.field c.last_entry-place.result c.last_entry-place.ensures in
    record {
      stands = start.0;
      passed = none_passed (IsNearChange c.args.predicates.now) (entries_of es c.args.field) c.args.at (up_to es c.args.field c.last_entry-place.result) start.1;
    }

pub loop-place-preserved : goal.loop-place-preserved
loop-place-preserved c =
    let P = IsNearChange c.args.predicates.now in
    let es = c.args.issue.now.history.entries in
    let e = c.in-Some-entry.entry.now in
    let there : slice_get es c.in-Some.k ≡ Some e = sym c.in-Some-entry.ensures in
    let of = of_field es c.args.field c.loop-place.place c.in-Some.k e c.in-Some.is c.loop-place.invariant.stands there in
    let step = walk_on es c.args.field c.in-Some.k e c.entry_before-place.result there of c.entry_before-place.ensures.before in
    let left : up_to es c.args.field c.loop-place.place ≡ up_to es c.args.field c.entry_before-place.result ++ e ∷ [] =
    ap (up_to es c.args.field) c.in-Some.is ∙ up_to_here es c.args.field c.in-Some.k e there of ∙ ap (λ l. l ++ e ∷ []) (sym step.left) in
    record {
      stands = step.stands;
      passed = one_more_passed P (entries_of es c.args.field) c.args.at (up_to es c.args.field c.loop-place.place) (up_to es c.args.field c.entry_before-place.result) e
          c.near_moment.result c.loop-place.first c.earlier-first.result left c.earlier-first.ensures c.near_moment.ensures c.loop-place.invariant.passed;
    }

pub loop-place-smaller : goal.loop-place-smaller
loop-place-smaller c =
    let es = c.args.issue.now.history.entries in
    let there : slice_get es c.in-Some.k ≡ Some c.in-Some-entry.entry.now = sym c.in-Some-entry.ensures in
    let of = of_field es c.args.field c.loop-place.place c.in-Some.k c.in-Some-entry.entry.now c.in-Some.is c.loop-place.invariant.stands there in
    let step = walk_on es c.args.field c.in-Some.k c.in-Some-entry.entry.now c.entry_before-place.result there of c.entry_before-place.ensures.before in
    rw c.in-Some.is (omega (arith, step.earlier))

pub returns : goal.returns
returns c =
    let es = c.args.issue.now.history.entries in
    all_passed (IsNearChange c.args.predicates.now) (entries_of es c.args.field) c.args.at (up_to es c.args.field c.loop-place.place) c.loop-place.first
    (none_left es c.args.field c.loop-place.place c.in_default.not-Some) c.loop-place.invariant.passed
