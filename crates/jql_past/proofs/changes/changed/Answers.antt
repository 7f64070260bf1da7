use Rattle.std.proofs.Common.{◌≡◌, ℕ, Bool, sym, ap, ◌∙◌, arith, Option, Some}
use Rattle.std.specs.Prelude.{slice_get}
use Rattle.std.specs.List.{list_any}
use Rattle.change_history.specs.declared.entry.Entry.{Entry}
use Rattle.jql_meaning.specs.Surroundings.{surroundings_of}
use Rattle.jql_meaning.specs.Past.{changed, entry_answers}
use Rattle.jql_past.proofs.Walks.{up_to, walk_at, walk_on, change_passes, change_fails, of_field}
use Rattle.jql_past.proofs.changes.changed.Goals as goal

pub loop-place-init : goal.loop-place-init
unfolding changed
loop-place-init c =
    let start = walk_at c.args.issue.now.history.entries c.args.field c.last_entry-place.result c.last_entry-place.ensures in
    record {
      known = tt;
      stands = start.0;
      same = ap (list_any (λ (e : Entry). entry_answers (surroundings_of c.args.context.now) c.args.at c.args.endpoints.now c.args.predicates.now e)) (sym start.1);
    }

pub returns-then-entry_answers : goal.returns-then-entry_answers
returns-then-entry_answers c =
    let p : Entry → Bool = λ e. entry_answers (surroundings_of c.args.context.now) c.args.at c.args.endpoints.now c.args.predicates.now e in
    let es = c.args.issue.now.history.entries in
    let there : slice_get es c.in-Some.k ≡ Some c.in-Some-entry.entry.now = sym c.in-Some-entry.ensures in
    let of = of_field es c.args.field c.loop-place.place c.in-Some.k c.in-Some-entry.entry.now c.in-Some.is c.loop-place.invariant.stands there in
    sym (c.loop-place.invariant.same ∙ ap (λ (r : Option ℕ). list_any p (up_to es c.args.field r)) c.in-Some.is
    ∙ change_passes p es c.args.field c.in-Some.k c.in-Some-entry.entry.now there of (sym c.entry_answers.ensures.answer ∙ c.if-entry_answers.true))

pub loop-place-preserved : goal.loop-place-preserved
loop-place-preserved c =
    let p : Entry → Bool = λ e. entry_answers (surroundings_of c.args.context.now) c.args.at c.args.endpoints.now c.args.predicates.now e in
    let es = c.args.issue.now.history.entries in
    let there : slice_get es c.in-Some.k ≡ Some c.in-Some-entry.entry.now = sym c.in-Some-entry.ensures in
    let of = of_field es c.args.field c.loop-place.place c.in-Some.k c.in-Some-entry.entry.now c.in-Some.is c.loop-place.invariant.stands there in
    let step = walk_on es c.args.field c.in-Some.k c.in-Some-entry.entry.now c.entry_before-place.result there of c.entry_before-place.ensures.before in
    record {
      known = c.entry_answers.ensures.known;
      stands = step.stands;
      same = c.loop-place.invariant.same ∙ ap (λ (r : Option ℕ). list_any p (up_to es c.args.field r)) c.in-Some.is
          ∙ change_fails p es c.args.field c.in-Some.k c.in-Some-entry.entry.now there of (sym c.entry_answers.ensures.answer ∙ c.if-entry_answers.false)
          ∙ ap (list_any p) (sym step.left);
    }

pub loop-place-smaller : goal.loop-place-smaller
loop-place-smaller c =
    let es = c.args.issue.now.history.entries in
    let there : slice_get es c.in-Some.k ≡ Some c.in-Some-entry.entry.now = sym c.in-Some-entry.ensures in
    let of = of_field es c.args.field c.loop-place.place c.in-Some.k c.in-Some-entry.entry.now c.in-Some.is c.loop-place.invariant.stands there in
    let step = walk_on es c.args.field c.in-Some.k c.in-Some-entry.entry.now c.entry_before-place.result there of c.entry_before-place.ensures.before in
    rw c.in-Some.is (omega (arith, step.earlier))
