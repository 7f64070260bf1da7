use Rattle.std.proofs.Common.{◌≡◌, ◌==◌, ℕ, Bool, true, refl, sym, ap, subst, ◌∙◌, arith, length, Option, None, Some, IfNone}
use Rattle.std.proofs.lemmas.Bool.{eqb-true}
use Rattle.field_values.specs.declared.numbers.FieldNo.{FieldNo}
use Rattle.change_history.specs.declared.entry.Entry.{Entry}
use Rattle.change_history.specs.History.{opening_value}
use Rattle.std.specs.Prelude.{slice_get}
use Rattle.change_history.specs.Span.{SpanOf, end_of}
use Rattle.jql_meaning.specs.Surroundings.{surroundings_of}
use Rattle.jql_meaning.specs.Past.{was, span_answers}
use Rattle.jql_past.proofs.Walks.{up_to, some_span, walk_at, walk_on, span_passes, span_fails, end_there, no_end, at_the_end, of_field}
use Rattle.jql_past.proofs.spans.was.Goals as goal

same_field : (f g : FieldNo) → (f.0 == g.0) ≡ true → f ≡ g
same_field f g same = ap (λ (n : ℕ). record { 0 = n }) (eqb-true f.0 g.0 same)

lacks : (o : Option ℕ) → ((k : ℕ) → o ≡ Some k → ⊥) → o ≡ None
lacks None none = refl
lacks (Some k) none = absurd (none k refl)

pub loop-place-init : goal.loop-place-init
unfolding was
loop-place-init c =
    let h = c.args.issue.now.history in
    let p : SpanOf → Bool = λ x. span_answers (surroundings_of c.args.context.now) c.args.at c.args.operands.now c.args.predicates.now x in
    let start = walk_at h.entries c.args.field c.last_entry-place.result c.last_entry-place.ensures in
    record {
      known = tt;
      stands = start.0;
      same = λ i. some_span p h c.args.field (length (sym start.1 i));
      opened = λ none. tt;
      end_is = no_end h c.args.field ∙ (λ i. end_of h c.args.field (length (sym start.1 i)));
    }

pub returns-then-span_answers : goal.returns-then-span_answers
returns-then-span_answers c =
    let h = c.args.issue.now.history in
    let e = c.in-Some-entry.entry.now in
    let p : SpanOf → Bool = λ x. span_answers (surroundings_of c.args.context.now) c.args.at c.args.operands.now c.args.predicates.now x in
    let there : slice_get h.entries c.in-Some.k ≡ Some e = sym c.in-Some-entry.ensures in
    let of = of_field h.entries c.args.field c.loop-place.place c.in-Some.k e c.in-Some.is c.loop-place.invariant.stands there in
    let end_is : c.loop-place.end ≡ end_of h c.args.field (length (up_to h.entries c.args.field (Some c.in-Some.k))) =
    c.loop-place.invariant.end_is ∙ ap (λ (r : Option ℕ). end_of h c.args.field (length (up_to h.entries c.args.field r))) c.in-Some.is in
    sym (c.loop-place.invariant.same ∙ ap (λ (r : Option ℕ). some_span p h c.args.field (length (up_to h.entries c.args.field r))) c.in-Some.is
    ∙ span_passes p h c.args.field c.in-Some.k e c.loop-place.end there of end_is (sym c.span_answers.ensures.answer ∙ c.if-span_answers.true))

pub loop-place-preserved : goal.loop-place-preserved
loop-place-preserved c =
    let h = c.args.issue.now.history in
    let e = c.in-Some-entry.entry.now in
    let p : SpanOf → Bool = λ x. span_answers (surroundings_of c.args.context.now) c.args.at c.args.operands.now c.args.predicates.now x in
    let there : slice_get h.entries c.in-Some.k ≡ Some e = sym c.in-Some-entry.ensures in
    let of = of_field h.entries c.args.field c.loop-place.place c.in-Some.k e c.in-Some.is c.loop-place.invariant.stands there in
    let end_is : c.loop-place.end ≡ end_of h c.args.field (length (up_to h.entries c.args.field (Some c.in-Some.k))) =
    c.loop-place.invariant.end_is ∙ ap (λ (r : Option ℕ). end_of h c.args.field (length (up_to h.entries c.args.field r))) c.in-Some.is in
    let step = walk_on h.entries c.args.field c.in-Some.k e c.entry_before-place.result there of c.entry_before-place.ensures.before in
    record {
      known = c.span_answers.ensures.known;
      stands = step.stands;
      same = c.loop-place.invariant.same ∙ ap (λ (r : Option ℕ). some_span p h c.args.field (length (up_to h.entries c.args.field r))) c.in-Some.is
          ∙ span_fails p h c.args.field c.in-Some.k e c.loop-place.end there of end_is (sym c.span_answers.ensures.answer ∙ c.if-span_answers.false)
          ∙ (λ i. some_span p h c.args.field (length (sym step.left i)));
      opened = λ none.
          subst (λ (o : Option ℕ). IfNone o ((x : Entry) → slice_get h.entries c.in-Some.k ≡ Some x → x.from ≡ opening_value h.opening x.field)) none
          c.entry_before-place.ensures.opened e there
          ∙ ap (opening_value h.opening) (same_field e.field c.args.field of);
      end_is = end_there h c.args.field c.in-Some.k e there of ∙ (λ i. end_of h c.args.field (length (sym step.left i)));
    }

pub loop-place-smaller : goal.loop-place-smaller
loop-place-smaller c =
    let h = c.args.issue.now.history in
    let e = c.in-Some-entry.entry.now in
    let there : slice_get h.entries c.in-Some.k ≡ Some e = sym c.in-Some-entry.ensures in
    let of = of_field h.entries c.args.field c.loop-place.place c.in-Some.k e c.in-Some.is c.loop-place.invariant.stands there in
    let step = walk_on h.entries c.args.field c.in-Some.k e c.entry_before-place.result there of c.entry_before-place.ensures.before in
    rw c.in-Some.is (omega (arith, step.earlier))

pub opened_with-requires : goal.opened_with-requires
opened_with-requires c = c.loop-place.invariant.opened (lacks c.loop-place.place c.in_default.not-Some)

pub returns : goal.returns
returns c =
    let h = c.args.issue.now.history in
    let p : SpanOf → Bool = λ x. span_answers (surroundings_of c.args.context.now) c.args.at c.args.operands.now c.args.predicates.now x in
    c.span_answers-2.ensures.answer
    ∙ (λ i. p (record { begin = c.created.ensures i; end = c.loop-place.end; author = c.author.ensures i; value = c.opened_with.ensures i }))
    ∙ sym (c.loop-place.invariant.same ∙ at_the_end p h c.args.field c.loop-place.place c.loop-place.end c.in_default.not-Some c.loop-place.invariant.end_is)
