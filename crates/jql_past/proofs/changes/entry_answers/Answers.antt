use Rattle.std.proofs.Common.{◌≡◌, Bool, true, false, ◌&&◌, refl, sym, ◌∙◌}
use Rattle.std.specs.List.{list_all}
use Rattle.std.proofs.lemmas.Bool.{true≢false, false≢true}
use Rattle.jql_meaning.specs.Surroundings.{surroundings_of}
use Rattle.jql_meaning.specs.Windows.{is_in_windows, is_by_each}
use Rattle.jql_meaning.specs.Past.{endpoint_answers}
use Rattle.jql_past.proofs.changes.entry_answers.Goals as goal

-- the definition asks for the windows first, the body asks for them last
all_but_windows : (within by goes : Bool) → (goes && by) ≡ true → within ≡ (within && by && goes)
all_but_windows true true true h = refl
all_but_windows false by goes h = refl
all_but_windows true by false h = absurd (false≢true h)
all_but_windows true false true h = absurd (false≢true h)

one_fails : (within by goes : Bool) → (goes && by) ≡ false → false ≡ (within && by && goes)
one_fails false by goes h = refl
one_fails true false goes h = refl
one_fails true true false h = refl
one_fails true true true h = absurd (true≢false h)

pub returns-then-is_wanted-clause-answer : goal.returns-then-is_wanted-clause-answer
returns-then-is_wanted-clause-answer c =
    let s = surroundings_of c.args.context.now in
    c.is_in_windows.ensures.answer
    ∙ all_but_windows (is_in_windows s c.args.at c.args.predicates.now c.args.entry.now.at) (is_by_each s c.args.predicates.now c.args.entry.now.author)
    (list_all (λ endpoint. endpoint_answers s c.args.entry.now endpoint) c.args.endpoints.now) (sym c.is_wanted.ensures ∙ c.if-is_wanted.true)

pub returns-else-is_wanted-clause-answer : goal.returns-else-is_wanted-clause-answer
returns-else-is_wanted-clause-answer c =
    let s = surroundings_of c.args.context.now in
    c.if-is_wanted.false
    ∙ one_fails (is_in_windows s c.args.at c.args.predicates.now c.args.entry.now.at) (is_by_each s c.args.predicates.now c.args.entry.now.author)
    (list_all (λ endpoint. endpoint_answers s c.args.entry.now endpoint) c.args.endpoints.now) (sym c.is_wanted.ensures ∙ c.if-is_wanted.false)
