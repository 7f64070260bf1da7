use Rattle.std.proofs.Common.{◌≡◌, ◌∙◌, ap, refl, rules, option_map}
use Rattle.jql_syntax.specs.View.{view, unboxed}
use Rattle.jql_syntax.specs.Tokens.{words, tokens}
use Rattle.jql_syntax.specs.Fault.{too_long, Explains}
use Rattle.jql_syntax.specs.declared.token.Kind.TheVariants.{TooLong}
use Rattle.jql_syntax.proofs.Whole.{one_query}
use Rattle.jql_syntax.proofs.Fronts.{explained_same}
use Rattle.jql_syntax.proofs.reader.parse.Goals as goal

pub returns-then-text-gt-MOST_BYTES-clause-fault : goal.returns-then-text-gt-MOST_BYTES-clause-fault
returns-then-text-gt-MOST_BYTES-clause-fault c = (TooLong, c.number_of.ensures, too_long c.if-text-gt-MOST_BYTES.true refl refl)

pub returns-in-Ok-read_all-clause-only : goal.returns-in-Ok-read_all-clause-only
returns-in-Ok-read_all-clause-only c =
    let e : words c.as_slice.result.now ≡ words (tokens c.args.text.now) = ap words (c.as_slice.ensures.value ∙ c.in-Ok.ensures) in
    let r = c.in-Ok-read_all.ensures.ok in
    rw c.new.ensures (λ q keys i. one_query (words (tokens c.args.text.now)) (option_map view (unboxed c.in-Ok-read_all.condition)) q c.in-Ok-read_all.keys keys (rw e at r) i.1)

pub returns-clause-only_fault : goal.returns-clause-only_fault
returns-clause-only_fault c =
    let x : Explains c.args.text.now c.fault_of.result = search rules in
    explained_same c.args.text.now c.fault_of.result x
