-- What a text asks for, by what it was read as.
use Rattle.std.proofs.Common.{◌≡◌, ℕ, List, ◌∙◌, ap, Option}
use Rattle.std.specs.Prelude.{Err}
use Rattle.field_values.specs.Parts.{Parts}
use Rattle.jql_syntax.specs.Tree.{Tree}
use Rattle.jql_syntax.specs.Tokens.{tokens, words}
use Rattle.jql_syntax.specs.Fault.{IsQuery, FirstFault, number_of_kind}
use Rattle.jql_syntax.specs.Either.{QueryOrFault, text_is, text_has}
use Rattle.jql_syntax.specs.declared.token.Kind.{Kind}
use Rattle.jql_syntax.specs.declared.query.SortKey.{SortKey}
use Rattle.jql_syntax.proofs.Whole.{one_query}
use Rattle.jql_syntax.proofs.Fronts.{one_text_fault, not_query}
use Rattle.jql_syntax.proofs.Total.{text_decided}
use Rattle.jql_grammar.specs.Binding.{bound_in}
use Rattle.jql_grammar.specs.Scope.{Scope, scope_by}
use Rattle.tracker_calls.specs.declared.cause.Cause.TheVariants as cause
use Rattle.tracker_machine.specs.Query.{asked, asked_by, bound_or_fault}

abbrev scope : Parts → ℕ → Scope
scope setup user = scope_by setup (record { 0 = user })

query_is : (setup : Parts) (user : ℕ) (text : List ℕ) (q : Option Tree) (keys : List SortKey) (d : QueryOrFault text) → IsQuery text q keys
    → asked_by setup user text d ≡ bound_or_fault (bound_in (scope setup user) q keys)
query_is setup user text q keys (text_is p others is) given =
    let same = one_query (words (tokens text)) p q others keys is.1 given.1 in
    ap (λ v. bound_or_fault (bound_in (scope setup user) v others)) same.0 ∙ ap (λ v. bound_or_fault (bound_in (scope setup user) q v)) same.1
query_is setup user text q keys (text_has place kind is) given = absurd (not_query text place kind q keys is given)

fault_is : (setup : Parts) (user : ℕ) (text : List ℕ) (place : ℕ) (kind : Kind) (d : QueryOrFault text) → FirstFault text place kind
    → asked_by setup user text d ≡ Err (cause.Query (number_of_kind kind) place)
fault_is setup user text place kind (text_is q keys is) given = absurd (not_query text place kind q keys given is)
fault_is setup user text place kind (text_has other sort is) given =
    let same = one_text_fault text other place sort kind is given in
    ap (λ v. Err (cause.Query (number_of_kind sort) v)) same.0 ∙ ap (λ v. Err (cause.Query (number_of_kind v) place)) same.1

pub asked_query : (setup : Parts) (user : ℕ) (text : List ℕ) (q : Option Tree) (keys : List SortKey) → IsQuery text q keys
    → asked setup user text ≡ bound_or_fault (bound_in (scope setup user) q keys)
unfolding asked
asked_query setup user text q keys given = query_is setup user text q keys (text_decided text) given

pub asked_fault : (setup : Parts) (user : ℕ) (text : List ℕ) (place : ℕ) (kind : Kind) → FirstFault text place kind
    → asked setup user text ≡ Err (cause.Query (number_of_kind kind) place)
unfolding asked
asked_fault setup user text place kind given = fault_is setup user text place kind (text_decided text) given
