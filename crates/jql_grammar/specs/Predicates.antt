-- What is asked of a change, or of a time at which a field had a value.
use Rattle.std.specs.Prelude.{List, Option, Some, None, Result, Ok}
use Rattle.jql_syntax.specs.declared.query.Predicate.{Predicate}
use Rattle.jql_syntax.specs.declared.query.Predicate.TheVariants.{After, Before, On, During, By}
use Rattle.jql_syntax.specs.declared.query.Aspect.{Aspect}
use Rattle.jql_syntax.specs.declared.query.Aspect.TheVariants.{Predicate as PredicateAspect, From, To}
use Rattle.jql_bound.specs.declared.past.PastPredicate.{PastPredicate}
use Rattle.jql_bound.specs.declared.past.PastPredicate.TheVariants as past
use Rattle.jql_bound.specs.declared.past.Endpoint.{Endpoint}
use Rattle.jql_bound.specs.declared.past.Endpoint.TheVariants as endpoint
use Rattle.jql_grammar.specs.declared.fault.FaultKind.{FaultKind}
use Rattle.jql_grammar.specs.declared.column.ValueKind.{ValueKind}
use Rattle.jql_grammar.specs.Steps.{made, made_of_both, each, each_some}
use Rattle.jql_grammar.specs.Scope.{Scope}
use Rattle.jql_grammar.specs.Dates.{date_in}
use Rattle.jql_grammar.specs.Items.{choice_of, authors_in}

abbrev pub predicate_in : Scope → Predicate → Result PastPredicate FaultKind
predicate_in scope (After date) = made past.After (date_in date)
predicate_in scope (Before date) = made past.Before (date_in date)
predicate_in scope (On date) = made past.On (date_in date)
predicate_in scope (During first last) = made_of_both past.During (date_in first) (date_in last)
predicate_in scope (By choice) = made past.By (authors_in scope choice)

abbrev pub predicates_in : Scope → List Predicate → Result (List PastPredicate) FaultKind
predicates_in scope predicates = each (predicate_in scope) predicates

-- the values that a change is to go from and to
abbrev pub endpoint_in : Scope → ValueKind → Aspect → Result (Option Endpoint) FaultKind
endpoint_in scope kind (From choice) =
    made (λ xs. Some (endpoint.From xs)) (choice_of scope kind choice)
endpoint_in scope kind (To choice) =
    made (λ xs. Some (endpoint.To xs)) (choice_of scope kind choice)
endpoint_in scope kind (PredicateAspect predicate) = Ok None

abbrev pub endpoints_in : Scope → ValueKind → List Aspect → Result (List Endpoint) FaultKind
endpoints_in scope kind aspects = each_some (endpoint_in scope kind) aspects

-- and the rest of what is asked of it
abbrev pub other_aspect : Scope → Aspect → Result (Option PastPredicate) FaultKind
other_aspect scope (PredicateAspect predicate) = made Some (predicate_in scope predicate)
other_aspect scope (From choice) = Ok None
other_aspect scope (To choice) = Ok None

abbrev pub other_aspects : Scope → List Aspect → Result (List PastPredicate) FaultKind
other_aspects scope aspects = each_some (other_aspect scope) aspects
