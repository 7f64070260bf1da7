-- Dates of predicates.
use Rattle.std.specs.Prelude.{Result}
use Rattle.relative_dates.specs.declared.term.Term.{Term}
use Rattle.relative_dates.specs.Reading.{read_term}
use Rattle.jql_syntax.specs.declared.query.Value.{Value}
use Rattle.jql_syntax.specs.declared.query.Value.TheVariants.{Text, Call}
use Rattle.jql_grammar.specs.declared.fault.FaultKind.{FaultKind}
use Rattle.jql_grammar.specs.declared.fault.FaultKind.TheVariants.{UnknownValue}
use Rattle.jql_grammar.specs.Steps.{some_or}
use Rattle.jql_grammar.specs.Calls.{date_called}

-- a date literal, a period or a function that stands for a date
abbrev pub date_in : Value → Result Term FaultKind
date_in (Text text) = some_or UnknownValue (read_term text)
date_in (Call call) = date_called call
