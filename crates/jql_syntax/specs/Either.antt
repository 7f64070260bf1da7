-- A text is a query, or has a first fault.
use Rattle.std.specs.Prelude.{ℕ, List, Option}
use Rattle.jql_syntax.specs.Tree.{Tree}
use Rattle.jql_syntax.specs.Fault.{IsQuery, FirstFault}
use Rattle.jql_syntax.specs.declared.token.Kind.{Kind}
use Rattle.jql_syntax.specs.declared.query.SortKey.{SortKey}

pub data QueryOrFault (text : List ℕ) : Type 0 where
  text_is : (q : Option Tree) (keys : List SortKey) → IsQuery text q keys → QueryOrFault text
  text_has : (place : ℕ) (kind : Kind) → FirstFault text place kind → QueryOrFault text
