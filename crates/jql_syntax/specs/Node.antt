-- What the parts of a query's text stand for.
use Rattle.std.specs.Prelude.{ℕ, List, [], ◌∷◌, Option, Some, None}
use Rattle.jql_syntax.specs.Tree.{Tree, single, negation, all_of, any_of, Trees, no_trees, tree}
use Rattle.jql_syntax.specs.declared.query.Field.{Field}
use Rattle.jql_syntax.specs.declared.query.Field.TheVariants.{Named, Custom}
use Rattle.jql_syntax.specs.declared.query.Call.{Call}
use Rattle.jql_syntax.specs.declared.query.Value.{Value}
use Rattle.jql_syntax.specs.declared.query.Value.TheVariants.{Text, Call as CallValue}
use Rattle.jql_syntax.specs.declared.query.Item.{Item}
use Rattle.jql_syntax.specs.declared.query.Item.TheVariants.{Value as ValueItem, Empty}
use Rattle.jql_syntax.specs.declared.query.Members.{Members}
use Rattle.jql_syntax.specs.declared.query.Members.TheVariants.{Items, Call as CallMembers}
use Rattle.jql_syntax.specs.declared.query.Choice.{Choice}
use Rattle.jql_syntax.specs.declared.query.Choice.TheVariants.{One, Several}
use Rattle.jql_syntax.specs.declared.query.Predicate.{Predicate}
use Rattle.jql_syntax.specs.declared.query.Predicate.TheVariants.{After, Before, On, During, By}
use Rattle.jql_syntax.specs.declared.query.Aspect.{Aspect}
use Rattle.jql_syntax.specs.declared.query.Aspect.TheVariants.{Predicate as PredicateAspect, From, To}
use Rattle.jql_syntax.specs.declared.query.Comparison.{Comparison}
use Rattle.jql_syntax.specs.declared.query.Test.{Test}
use Rattle.jql_syntax.specs.declared.query.Test.TheVariants.{Equals, NotEquals, Compares, In, NotIn, IsEmpty, IsNotEmpty, Was, WasNot, WasIn, WasNotIn, Changed}
use Rattle.jql_syntax.specs.declared.query.Direction.{Direction}
use Rattle.jql_syntax.specs.declared.query.Direction.TheVariants.{Ascending, Descending}
use Rattle.jql_syntax.specs.declared.query.SortKey.{SortKey}

-- a part of a query
pub data Node : Type 0 where
  text : List ℕ → Node
  number : ℕ → Node
  a_field : Field → Node
  a_call : Call → Node
  a_value : Value → Node
  an_item : Item → Node
  members : Members → Node
  a_choice : Choice → Node
  a_predicate : Predicate → Node
  an_aspect : Aspect → Node
  a_test : Test → Node
  condition : Tree → Node
  a_direction : Direction → Node
  a_key : SortKey → Node
  a_query : Option Tree → List SortKey → Node

-- what a rule of the grammar makes of its parts
pub data Label : Type 0 where
  named_field numbered_field : Label
  called : Label
  text_value call_value : Label
  empty_item value_item : Label
  list_of_items list_of_call : Label
  one_item several_items : Label
  after before on_day during by_author : Label
  predicate_aspect from_choice to_choice : Label
  equals not_equals among not_among is_empty is_not_empty was was_not was_among was_not_among
      changed : Label
  compares : Comparison → Label
  field_test negated all any : Label
  ascending descending sort_key whole : Label

-- the items, predicates, aspects, conditions and sort keys among the parts
abbrev pub items_of : List Node → List Item
items_of [] = []
items_of (an_item x ∷ xs) = x ∷ items_of xs
items_of (_ ∷ xs) = items_of xs

abbrev pub predicates_of : List Node → List Predicate
predicates_of [] = []
predicates_of (a_predicate x ∷ xs) = x ∷ predicates_of xs
predicates_of (_ ∷ xs) = predicates_of xs

abbrev pub aspects_of : List Node → List Aspect
aspects_of [] = []
aspects_of (an_aspect x ∷ xs) = x ∷ aspects_of xs
aspects_of (_ ∷ xs) = aspects_of xs

abbrev pub conditions_of : List Node → Trees
conditions_of [] = no_trees
conditions_of (condition x ∷ xs) = tree x (conditions_of xs)
conditions_of (_ ∷ xs) = conditions_of xs

abbrev pub keys_of : List Node → List SortKey
keys_of [] = []
keys_of (a_key x ∷ xs) = x ∷ keys_of xs
keys_of (_ ∷ xs) = keys_of xs

-- one alone stands for itself
abbrev pub one_or : (Trees → Tree) → Trees → Tree
one_or f no_trees = f no_trees
one_or f (tree x no_trees) = x
one_or f (tree x (tree y ys)) = f (tree x (tree y ys))

abbrev pub made : Label → List Node → List Node
made named_field (text w ∷ []) = a_field (Named w) ∷ []
made numbered_field (number n ∷ []) = a_field (Custom n) ∷ []
made called (text w ∷ []) = a_call (record { name = w; argument = None }) ∷ []
made called (text w ∷ text a ∷ []) = a_call (record { name = w; argument = Some a }) ∷ []
made text_value (text w ∷ []) = a_value (Text w) ∷ []
made call_value (a_call c ∷ []) = a_value (CallValue c) ∷ []
made empty_item [] = an_item Empty ∷ []
made value_item (a_value v ∷ []) = an_item (ValueItem v) ∷ []
made list_of_items xs = members (Items (items_of xs)) ∷ []
made list_of_call (a_call c ∷ []) = members (CallMembers c) ∷ []
made one_item (an_item x ∷ []) = a_choice (One x) ∷ []
made several_items xs = a_choice (Several (items_of xs)) ∷ []
made after (a_value v ∷ []) = a_predicate (After v) ∷ []
made before (a_value v ∷ []) = a_predicate (Before v) ∷ []
made on_day (a_value v ∷ []) = a_predicate (On v) ∷ []
made during (a_value v ∷ a_value w ∷ []) = a_predicate (During v w) ∷ []
made by_author (a_choice c ∷ []) = a_predicate (By c) ∷ []
made predicate_aspect (a_predicate p ∷ []) = an_aspect (PredicateAspect p) ∷ []
made from_choice (a_choice c ∷ []) = an_aspect (From c) ∷ []
made to_choice (a_choice c ∷ []) = an_aspect (To c) ∷ []
made equals (an_item x ∷ []) = a_test (Equals x) ∷ []
made not_equals (an_item x ∷ []) = a_test (NotEquals x) ∷ []
made (compares c) (a_value v ∷ []) = a_test (Compares c v) ∷ []
made among (members m ∷ []) = a_test (In m) ∷ []
made not_among (members m ∷ []) = a_test (NotIn m) ∷ []
made is_empty [] = a_test IsEmpty ∷ []
made is_not_empty [] = a_test IsNotEmpty ∷ []
made was (an_item x ∷ xs) = a_test (Was x (predicates_of xs)) ∷ []
made was_not (an_item x ∷ xs) = a_test (WasNot x (predicates_of xs)) ∷ []
made was_among (members m ∷ xs) = a_test (WasIn m (predicates_of xs)) ∷ []
made was_not_among (members m ∷ xs) = a_test (WasNotIn m (predicates_of xs)) ∷ []
made changed xs = a_test (Changed (aspects_of xs)) ∷ []
made field_test (a_field f ∷ a_test x ∷ []) =
    condition (single (record { field = f; test = x })) ∷ []
made negated (condition x ∷ []) = condition (negation x) ∷ []
made all xs = condition (one_or all_of (conditions_of xs)) ∷ []
made any xs = condition (one_or any_of (conditions_of xs)) ∷ []
made ascending [] = a_direction Ascending ∷ []
made descending [] = a_direction Descending ∷ []
made sort_key (a_field f ∷ []) = a_key (record { field = f; direction = Ascending }) ∷ []
made sort_key (a_field f ∷ a_direction d ∷ []) = a_key (record { field = f; direction = d }) ∷ []
made whole (condition x ∷ xs) = a_query (Some x) (keys_of xs) ∷ []
made whole xs = a_query None (keys_of xs) ∷ []
made _ xs = []
