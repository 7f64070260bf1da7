-- The tokens of the one spelling of a query, part by part. Each stands before the tokens that follow it.
use Rattle.std.specs.Prelude.{ℕ, zero, suc, Bool, not, ◌&&◌, if◌then◌else◌, List, [], ◌∷◌, Option, Some, None}
use Rattle.std.specs.List.{list_all}
use Rattle.std.specs.Option.{is_some}
use Rattle.std.specs.Char.{is_ascii_alphabetic, is_ascii_alphanumeric}
use Rattle.jql_syntax.specs.Tokens.{begins_with, keyword_of}
use Rattle.jql_syntax.specs.Tree.{Tree, single, negation, all_of, any_of, Trees, no_trees, tree}
use Rattle.jql_syntax.specs.declared.token.Mark.{Mark}
use Rattle.jql_syntax.specs.declared.token.Mark.TheVariants.{Equals, NotEquals, Greater, GreaterOrEqual, Less, LessOrEqual, Contains, Lacks, Open, Close, Comma, And, Or, Not, Empty, In, Is, Was, Changed, Order, By, Ascending, Descending, After, Before, On, During, From, To}
use Rattle.jql_syntax.specs.declared.token.Token.{Token}
use Rattle.jql_syntax.specs.declared.token.Token.TheVariants.{Marked, Word, Name, Quoted, Custom}
use Rattle.jql_syntax.specs.declared.query.Field.{Field}
use Rattle.jql_syntax.specs.declared.query.Field.TheVariants.{Named, Custom as CustomField}
use Rattle.jql_syntax.specs.declared.query.Call.{Call}
use Rattle.jql_syntax.specs.declared.query.Value.{Value}
use Rattle.jql_syntax.specs.declared.query.Value.TheVariants.{Text, Call as CallValue}
use Rattle.jql_syntax.specs.declared.query.Item.{Item}
use Rattle.jql_syntax.specs.declared.query.Item.TheVariants.{Value as ValueItem, Empty as EmptyItem}
use Rattle.jql_syntax.specs.declared.query.Members.{Members}
use Rattle.jql_syntax.specs.declared.query.Members.TheVariants.{Items, Call as CallMembers}
use Rattle.jql_syntax.specs.declared.query.Choice.{Choice}
use Rattle.jql_syntax.specs.declared.query.Choice.TheVariants.{One, Several}
use Rattle.jql_syntax.specs.declared.query.Predicate.{Predicate}
use Rattle.jql_syntax.specs.declared.query.Predicate.TheVariants.{After as IsAfter, Before as IsBefore, On as IsOn, During as IsDuring, By as IsBy}
use Rattle.jql_syntax.specs.declared.query.Aspect.{Aspect}
use Rattle.jql_syntax.specs.declared.query.Aspect.TheVariants.{Predicate as PredicateAspect, From as IsFrom, To as IsTo}
use Rattle.jql_syntax.specs.declared.query.Comparison.{Comparison}
use Rattle.jql_syntax.specs.declared.query.Comparison.TheVariants.{Greater as IsGreater, GreaterOrEqual as IsGreaterOrEqual, Less as IsLess, LessOrEqual as IsLessOrEqual, Contains as DoesContain, Lacks as DoesLack}
use Rattle.jql_syntax.specs.declared.query.Test.{Test}
use Rattle.jql_syntax.specs.declared.query.Test.TheVariants.{Equals as IsEqual, NotEquals as IsNotEqual, Compares, In as IsIn, NotIn as IsNotIn, IsEmpty, IsNotEmpty, Was as HasBeen, WasNot as HasNotBeen, WasIn as HasBeenIn, WasNotIn as HasNotBeenIn, Changed as HasChanged}
use Rattle.jql_syntax.specs.declared.query.Leaf.{Leaf}
use Rattle.jql_syntax.specs.declared.query.Direction.{Direction}
use Rattle.jql_syntax.specs.declared.query.Direction.TheVariants.{Ascending as IsAscending, Descending as IsDescending}
use Rattle.jql_syntax.specs.declared.query.SortKey.{SortKey}

-- It begins with an ASCII letter, has ASCII letters and digits alone, and is no keyword. Such a name of a field stands without quotes.
abbrev pub is_bare : List ℕ → Bool
is_bare w =
    begins_with is_ascii_alphabetic w
    && (list_all is_ascii_alphanumeric w && not (is_some (keyword_of w)))

abbrev pub name_token : List ℕ → Token
name_token w = if is_bare w then Word w else Quoted w

abbrev pub field_text : Field → List Token → List Token
field_text (Named w) rest = name_token w ∷ rest
field_text (CustomField n) rest = Custom n ∷ rest

-- an argument is quoted
abbrev pub argument_text : Option (List ℕ) → List Token → List Token
argument_text None rest = rest
argument_text (Some w) rest = Quoted w ∷ rest

abbrev pub call_text : Call → List Token → List Token
call_text c rest = Name c.name ∷ Marked Open ∷ argument_text c.argument (Marked Close ∷ rest)

-- so is every other value
abbrev pub value_text : Value → List Token → List Token
value_text (Text w) rest = Quoted w ∷ rest
value_text (CallValue c) rest = call_text c rest

abbrev pub item_text : Item → List Token → List Token
item_text (ValueItem v) rest = value_text v rest
item_text EmptyItem rest = Marked Empty ∷ rest

-- one after another
abbrev pub each : {A : Type 0} → (A → List Token → List Token) → List A → List Token → List Token
each text [] rest = rest
each text (x ∷ xs) rest = text x (each text xs rest)

-- behind the sign or keyword
abbrev pub keyed : {A : Type 0} → Mark → (A → List Token → List Token) → A → List Token → List Token
keyed m text x rest = Marked m ∷ text x rest

-- with commas between them
abbrev pub separated : {A : Type 0} → (A → List Token → List Token) → List A → List Token
    → List Token
separated text [] rest = rest
separated text (x ∷ xs) rest = text x (each (keyed Comma text) xs rest)

-- in parentheses
abbrev pub listed : List Item → List Token → List Token
listed xs rest = Marked Open ∷ separated item_text xs (Marked Close ∷ rest)

abbrev pub members_text : Members → List Token → List Token
members_text (Items xs) rest = listed xs rest
members_text (CallMembers c) rest = call_text c rest

abbrev pub choice_text : Choice → List Token → List Token
choice_text (One x) rest = item_text x rest
choice_text (Several xs) rest = listed xs rest

abbrev pub predicate_text : Predicate → List Token → List Token
predicate_text (IsAfter v) rest = Marked After ∷ value_text v rest
predicate_text (IsBefore v) rest = Marked Before ∷ value_text v rest
predicate_text (IsOn v) rest = Marked On ∷ value_text v rest
predicate_text (IsDuring v w) rest =
    Marked During ∷ Marked Open ∷ value_text v (Marked Comma ∷ value_text w (Marked Close ∷ rest))
predicate_text (IsBy c) rest = Marked By ∷ choice_text c rest

abbrev pub aspect_text : Aspect → List Token → List Token
aspect_text (PredicateAspect p) rest = predicate_text p rest
aspect_text (IsFrom c) rest = Marked From ∷ choice_text c rest
aspect_text (IsTo c) rest = Marked To ∷ choice_text c rest

abbrev pub comparison_mark : Comparison → Mark
comparison_mark IsGreater = Greater
comparison_mark IsGreaterOrEqual = GreaterOrEqual
comparison_mark IsLess = Less
comparison_mark IsLessOrEqual = LessOrEqual
comparison_mark DoesContain = Contains
comparison_mark DoesLack = Lacks

-- what is asked of a field
abbrev pub test_text : Test → List Token → List Token
test_text (IsEqual x) rest = Marked Equals ∷ item_text x rest
test_text (IsNotEqual x) rest = Marked NotEquals ∷ item_text x rest
test_text (Compares c v) rest = Marked (comparison_mark c) ∷ value_text v rest
test_text (IsIn m) rest = Marked In ∷ members_text m rest
test_text (IsNotIn m) rest = Marked Not ∷ Marked In ∷ members_text m rest
test_text IsEmpty rest = Marked Is ∷ Marked Empty ∷ rest
test_text IsNotEmpty rest = Marked Is ∷ Marked Not ∷ Marked Empty ∷ rest
test_text (HasBeen x ps) rest = Marked Was ∷ item_text x (each predicate_text ps rest)
test_text (HasNotBeen x ps) rest =
    Marked Was ∷ Marked Not ∷ item_text x (each predicate_text ps rest)
test_text (HasBeenIn m ps) rest =
    Marked Was ∷ Marked In ∷ members_text m (each predicate_text ps rest)
test_text (HasNotBeenIn m ps) rest =
    Marked Was ∷ Marked Not ∷ Marked In ∷ members_text m (each predicate_text ps rest)
test_text (HasChanged xs) rest = Marked Changed ∷ each aspect_text xs rest

abbrev pub leaf_text : Leaf → List Token → List Token
leaf_text l rest = field_text l.field (test_text l.test rest)

abbrev mutual
  -- Inside AND and NOT an AND and an OR stand in parentheses.
  pub unit_text : Tree → List Token → List Token
  unit_text (single l) rest = leaf_text l rest
  unit_text (negation x) rest = Marked Not ∷ unit_text x rest
  unit_text (all_of xs) rest = Marked Open ∷ units_text xs (Marked Close ∷ rest)
  unit_text (any_of xs) rest = Marked Open ∷ conjunctions_text xs (Marked Close ∷ rest)

  -- Inside OR an OR does.
  pub conjunction_text : Tree → List Token → List Token
  conjunction_text (single l) rest = leaf_text l rest
  conjunction_text (negation x) rest = Marked Not ∷ unit_text x rest
  conjunction_text (all_of xs) rest = units_text xs rest
  conjunction_text (any_of xs) rest = Marked Open ∷ conjunctions_text xs (Marked Close ∷ rest)

  pub units_text : Trees → List Token → List Token
  units_text no_trees rest = rest
  units_text (tree x xs) rest = unit_text x (more_units_text xs rest)

  pub more_units_text : Trees → List Token → List Token
  more_units_text no_trees rest = rest
  more_units_text (tree x xs) rest = Marked And ∷ unit_text x (more_units_text xs rest)

  pub conjunctions_text : Trees → List Token → List Token
  conjunctions_text no_trees rest = rest
  conjunctions_text (tree x xs) rest = conjunction_text x (more_conjunctions_text xs rest)

  pub more_conjunctions_text : Trees → List Token → List Token
  more_conjunctions_text no_trees rest = rest
  more_conjunctions_text (tree x xs) rest = Marked Or
      ∷ conjunction_text x (more_conjunctions_text xs rest)

-- Alone neither does.
abbrev pub expression_text : Tree → List Token → List Token
expression_text (any_of xs) rest = conjunctions_text xs rest
expression_text x rest = conjunction_text x rest

abbrev pub condition_text : Option Tree → List Token → List Token
condition_text None rest = rest
condition_text (Some x) rest = expression_text x rest

abbrev pub direction_mark : Direction → Mark
direction_mark IsAscending = Ascending
direction_mark IsDescending = Descending

abbrev pub key_text : SortKey → List Token → List Token
key_text k rest = field_text k.field (Marked (direction_mark k.direction) ∷ rest)

abbrev pub order_text : List SortKey → List Token → List Token
order_text [] rest = rest
order_text (k ∷ ks) rest = Marked Order ∷ Marked By ∷ separated key_text (k ∷ ks) rest

-- the tokens of a query's spelling
abbrev pub printed : Option Tree → List SortKey → List Token
printed q keys = condition_text q (order_text keys [])

-- the keyword before the condition with this index in a list
abbrev pub between : ℕ → Mark → List Token → List Token
between zero m rest = rest
between (suc i) m rest = Marked m ∷ rest
