-- Filters that ask for the members of groups, and their cells as groups come to other members.
use Rattle.std.specs.Prelude.{ℕ, ◌≡◌, ◌+◌, ◌||◌, Bool, true, false, List, slice_get, Option, Some, None, sum_by, if◌then◌else◌}
use Rattle.std.specs.List.{list_any}
use Rattle.change_history.specs.History.{History}
use Rattle.jql_bound.specs.declared.operand.Operand.{Operand}
use Rattle.jql_bound.specs.declared.leaf.Operator.{Operator}
use Rattle.jql_bound.specs.declared.past.Endpoint.{Endpoint}
use Rattle.jql_bound.specs.declared.past.PastPredicate.{PastPredicate}
use Rattle.jql_bound.specs.declared.past.PastTest.{PastTest}
use Rattle.jql_bound.specs.declared.past.PastLeaf.{PastLeaf}
use Rattle.jql_bound.specs.Condition.{Condition, now, past, all_of, any_of, Conditions, no_conditions, condition}
use Rattle.jql_meaning.specs.Surroundings.{Surroundings}
use Rattle.filter_views.specs.Cell.{Views, cell_of}
use Rattle.filter_views.specs.Views.{shape}
use Rattle.tracker_filters.specs.declared.filter.Filter.{Filter}
use Rattle.rising_numbers.specs.ByNumber.{by_number}
use Rattle.tracker_filters.specs.Saved.{number, condition_of}
use Rattle.tracker_filters.specs.Watched.{CellIsRight}

-- what decides beside issues differs in the members of groups alone
pub record DifferInMembers (one other : Surroundings) : Type 0 where
  pub sprints : one.sprints ≡ other.sprints
  pub calendar : one.calendar ≡ other.calendar

-- the operand stands for the members of a group
abbrev pub is_of_members : Operand → Bool
is_of_members (Operand.MembersOf group) = true
is_of_members operand = false

-- one of the operands does
abbrev pub some_is_of_members : List Operand → Bool
some_is_of_members operands = list_any is_of_members operands

-- a present comparison asks for members
abbrev pub operator_asks : Operator → Bool
operator_asks (Operator.In operands) = some_is_of_members operands
operator_asks (Operator.NotIn operands) = some_is_of_members operands
operator_asks (Operator.Compares inequality operand) = is_of_members operand
operator_asks operator = false

-- so does a comparison with the past: in what it looks for, or in its authors
abbrev pub endpoint_asks : Endpoint → Bool
endpoint_asks (Endpoint.From operands) = some_is_of_members operands
endpoint_asks (Endpoint.To operands) = some_is_of_members operands

abbrev pub test_asks : PastTest → Bool
test_asks (PastTest.Was operands) = some_is_of_members operands
test_asks (PastTest.WasNot operands) = some_is_of_members operands
test_asks (PastTest.Changed endpoints) = list_any endpoint_asks endpoints
test_asks (PastTest.NotChanged endpoints) = list_any endpoint_asks endpoints

abbrev pub predicate_asks : PastPredicate → Bool
predicate_asks (PastPredicate.By users) = some_is_of_members users
predicate_asks predicate = false

abbrev pub past_asks : PastLeaf → Bool
past_asks leaf = test_asks leaf.test || list_any predicate_asks leaf.predicates

-- one of a condition's comparisons does
unfoldable mutual
  pub condition_asks : Condition → Bool
  condition_asks (now leaf) = operator_asks leaf.operator
  condition_asks (past leaf) = past_asks leaf
  condition_asks (all_of conditions) = one_asks conditions
  condition_asks (any_of conditions) = one_asks conditions

  pub one_asks : Conditions → Bool
  one_asks no_conditions = false
  one_asks (condition c cs) = condition_asks c || one_asks cs

-- a query without a condition asks for nobody
abbrev pub query_asks : Option Condition → Bool
query_asks None = false
query_asks (Some c) = condition_asks c

-- the filter asks for members
unfoldable pub asks_members : Filter → Bool
asks_members f = query_asks (condition_of f)

-- a filter that asks for members is asked of so many issues, and another one of none
abbrev pub asking_cost : ℕ → Filter → ℕ
asking_cost issues f = if asks_members f then issues else 0

abbrev pub members_cost : List Filter → ℕ → ℕ
members_cost filters issues = sum_by (asking_cost issues) filters

-- one filter's cells are right, and no other filter's cell changes
pub record SettlesRow (around : Surroundings) (moment : ℕ) (f : Filter) (hs : List History)
    (old new : Views) : Type 0 where
  pub right : (place : ℕ) (h : History) → slice_get hs place ≡ Some h
      → CellIsRight around moment f h (cell_of new f.no.0 (place + 1))
  pub others : (n j : ℕ) → (n ≡ f.no.0 → ⊥) → cell_of new n j ≡ cell_of old n j
  pub same : shape new ≡ shape old

-- the cells of each filter that asks for members are right, and no other filter's cell changes
pub record SettlesMembers (around : Surroundings) (moment : ℕ) (fs : List Filter)
    (hs : List History) (old new : Views) : Type 0 where
  pub right : (n place : ℕ) (f : Filter) (h : History) → by_number number n fs ≡ Some f
      → slice_get hs place ≡ Some h →
      asks_members f ≡ true → CellIsRight around moment f h (cell_of new n (place + 1))
  pub others : (n j : ℕ) (f : Filter) → by_number number n fs ≡ Some f → asks_members f ≡ false
      → cell_of new n j ≡ cell_of old n j
  pub same : shape new ≡ shape old
