-- Worked values, computed from the definitions: numbers that are given again, names that each user has for itself, and queries that ask
-- for the members of a group.
use Rattle.std.specs.Prelude.{ℕ, ◌≡◌, true, false, List, [], ◌∷◌, Some, None, codes, refl}
use Rattle.field_values.specs.declared.numbers.FieldNo.{FieldNo}
use Rattle.field_values.specs.declared.numbers.UserNo.{UserNo}
use Rattle.jql_bound.specs.declared.operand.Operand.{Operand}
use Rattle.jql_bound.specs.declared.leaf.Subject.{Subject}
use Rattle.jql_bound.specs.declared.leaf.Operator.{Operator}
use Rattle.jql_bound.specs.declared.past.PastPredicate.{PastPredicate}
use Rattle.jql_bound.specs.declared.past.PastTest.{PastTest}
use Rattle.jql_bound.specs.Condition.{Condition, now, past, all_of, no_conditions, condition}
use Rattle.tracker_filters.specs.declared.filter.Filter.{Filter}
use Rattle.rising_numbers.specs.ByNumber.{by_number, put_by_number, without_number, free_from}
use Rattle.tracker_filters.specs.Saved.{number, by_owner}
use Rattle.tracker_filters.specs.Members.{condition_asks, asks_members, members_cost}

abbrev anna : UserNo
anna = record { 0 = 0 }

abbrev bo : UserNo
bo = record { 0 = 1 }

-- a filter of every issue
abbrev filter_of : ℕ → UserNo → List ℕ → Filter
filter_of n owner name =
    record {
      no = record { 0 = n };
      owner = owner;
      name = name;
      text = [];
      query = record { cond = None; order = record { keys = [] } };
    }

abbrev first : List Filter
first = filter_of 1 anna (codes "a") ∷ filter_of 2 anna (codes "b") ∷ []

-- the second filter comes behind the first
pub second_number : free_from number 1 (filter_of 1 anna (codes "a") ∷ []) ≡ 2
second_number = refl

pub second_behind : put_by_number number (filter_of 2 anna (codes "b"))
    (filter_of 1 anna (codes "a") ∷ []) ≡ first
second_behind = refl

-- where the first one is dropped its number is given again
pub number_again : free_from number 1 (without_number number 1 first) ≡ 1
number_again = refl

abbrev later : List Filter
later = put_by_number number (filter_of 1 anna (codes "c")) (without_number number 1 first)

pub in_front : later ≡ filter_of 1 anna (codes "c") ∷ filter_of 2 anna (codes "b") ∷ []
in_front = refl

-- the name is Anna's, and not yet Bo's
pub of_anna : by_owner anna (codes "b") later ≡ Some (filter_of 2 anna (codes "b"))
of_anna = refl

pub not_of_bo : by_owner bo (codes "b") later ≡ None
not_of_bo = refl

pub third_number : free_from number 1 later ≡ 3
third_number = refl

-- by its number it is found at its place
pub found : by_number number 2 later ≡ Some (filter_of 2 anna (codes "b"))
found = refl

-- ---- who asks for the members of a group

abbrev assignee : FieldNo
assignee = record { 0 = 5 }

abbrev team : Operand
team = Operand.MembersOf (record { 0 = 1 })

abbrev in_list : List Operand → Condition
in_list operands =
    now (record { subject = Subject.Field assignee; operator = Operator.In operands })

abbrev changed_by : List Operand → Condition
changed_by users =
    past (record {
      field = assignee;
      test = PastTest.Changed [];
      predicates = PastPredicate.By users
          ∷ [];
    })

-- one item of a list, or one author, is enough
pub in_the_team : condition_asks (in_list (Operand.User anna ∷ team ∷ [])) ≡ true
unfolding condition_asks
in_the_team = refl

pub by_the_team : condition_asks
    (all_of (condition (in_list (Operand.User bo ∷ []))
    (condition (changed_by (team ∷ [])) no_conditions))) ≡ true
unfolding condition_asks
by_the_team = refl

-- users by name ask for none
pub by_anna : condition_asks (all_of
    (condition (in_list (Operand.User bo ∷ []))
    (condition (changed_by (Operand.User anna ∷ [])) no_conditions))) ≡ false
unfolding condition_asks
by_anna = refl

-- nor does a filter of every issue, so that other members cost nothing
pub for_nothing : members_cost first 7 ≡ 0
unfolding asks_members
for_nothing = refl
