-- Two contexts that differ only in sprints other than the issue's are the same to a query.
use Rattle.std.proofs.Common.{◌≡◌, ℕ, ◌+◌, false, not, ◌||◌, ◌&&◌, ◌==◌, List, [], length, refl, Option, Some, None, pos}
use Rattle.std.specs.Prelude.{unwrap_or, int_lt, int_le}
use Rattle.std.specs.List.{list_any, list_all}
use Rattle.std.specs.Option.{option_map_or}
use Rattle.std.specs.Ordering.{int_cmp, int_eq, is_some_and}
use Rattle.field_values.specs.declared.numbers.FieldNo.{FieldNo}
use Rattle.field_values.specs.declared.numbers.UserNo.{UserNo}
use Rattle.field_values.specs.declared.value.Value.{Value}
use Rattle.change_history.specs.declared.entry.Entry.{Entry}
use Rattle.change_history.specs.History.{History, present, updated}
use Rattle.change_history.specs.Span.{SpanOf, span_of, entries_of}
use Rattle.relative_dates.specs.Calendar.{midnight, local_day}
use Rattle.relative_dates.specs.Term.{second}
use Rattle.jql_bound.specs.declared.context.Phase.{Phase}
use Rattle.jql_bound.specs.declared.operand.Operand.{Operand}
use Rattle.jql_bound.specs.declared.leaf.Subject.{Subject}
use Rattle.jql_bound.specs.declared.leaf.Operator.{Operator}
use Rattle.jql_bound.specs.declared.past.PastPredicate.{PastPredicate}
use Rattle.jql_bound.specs.declared.past.Endpoint.{Endpoint}
use Rattle.jql_bound.specs.declared.past.PastTest.{PastTest}
use Rattle.jql_bound.specs.Condition.{Condition, now, past, all_of, any_of, Conditions, no_conditions, condition}
use Rattle.jql_meaning.specs.Surroundings.{Surroundings, numbered, phase_of, is_in_phase}
use Rattle.jql_meaning.specs.Naming.{names, names_user, some_value, has_named, is_same}
use Rattle.jql_meaning.specs.Comparison.{date_passes, sprint_passes, equals_value, equals_moment, equals, value_order, moment_order, order, stands}
use Rattle.jql_meaning.specs.Present.{holds_now, operator_holds, lacks_value}
use Rattle.jql_meaning.specs.Moments.{some_from, some_moment}
use Rattle.jql_meaning.specs.Windows.{is_within, is_in_windows, is_by, is_by_each}
use Rattle.jql_meaning.specs.Past.{holds_past, was, changed, span_answers, loses, endpoint_answers, entry_answers, test_holds}
use Rattle.jql_meaning.specs.Truth.{holds, all_hold, some_holds, query_holds}
use Rattle.jql_meaning.specs.Sprints.{DifferInOtherSprints}

module _ (one other : Surroundings) (h : History) (d : DifferInOtherSprints one other h) where
  same_user : (operand : Operand) (user : UserNo) → names_user one operand user ≡ names_user other operand user
  same_user (Operand.MembersOf group) user = λ i. list_any (λ member. member.0 == user.0) (unwrap_or (numbered (d.members i) group.0) [])
  same_user operand user = refl

  same_names : (operand : Operand) (v : Value) → names one operand v ≡ names other operand v
  same_names operand (Value.User user) = same_user operand user
  same_names operand v = refl

  same_phase : (phase : Phase) (field : FieldNo) (v : Value) → present h field ≡ v → sprint_passes (λ sprint. is_in_phase phase (phase_of one sprint)) v ≡ sprint_passes (λ sprint. is_in_phase phase (phase_of other sprint)) v
  same_phase phase field (Value.Sprint sprint) is = λ i. is_in_phase phase (d.own field sprint is i)
  same_phase phase field v is = refl

  same_equals_value : (t : ℕ) (field : FieldNo) (operand : Operand) → equals_value one t (present h field) operand ≡ equals_value other t (present h field) operand
  same_equals_value t field (Operand.Date date) = λ i. date_passes (λ day. int_eq (midnight (d.calendar i).zone day.0) (second (d.calendar i) date (pos t))) (present h field)
  same_equals_value t field (Operand.SprintsIn phase) = same_phase phase field (present h field) refl
  same_equals_value t field operand = λ i. some_value (λ v. same_names operand v i) (present h field)

  same_equals_moment : (t moment : ℕ) (operand : Operand) → equals_moment one t moment operand ≡ equals_moment other t moment operand
  same_equals_moment t moment (Operand.Date date) = λ i. int_eq (pos moment) (second (d.calendar i) date (pos t))
  same_equals_moment t moment operand = refl

  same_equals : (t : ℕ) (subject : Subject) (operand : Operand) → equals one h t subject operand ≡ equals other h t subject operand
  same_equals t (Subject.Field field) operand = same_equals_value t field operand
  same_equals t Subject.Project operand = refl
  same_equals t Subject.Key operand = refl
  same_equals t Subject.Created operand = same_equals_moment t h.at operand
  same_equals t Subject.Updated operand = same_equals_moment t (updated h) operand

  same_value_order : (t : ℕ) (v : Value) (operand : Operand) → value_order one t v operand ≡ value_order other t v operand
  same_value_order t (Value.Date day) (Operand.Date date) = λ i. Some (int_cmp (midnight (d.calendar i).zone day.0) (second (d.calendar i) date (pos t)))
  same_value_order t v operand = refl

  same_moment_order : (t moment : ℕ) (operand : Operand) → moment_order one t moment operand ≡ moment_order other t moment operand
  same_moment_order t moment (Operand.Date date) = λ i. Some (int_cmp (pos moment) (second (d.calendar i) date (pos t)))
  same_moment_order t moment operand = refl

  same_order : (t : ℕ) (subject : Subject) (operand : Operand) → order one h t subject operand ≡ order other h t subject operand
  same_order t (Subject.Field field) operand = same_value_order t (present h field) operand
  same_order t Subject.Project operand = refl
  same_order t Subject.Key operand = refl
  same_order t Subject.Created operand = same_moment_order t h.at operand
  same_order t Subject.Updated operand = same_moment_order t (updated h) operand

  same_operator : (t : ℕ) (subject : Subject) (operator : Operator) → operator_holds one h t subject operator ≡ operator_holds other h t subject operator
  same_operator t subject (Operator.In operands) = λ i. list_any (λ operand. same_equals t subject operand i) operands
  same_operator t subject (Operator.NotIn operands) = λ i. not (lacks_value h subject) && not (list_any (λ operand. same_equals t subject operand i) operands)
  same_operator t subject (Operator.Compares inequality operand) = λ i. is_some_and (stands inequality) (same_order t subject operand i)
  same_operator t subject operator = refl

  same_within : (t : ℕ) (predicate : PastPredicate) (moment : ℕ) → is_within one t predicate moment ≡ is_within other t predicate moment
  same_within t (PastPredicate.After date) moment = λ i. int_lt (second (d.calendar i) date (pos t)) (pos moment)
  same_within t (PastPredicate.Before date) moment = λ i. int_lt (pos moment) (second (d.calendar i) date (pos t))
  same_within t (PastPredicate.On date) moment = λ i. int_eq (local_day (d.calendar i).zone (pos moment)) (local_day (d.calendar i).zone (second (d.calendar i) date (pos t)))
  same_within t (PastPredicate.During from to) moment = λ i. int_le (second (d.calendar i) from (pos t)) (pos moment) && int_le (pos moment) (second (d.calendar i) to (pos t))
  same_within t (PastPredicate.By users) moment = refl

  same_in_windows : (t : ℕ) (predicates : List PastPredicate) (moment : ℕ) → is_in_windows one t predicates moment ≡ is_in_windows other t predicates moment
  same_in_windows t predicates moment = λ i. list_all (λ predicate. same_within t predicate moment i) predicates

  same_by : (predicate : PastPredicate) (author : UserNo) → is_by one predicate author ≡ is_by other predicate author
  same_by (PastPredicate.By users) author = λ i. list_any (λ operand. same_names operand (Value.User author) i) users
  same_by predicate author = refl

  same_by_each : (predicates : List PastPredicate) (author : UserNo) → is_by_each one predicates author ≡ is_by_each other predicates author
  same_by_each predicates author = λ i. list_all (λ predicate. same_by predicate author i) predicates

  same_has_named : (operands : List Operand) (v : Value) → has_named one operands v ≡ has_named other operands v
  same_has_named operands v = λ i. list_any (λ operand. some_value (λ w. same_names operand w i) v) operands

  same_span : (t : ℕ) (operands : List Operand) (predicates : List PastPredicate) (span : SpanOf) → span_answers one t operands predicates span ≡ span_answers other t operands predicates span
  same_span t operands predicates span = λ i.
      same_has_named operands span.value i && same_by_each predicates span.author i
      && some_moment (λ moment. same_in_windows t predicates moment i) span t

  same_was : (t : ℕ) (field : FieldNo) (operands : List Operand) (predicates : List PastPredicate) → was one h t field operands predicates ≡ was other h t field operands predicates
  unfolding was
  same_was t field operands predicates = λ i. some_from (λ k. option_map_or (λ span. same_span t operands predicates span i) (span_of h field k) false) (length (entries_of h.entries field) + 1) 0

  same_loses : (operands : List Operand) (from to : Value) → loses one operands from to ≡ loses other operands from to
  same_loses operands from to = λ i. list_any (λ operand. some_value (λ v. same_names operand v i && not (some_value (is_same v) to)) from) operands

  same_endpoint : (entry : Entry) (endpoint : Endpoint) → endpoint_answers one entry endpoint ≡ endpoint_answers other entry endpoint
  same_endpoint entry (Endpoint.From operands) = same_loses operands entry.from entry.to
  same_endpoint entry (Endpoint.To operands) = same_loses operands entry.to entry.from

  same_entry : (t : ℕ) (endpoints : List Endpoint) (predicates : List PastPredicate) (entry : Entry) → entry_answers one t endpoints predicates entry ≡ entry_answers other t endpoints predicates entry
  same_entry t endpoints predicates entry = λ i.
      same_in_windows t predicates entry.at i && same_by_each predicates entry.author i
      && list_all (λ endpoint. same_endpoint entry endpoint i) endpoints

  same_changed : (t : ℕ) (field : FieldNo) (endpoints : List Endpoint) (predicates : List PastPredicate) → changed one h t field endpoints predicates ≡ changed other h t field endpoints predicates
  unfolding changed
  same_changed t field endpoints predicates = λ i. list_any (λ entry. same_entry t endpoints predicates entry i) (entries_of h.entries field)

  same_test : (t : ℕ) (field : FieldNo) (predicates : List PastPredicate) (test : PastTest) → test_holds one h t field predicates test ≡ test_holds other h t field predicates test
  same_test t field predicates (PastTest.Was operands) = same_was t field operands predicates
  same_test t field predicates (PastTest.WasNot operands) = λ i. not (same_was t field operands predicates i)
  same_test t field predicates (PastTest.Changed endpoints) = same_changed t field endpoints predicates
  same_test t field predicates (PastTest.NotChanged endpoints) = λ i. not (same_changed t field endpoints predicates i)

mutual
  unfolding holds holds_now holds_past

  same_holds : (one other : Surroundings) (h : History) (d : DifferInOtherSprints one other h) (t : ℕ) (c : Condition) → holds one h t c ≡ holds other h t c
  same_holds one other h d t (now leaf) = same_operator one other h d t leaf.subject leaf.operator
  same_holds one other h d t (past leaf) = same_test one other h d t leaf.field leaf.predicates leaf.test
  same_holds one other h d t (all_of cs) = same_all one other h d t cs
  same_holds one other h d t (any_of cs) = same_some one other h d t cs

  same_all : (one other : Surroundings) (h : History) (d : DifferInOtherSprints one other h) (t : ℕ) (cs : Conditions) → all_hold one h t cs ≡ all_hold other h t cs
  same_all one other h d t no_conditions = refl
  same_all one other h d t (condition c cs) = λ i. same_holds one other h d t c i && same_all one other h d t cs i

  same_some : (one other : Surroundings) (h : History) (d : DifferInOtherSprints one other h) (t : ℕ) (cs : Conditions) → some_holds one h t cs ≡ some_holds other h t cs
  same_some one other h d t no_conditions = refl
  same_some one other h d t (condition c cs) = λ i. same_holds one other h d t c i || same_some one other h d t cs i

pub only_own_sprint_matters : (one other : Surroundings) (h : History) (t : ℕ) (query : Option Condition) → DifferInOtherSprints one other h → query_holds one h t query ≡ query_holds other h t query
unfolding query_holds
only_own_sprint_matters one other h t None d = refl
only_own_sprint_matters one other h t (Some c) d = same_holds one other h d t c
