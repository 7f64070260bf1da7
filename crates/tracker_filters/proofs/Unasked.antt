-- Surroundings that differ in members alone are the same to a query that asks for none.
use Rattle.std.proofs.Common.{◌≡◌, ℕ, ◌+◌, Bool, false, not, ◌||◌, ◌&&◌, List, [], ◌∷◌, length, refl, sym, ◌∙◌, Option, Some, None, pos}
use Rattle.std.specs.Prelude.{int_lt, int_le}
use Rattle.std.specs.List.{list_any, list_all}
use Rattle.std.specs.Option.{option_map_or}
use Rattle.std.specs.Ordering.{int_cmp, int_eq, is_some_and}
use Rattle.std.proofs.lemmas.Bool.{or_parts, false≢true}
use Rattle.field_values.specs.declared.numbers.FieldNo.{FieldNo}
use Rattle.field_values.specs.declared.numbers.UserNo.{UserNo}
use Rattle.field_values.specs.declared.value.Value.{Value}
use Rattle.change_history.specs.declared.entry.Entry.{Entry}
use Rattle.change_history.specs.History.{History, present, updated}
use Rattle.change_history.specs.Span.{SpanOf, span_of, entries_of}
use Rattle.relative_dates.specs.Calendar.{midnight, local_day}
use Rattle.relative_dates.specs.Term.{second}
use Rattle.jql_bound.specs.declared.operand.Operand.{Operand}
use Rattle.jql_bound.specs.declared.leaf.Subject.{Subject}
use Rattle.jql_bound.specs.declared.leaf.Operator.{Operator}
use Rattle.jql_bound.specs.declared.past.PastPredicate.{PastPredicate}
use Rattle.jql_bound.specs.declared.past.Endpoint.{Endpoint}
use Rattle.jql_bound.specs.declared.past.PastTest.{PastTest}
use Rattle.jql_bound.specs.declared.past.PastLeaf.{PastLeaf}
use Rattle.jql_bound.specs.Condition.{Condition, now, past, all_of, any_of, Conditions, no_conditions, condition}
use Rattle.jql_meaning.specs.Surroundings.{Surroundings, numbered, is_in_phase}
use Rattle.jql_meaning.specs.Naming.{names, names_user, some_value, has_named, is_same}
use Rattle.jql_meaning.specs.Comparison.{date_passes, sprint_passes, equals_value, equals_moment, equals, value_order, moment_order, order, stands}
use Rattle.jql_meaning.specs.Present.{holds_now, operator_holds, lacks_value}
use Rattle.jql_meaning.specs.Moments.{some_from, some_moment}
use Rattle.jql_meaning.specs.Windows.{is_within, is_in_windows, is_by, is_by_each}
use Rattle.jql_meaning.specs.Past.{holds_past, was, changed, span_answers, loses, endpoint_answers, entry_answers, test_holds}
use Rattle.jql_meaning.specs.Truth.{holds, all_hold, some_holds, query_holds}
use Rattle.jql_meaning.specs.Critical.{IsCriticalForQuery}
use Rattle.jql_meaning.specs.Ends.{Stays}
use Rattle.jql_meaning.proofs.Calendars.{critical_by_the_calendar}
use Rattle.jql_eval.specs.Right.{IsRight}
use Rattle.tracker_filters.specs.Members.{DifferInMembers, is_of_members, some_is_of_members, operator_asks, endpoint_asks, test_asks, predicate_asks, past_asks, condition_asks, one_asks, query_asks}

-- ---- lists of which nothing asks for members

any_same : {X : Type 0} (asks p q : X → Bool) → ((x : X) → asks x ≡ false → p x ≡ q x) → (xs : List X) → list_any asks xs ≡ false → list_any p xs ≡ list_any q xs
any_same asks p q same [] none = refl
any_same asks p q same (x ∷ xs) none =
    let parts = or_parts (asks x) (list_any asks xs) none in
    λ i. same x parts.0 i || any_same asks p q same xs parts.1 i

each_same : {X : Type 0} (asks p q : X → Bool) → ((x : X) → asks x ≡ false → p x ≡ q x) → (xs : List X) → list_any asks xs ≡ false → list_all p xs ≡ list_all q xs
each_same asks p q same [] none = refl
each_same asks p q same (x ∷ xs) none =
    let parts = or_parts (asks x) (list_any asks xs) none in
    λ i. same x parts.0 i && each_same asks p q same xs parts.1 i

module _ (one other : Surroundings) (h : History) (d : DifferInMembers one other) where
  -- ---- the present

  same_user : (operand : Operand) (user : UserNo) → is_of_members operand ≡ false → names_user one operand user ≡ names_user other operand user
  same_user (Operand.MembersOf group) user none = absurd (false≢true (sym none))
  same_user operand user none = refl

  same_names : (operand : Operand) (v : Value) → is_of_members operand ≡ false → names one operand v ≡ names other operand v
  same_names operand (Value.User user) none = same_user operand user none
  same_names operand v none = refl

  same_equals_value : (t : ℕ) (v : Value) (operand : Operand) → is_of_members operand ≡ false → equals_value one t v operand ≡ equals_value other t v operand
  same_equals_value t v (Operand.Date date) none = λ i. date_passes (λ day. int_eq (midnight (d.calendar i).zone day.0) (second (d.calendar i) date (pos t))) v
  same_equals_value t v (Operand.SprintsIn phase) none = λ i. sprint_passes (λ sprint. is_in_phase phase (numbered (d.sprints i) sprint.0)) v
  same_equals_value t v operand none = λ i. some_value (λ w. same_names operand w none i) v

  same_equals_moment : (t moment : ℕ) (operand : Operand) → equals_moment one t moment operand ≡ equals_moment other t moment operand
  same_equals_moment t moment (Operand.Date date) = λ i. int_eq (pos moment) (second (d.calendar i) date (pos t))
  same_equals_moment t moment operand = refl

  same_equals : (t : ℕ) (subject : Subject) (operand : Operand) → is_of_members operand ≡ false → equals one h t subject operand ≡ equals other h t subject operand
  same_equals t (Subject.Field field) operand none = same_equals_value t (present h field) operand none
  same_equals t Subject.Project operand none = refl
  same_equals t Subject.Key operand none = refl
  same_equals t Subject.Created operand none = same_equals_moment t h.at operand
  same_equals t Subject.Updated operand none = same_equals_moment t (updated h) operand

  same_value_order : (t : ℕ) (v : Value) (operand : Operand) → value_order one t v operand ≡ value_order other t v operand
  same_value_order t (Value.Date day) (Operand.Date date) = λ i. Some (int_cmp (midnight (d.calendar i).zone day.0) (second (d.calendar i) date (pos t)))
  same_value_order t v operand = refl

  same_moment_order : (t moment : ℕ) (operand : Operand) → moment_order one t moment operand ≡ moment_order other t moment operand
  same_moment_order t moment (Operand.Date date) = λ i. Some (int_cmp (pos moment) (second (d.calendar i) date (pos t)))
  same_moment_order t moment operand = refl

  same_order : (t : ℕ) (subject : Subject) (operand : Operand) → order one h t subject operand ≡ order other h t subject operand
  same_order t (Subject.Field field) operand = same_value_order t (present h field) operand
  same_order t Subject.Project operand = refl
  same_order t Subject.Key operand = refl
  same_order t Subject.Created operand = same_moment_order t h.at operand
  same_order t Subject.Updated operand = same_moment_order t (updated h) operand

  some_equals : (t : ℕ) (subject : Subject) (operands : List Operand) → some_is_of_members operands ≡ false
      → list_any (λ operand. equals one h t subject operand) operands ≡ list_any (λ operand. equals other h t subject operand) operands
  some_equals t subject operands none =
      any_same is_of_members (λ operand. equals one h t subject operand) (λ operand. equals other h t subject operand) (λ operand no. same_equals t subject operand no) operands none

  same_operator : (t : ℕ) (subject : Subject) (operator : Operator) → operator_asks operator ≡ false → operator_holds one h t subject operator ≡ operator_holds other h t subject operator
  same_operator t subject (Operator.In operands) none = some_equals t subject operands none
  same_operator t subject (Operator.NotIn operands) none = λ i. not (lacks_value h subject) && not (some_equals t subject operands none i)
  same_operator t subject (Operator.Compares inequality operand) none = λ i. is_some_and (stands inequality) (same_order t subject operand i)
  same_operator t subject operator none = refl

  -- ---- the past

  same_within : (t : ℕ) (predicate : PastPredicate) (moment : ℕ) → is_within one t predicate moment ≡ is_within other t predicate moment
  same_within t (PastPredicate.After date) moment = λ i. int_lt (second (d.calendar i) date (pos t)) (pos moment)
  same_within t (PastPredicate.Before date) moment = λ i. int_lt (pos moment) (second (d.calendar i) date (pos t))
  same_within t (PastPredicate.On date) moment = λ i. int_eq (local_day (d.calendar i).zone (pos moment)) (local_day (d.calendar i).zone (second (d.calendar i) date (pos t)))
  same_within t (PastPredicate.During from to) moment = λ i. int_le (second (d.calendar i) from (pos t)) (pos moment) && int_le (pos moment) (second (d.calendar i) to (pos t))
  same_within t (PastPredicate.By users) moment = refl

  same_in_windows : (t : ℕ) (predicates : List PastPredicate) (moment : ℕ) → is_in_windows one t predicates moment ≡ is_in_windows other t predicates moment
  same_in_windows t predicates moment = λ i. list_all (λ predicate. same_within t predicate moment i) predicates

  same_by : (author : UserNo) (predicate : PastPredicate) → predicate_asks predicate ≡ false → is_by one predicate author ≡ is_by other predicate author
  same_by author (PastPredicate.By users) none =
      any_same is_of_members (λ operand. names one operand (Value.User author)) (λ operand. names other operand (Value.User author)) (λ operand no. same_names operand (Value.User author) no) users none
  same_by author predicate none = refl

  same_by_each : (author : UserNo) (predicates : List PastPredicate) → list_any predicate_asks predicates ≡ false → is_by_each one predicates author ≡ is_by_each other predicates author
  same_by_each author predicates none =
      each_same predicate_asks (λ predicate. is_by one predicate author) (λ predicate. is_by other predicate author) (same_by author) predicates none

  same_has_named : (operands : List Operand) (v : Value) → some_is_of_members operands ≡ false → has_named one operands v ≡ has_named other operands v
  same_has_named operands v none =
      any_same is_of_members (λ operand. some_value (names one operand) v) (λ operand. some_value (names other operand) v) (λ operand no i. some_value (λ w. same_names operand w no i) v) operands none

  same_span : (t : ℕ) (operands : List Operand) (predicates : List PastPredicate) (span : SpanOf) → some_is_of_members operands ≡ false → list_any predicate_asks predicates ≡ false
      → span_answers one t operands predicates span ≡ span_answers other t operands predicates span
  same_span t operands predicates span none nobody = λ i.
      same_has_named operands span.value none i && same_by_each span.author predicates nobody i
      && some_moment (λ moment. same_in_windows t predicates moment i) span t

  same_was : (t : ℕ) (field : FieldNo) (operands : List Operand) (predicates : List PastPredicate) → some_is_of_members operands ≡ false → list_any predicate_asks predicates ≡ false
      → was one h t field operands predicates ≡ was other h t field operands predicates
  unfolding was
  same_was t field operands predicates none nobody = λ i.
      some_from (λ k. option_map_or (λ span. same_span t operands predicates span none nobody i) (span_of h field k) false) (length (entries_of h.entries field) + 1) 0

  same_loses : (operands : List Operand) (from to : Value) → some_is_of_members operands ≡ false → loses one operands from to ≡ loses other operands from to
  same_loses operands from to none =
      any_same is_of_members (λ operand. some_value (λ v. names one operand v && not (some_value (is_same v) to)) from) (λ operand. some_value (λ v. names other operand v && not (some_value (is_same v) to)) from)
      (λ operand no i. some_value (λ v. same_names operand v no i && not (some_value (is_same v) to)) from) operands none

  same_endpoint : (entry : Entry) (endpoint : Endpoint) → endpoint_asks endpoint ≡ false → endpoint_answers one entry endpoint ≡ endpoint_answers other entry endpoint
  same_endpoint entry (Endpoint.From operands) none = same_loses operands entry.from entry.to none
  same_endpoint entry (Endpoint.To operands) none = same_loses operands entry.to entry.from none

  same_endpoints : (entry : Entry) (endpoints : List Endpoint) → list_any endpoint_asks endpoints ≡ false
      → list_all (λ endpoint. endpoint_answers one entry endpoint) endpoints ≡ list_all (λ endpoint. endpoint_answers other entry endpoint) endpoints
  same_endpoints entry endpoints none =
      each_same endpoint_asks (λ endpoint. endpoint_answers one entry endpoint) (λ endpoint. endpoint_answers other entry endpoint) (same_endpoint entry) endpoints none

  same_entry : (t : ℕ) (endpoints : List Endpoint) (predicates : List PastPredicate) (entry : Entry) → list_any endpoint_asks endpoints ≡ false → list_any predicate_asks predicates ≡ false
      → entry_answers one t endpoints predicates entry ≡ entry_answers other t endpoints predicates entry
  same_entry t endpoints predicates entry none nobody = λ i.
      same_in_windows t predicates entry.at i && same_by_each entry.author predicates nobody i
      && same_endpoints entry endpoints none i

  same_changed : (t : ℕ) (field : FieldNo) (endpoints : List Endpoint) (predicates : List PastPredicate) → list_any endpoint_asks endpoints ≡ false → list_any predicate_asks predicates ≡ false
      → changed one h t field endpoints predicates ≡ changed other h t field endpoints predicates
  unfolding changed
  same_changed t field endpoints predicates none nobody = λ i. list_any (λ entry. same_entry t endpoints predicates entry none nobody i) (entries_of h.entries field)

  same_test : (t : ℕ) (field : FieldNo) (predicates : List PastPredicate) (test : PastTest) → test_asks test ≡ false → list_any predicate_asks predicates ≡ false
      → test_holds one h t field predicates test ≡ test_holds other h t field predicates test
  same_test t field predicates (PastTest.Was operands) none nobody = same_was t field operands predicates none nobody
  same_test t field predicates (PastTest.WasNot operands) none nobody = λ i. not (same_was t field operands predicates none nobody i)
  same_test t field predicates (PastTest.Changed endpoints) none nobody = same_changed t field endpoints predicates none nobody
  same_test t field predicates (PastTest.NotChanged endpoints) none nobody = λ i. not (same_changed t field endpoints predicates none nobody i)

  same_past : (t : ℕ) (leaf : PastLeaf) → past_asks leaf ≡ false → test_holds one h t leaf.field leaf.predicates leaf.test ≡ test_holds other h t leaf.field leaf.predicates leaf.test
  same_past t leaf none =
      let parts = or_parts (test_asks leaf.test) (list_any predicate_asks leaf.predicates) none in
      same_test t leaf.field leaf.predicates leaf.test parts.0 parts.1

-- ---- conditions and queries

mutual
  unfolding holds holds_now holds_past condition_asks

  same_holds : (one other : Surroundings) (h : History) (d : DifferInMembers one other) (t : ℕ) (c : Condition) → condition_asks c ≡ false → holds one h t c ≡ holds other h t c
  same_holds one other h d t (now leaf) none = same_operator one other h d t leaf.subject leaf.operator none
  same_holds one other h d t (past leaf) none = same_past one other h d t leaf none
  same_holds one other h d t (all_of cs) none = same_all one other h d t cs none
  same_holds one other h d t (any_of cs) none = same_some one other h d t cs none

  same_all : (one other : Surroundings) (h : History) (d : DifferInMembers one other) (t : ℕ) (cs : Conditions) → one_asks cs ≡ false → all_hold one h t cs ≡ all_hold other h t cs
  same_all one other h d t no_conditions none = refl
  same_all one other h d t (condition c cs) none =
      let parts = or_parts (condition_asks c) (one_asks cs) none in
      λ i. same_holds one other h d t c parts.0 i && same_all one other h d t cs parts.1 i

  same_some : (one other : Surroundings) (h : History) (d : DifferInMembers one other) (t : ℕ) (cs : Conditions) → one_asks cs ≡ false → some_holds one h t cs ≡ some_holds other h t cs
  same_some one other h d t no_conditions none = refl
  same_some one other h d t (condition c cs) none =
      let parts = or_parts (condition_asks c) (one_asks cs) none in
      λ i. same_holds one other h d t c parts.0 i || same_some one other h d t cs parts.1 i

pub members_unasked : (one other : Surroundings) (h : History) (t : ℕ) (query : Option Condition) → DifferInMembers one other → query_asks query ≡ false → query_holds one h t query ≡ query_holds other h t query
unfolding query_holds
members_unasked one other h t None d none = refl
members_unasked one other h t (Some c) d none = same_holds one other h d t c none

-- ---- verdicts

module _ (one other : Surroundings) (h : History) (query : Option Condition) (d : DifferInMembers one other) (none : query_asks query ≡ false) where
  same : (t : ℕ) → query_holds one h t query ≡ query_holds other h t query
  same t = members_unasked one other h t query d none

  stays_unasked : (at : ℕ) (end : Option ℕ) → Stays (λ t. query_holds one h t query) (λ t. IsCriticalForQuery one h t query) at end
      → Stays (λ t. query_holds other h t query) (λ t. IsCriticalForQuery other h t query) at end
  stays_unasked at None stays = λ t low high. sym (same t) ∙ stays t low high ∙ same at
  stays_unasked at (Some end) stays = record {
    later = stays.later;
    in_time = stays.in_time;
    critical = critical_by_the_calendar one other h end query d.calendar stays.critical;
    stays = λ t low high. sym (same t) ∙ stays.stays t low high ∙ same at;
  }

-- a right verdict on a query that asks for no members stays right as groups come to others
pub right_unasked : (one other : Surroundings) (h : History) (query : Option Condition) (at : ℕ) (holds : Bool) (end : Option ℕ) → DifferInMembers one other → query_asks query ≡ false → IsRight one h query at holds end → IsRight other h query at holds end
right_unasked one other h query at holds end d none right = record {
  truth = right.truth ∙ same one other h query d none at;
  stays = stays_unasked one other h query d none at end right.stays;
}
