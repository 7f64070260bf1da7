-- Worked values, computed from the definitions.
use Rattle.std.specs.Prelude.{◌≡◌, ℕ, true, false, List, [], ◌∷◌, codes, pos, neg_ℤ, negsuc, refl}
use Rattle.std.specs.declared.cmp.Ordering.TheVariants.{Less, Greater}
use Rattle.field_values.specs.declared.numbers.UserNo.{UserNo}
use Rattle.field_values.specs.declared.numbers.FieldNo.{FieldNo}
use Rattle.field_values.specs.declared.numbers.TheConstants.FieldNo as number
use Rattle.field_values.specs.declared.value.Value.{Value}
use Rattle.change_history.specs.declared.change.Change.{Change}
use Rattle.change_history.specs.declared.entry.Entry.{Entry}
use Rattle.change_history.specs.History.{History}
use Rattle.relative_dates.specs.declared.term.Term.{Term}
use Rattle.relative_dates.specs.Calendar.{fixed_calendar, minutes_from}
use Rattle.jql_bound.specs.declared.leaf.Inequality.{Inequality}
use Rattle.jql_bound.specs.declared.leaf.Operator.{Operator}
use Rattle.jql_bound.specs.declared.leaf.Subject.{Subject}
use Rattle.jql_bound.specs.declared.operand.Operand.{Operand}
use Rattle.jql_bound.specs.declared.past.Endpoint.{Endpoint}
use Rattle.jql_bound.specs.declared.past.PastLeaf.{PastLeaf}
use Rattle.jql_bound.specs.declared.past.PastPredicate.{PastPredicate}
use Rattle.jql_bound.specs.declared.past.PastTest.{PastTest}
use Rattle.jql_bound.specs.Condition.{Condition, now, any_of, no_conditions, condition}
use Rattle.jql_bound.specs.Negation.{negation}
use Rattle.jql_bound.specs.Words.{words_of}
use Rattle.jql_meaning.specs.Surroundings.{Surroundings}
use Rattle.jql_meaning.specs.Words.{has_word, has_words}
use Rattle.jql_meaning.specs.Present.{holds_now}
use Rattle.jql_meaning.specs.Moments.{some_from}
use Rattle.jql_meaning.specs.Past.{was, changed, holds_past}
use Rattle.jql_meaning.specs.Truth.{holds}
use Rattle.jql_meaning.specs.Order.{standing_cmp, nothing, size}

abbrev anna : UserNo
anna = record { 0 = 0 }

abbrev bo : UserNo
bo = record { 0 = 1 }

abbrev status : FieldNo
status = number.STATUS

abbrev assignee : FieldNo
assignee = number.ASSIGNEE

abbrev versions : FieldNo
versions = number.FIX_VERSION

abbrev choice : ℕ → Value
choice n = Value.Choice (record { 0 = n })

abbrev one_of : ℕ → Operand
one_of n = Operand.Choice (record { 0 = n })

abbrev around : Surroundings
around =
    record { sprints = []; members = (anna ∷ bo ∷ []) ∷ []; calendar = fixed_calendar (pos 0) 1 }

abbrev opened_with : ℕ → List Change → List Entry → History
opened_with at opening entries =
    record
    { no = record { 0 = 1 }; key = codes "OPS-1"; change = 1; at = at; author = anna; opening = opening; entries = entries }

abbrev entry : ℕ → ℕ → UserNo → FieldNo → Value → Value → Entry
entry change at author field from to =
    record { change = change; at = at; author = author; field = field; from = from; to = to }

-- an open issue that nobody works on
abbrev login : History
login =
    opened_with 0 (record { field = status; to = choice 0 }
    ∷ record { field = number.SUMMARY; to = Value.Text (codes "Fix login") } ∷ []) []

abbrev asks : FieldNo → Operator → Condition
asks field operator = now (record { subject = Subject.Field field; operator = operator })

-- ---- over an empty field

pub not_anna : holds around login 0 (asks assignee (Operator.NotIn (Operand.User anna ∷ [])))
    ≡ false
unfolding holds holds_now
not_anna = refl

pub not_of_anna : holds around login 0
    (negation (asks assignee (Operator.In (Operand.User anna ∷ [])))) ≡ false
unfolding holds holds_now negation
not_of_anna = refl

pub empty_or_not_anna : holds around login 0
    (any_of (condition (asks assignee (Operator.NotIn (Operand.User anna ∷ [])))
    (condition (asks assignee Operator.IsEmpty) no_conditions))) ≡ true
unfolding holds holds_now
empty_or_not_anna = refl

pub among_empty_and_bo : holds around login 0
    (asks assignee (Operator.In (Operand.Empty ∷ Operand.User bo ∷ []))) ≡ true
unfolding holds holds_now
among_empty_and_bo = refl

-- ---- an order: the first priority is the highest, and nothing stands last

abbrev urgent : History
urgent = opened_with 0 (record { field = number.PRIORITY; to = choice 0 } ∷ []) []

pub high_above_low : holds around urgent 0
    (asks number.PRIORITY (Operator.Compares Inequality.Greater (one_of 2))) ≡ true
unfolding holds holds_now
high_above_low = refl

pub high_behind_low : standing_cmp (size (neg_ℤ (pos 2))) (size (neg_ℤ (pos 0))) ≡ Less
high_behind_low = refl

pub nothing_last : standing_cmp nothing (size (pos 9)) ≡ Greater
nothing_last = refl

-- ---- words

pub front_of_a_word : has_words (words_of (codes "fix log*")) (codes "Fix login") ≡ true
unfolding words_of has_word
front_of_a_word = refl

pub whole_word : has_words (words_of (codes "log")) (codes "Fix login") ≡ false
unfolding words_of has_word
whole_word = refl

-- ---- two statuses in one second: started and reviewed at once

abbrev reviewed : History
reviewed = opened_with 7000 login.opening
    (entry 2 7000 anna status (choice 0) (choice 1)
    ∷ entry 2 7000 anna assignee Value.Empty (Value.User anna)
    ∷ entry 3 7000 anna status (choice 1) (choice 2) ∷ [])

abbrev past_of : FieldNo → PastTest → List PastPredicate → PastLeaf
past_of field test predicates = record { field = field; test = test; predicates = predicates }

pub was_in_progress : holds_past around
    (past_of status (PastTest.Was (one_of 1 ∷ [])) []) reviewed 7000 ≡ true
unfolding holds_past was some_from
was_in_progress = refl

pub was_on_that_day : holds_past around
    (past_of status (PastTest.Was (one_of 1 ∷ [])) (PastPredicate.On Term.Now ∷ [])) reviewed 7000
    ≡ true
unfolding holds_past was some_from minutes_from
was_on_that_day = refl

pub was_not_later : holds_past around
    (past_of status (PastTest.Was (one_of 1 ∷ [])) (PastPredicate.After Term.Now ∷ [])) reviewed
    7000 ≡ false
unfolding holds_past was some_from
was_not_later = refl

-- ---- the end of a truth: opened at 100 and started at 110, so open up to 109, which is later than a minute ago until 168

abbrev started : History
started = opened_with 100 login.opening (entry 2 110 anna status (choice 0) (choice 1) ∷ [])

abbrev lately_open : PastLeaf
lately_open =
    past_of status (PastTest.Was (one_of 0 ∷ []))
    (PastPredicate.After (Term.FromNow (negsuc 0)) ∷ [])

pub open_a_minute_ago : holds_past around lately_open started 168 ≡ true
unfolding holds_past was some_from
open_a_minute_ago = refl

pub open_no_more : holds_past around lately_open started 169 ≡ false
unfolding holds_past was some_from
open_no_more = refl

-- ---- one change for all predicates: anna starts, bo finishes

abbrev finished : History
finished =
    opened_with 100 login.opening (entry 2 110 anna status (choice 0) (choice 1)
    ∷ entry 4 110 bo status (choice 1) (choice 3) ∷ [])

pub not_from_open_to_done : holds_past around
    (past_of status (PastTest.Changed
    (Endpoint.From (one_of 0 ∷ []) ∷ Endpoint.To (one_of 3 ∷ []) ∷ [])) []) finished 200 ≡ false
unfolding holds_past changed
not_from_open_to_done = refl

pub from_open_by_anna : holds_past around
    (past_of status (PastTest.Changed (Endpoint.From (one_of 0 ∷ []) ∷ []))
    (PastPredicate.By (Operand.User anna ∷ []) ∷ [])) finished 200 ≡ true
unfolding holds_past changed
from_open_by_anna = refl

pub not_from_open_by_bo : holds_past around
    (past_of status (PastTest.Changed (Endpoint.From (one_of 0 ∷ []) ∷ []))
    (PastPredicate.By (Operand.User bo ∷ []) ∷ [])) finished 200 ≡ false
unfolding holds_past changed
not_from_open_by_bo = refl

-- ---- a set: version 0, then version 1, then both

abbrev set : List ℕ → Value
set [] = Value.Empty
set (n ∷ []) = Value.Set (record { 0 = n } ∷ [])
set (n ∷ m ∷ ns) = Value.Set (record { 0 = n } ∷ record { 0 = m } ∷ [])

abbrev fixed : History
fixed = opened_with 0 (record { field = versions; to = set (0 ∷ []) } ∷ [])
    (entry 2 0 anna versions (set (0 ∷ [])) (set (1 ∷ []))
    ∷ entry 3 0 anna versions (set (1 ∷ [])) (set (0 ∷ 1 ∷ [])) ∷ [])

pub was_never_empty : holds_past around
    (past_of versions (PastTest.Was (Operand.Empty ∷ [])) []) fixed 0 ≡ false
unfolding holds_past was some_from
was_never_empty = refl

pub from_one_to_the_other : holds_past around
    (past_of versions (PastTest.Changed
    (Endpoint.From (one_of 0 ∷ []) ∷ Endpoint.To (one_of 1 ∷ []) ∷ [])) []) fixed 0 ≡ true
unfolding holds_past changed
from_one_to_the_other = refl

pub not_away_from_the_other : holds_past around
    (past_of versions (PastTest.Changed (Endpoint.From (one_of 1 ∷ []) ∷ [])) []) fixed 0 ≡ false
unfolding holds_past changed
not_away_from_the_other = refl

pub back_to_the_one : holds_past around
    (past_of versions (PastTest.Changed (Endpoint.To (one_of 0 ∷ []) ∷ [])) []) fixed 0 ≡ true
unfolding holds_past changed
back_to_the_one = refl
