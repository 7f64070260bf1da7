-- Each list of tokens is a query, or has a first fault.
use Rattle.std.proofs.Common.{◌≡◌, ℕ, zero, suc, ◌+◌, ◌==◌, ◌&&◌, ◌-◌, ◌≤◌, ◌<◌, Bool, true, false, List, [], ◌∷◌, length, drop, Option, Some, None, refl, ap, sym, ◌∙◌, inl, inr, arith, subst}
use Rattle.std.proofs.lemmas.Bool.{cases_lt}
use Rattle.std.proofs.lemmas.Bool.Decides.{nat_tests}
use Rattle.std.specs.Option.{is_some}
use Rattle.relative_dates.specs.Reading.{read_term}
use Rattle.jql_syntax.specs.Tree.{Tree}
use Rattle.jql_syntax.specs.Node.{Node, condition, a_query, keys_of, made, whole}
use Rattle.jql_syntax.specs.Form.{Class, sign, plain_text, date_text, function_name, bare_word, any_text, field_number, IsOf, of_word, of_quoted, of_date_word, of_date_quoted, of_name, of_bare_word, of_bare_name, of_any_word, of_any_name, of_any_quoted, of_number, Form, one, nothing, both, either, many, rule, unit}
use Rattle.jql_syntax.specs.Grammar.{limit, leaf, order, unit_form, conjunction, expression, query}
use Rattle.jql_syntax.specs.Reads.{Is, is_rule, Reads}
use Rattle.jql_syntax.specs.Tokens.{words, tokens}
use Rattle.jql_syntax.specs.Fault.{most_bytes, too_long, at_token, place_of}
use Rattle.jql_syntax.specs.Either.{QueryOrFault, text_is, text_has}
use Rattle.jql_syntax.specs.Machine.{number_of, look, look_of, looks, nullable, first, opens, IsPlain, plain_one, plain_nothing, plain_both, plain_either, plain_many, plain_rule, plain_unit, Outcome, ended, halted, behind, turned, kind_at, IsWithout, plain_kind, Runs, runs_one, runs_lacking, runs_nothing, runs_halt, runs_both, runs_first, runs_second, runs_stop, runs_turn, runs_more, runs_rule, runs_unit, runs_bottom, runs_deep}
use Rattle.jql_syntax.specs.Reader.{Fails}
use Rattle.jql_syntax.specs.declared.token.Kind.{Kind}
use Rattle.jql_syntax.specs.declared.token.Kind.TheVariants.{TooDeep, TooLong}
use Rattle.jql_syntax.specs.declared.token.Mark.{Mark}
use Rattle.jql_syntax.specs.declared.token.Token.{Token}
use Rattle.jql_syntax.specs.declared.token.Token.TheVariants.{Marked, Word, Name, Quoted, Custom, Bad}
use Rattle.jql_syntax.specs.declared.token.Placed.{Placed}
use Rattle.jql_syntax.specs.declared.query.SortKey.{SortKey}
use Rattle.jql_syntax.specs.declared.take.Stop.TheVariants.{At}
use Rattle.jql_syntax.proofs.Apart.{differ, true_or_false, and_cases}
use Rattle.jql_syntax.proofs.Steps.{of_looks}
use Rattle.jql_syntax.proofs.Plain.{leaf_plain, unit_plain, query_plain}
use Rattle.jql_syntax.proofs.Sure.{tells}
use Rattle.jql_syntax.proofs.Strict.{is_strict}
use Rattle.jql_syntax.proofs.Reading.{is_sign, no_word, no_quoted}
use Rattle.jql_syntax.proofs.Whole.{fails_halted, fails_left}

-- reading ends somehow
record Run (f : Form) (ts : List Token) : Type 0 where
  outcome : Outcome
  runs : Runs f ts outcome

-- ---- one token

empty_without : (c : Class) → IsWithout c []
empty_without c t rest xs e h = absurd cc

looks_without : (c : Class) (t : Token) (ts : List Token) → looks c (look_of t) ≡ false → IsWithout c (t ∷ ts)
looks_without c t ts n u rest xs e h =
    let k : look (t ∷ ts) ≡ look (u ∷ rest) = ap look e in
    differ (sym (of_looks rest h) ∙ ap (looks c) (sym k) ∙ n)

lacking : (c : Class) (ts : List Token) → IsWithout c ts → Run (one c) ts
lacking c ts n = record { outcome = halted ts (kind_at c ts); runs = runs_lacking n }

taking : (c : Class) (t : Token) (ts : List Token) (xs : List Node) → IsOf c t xs → Run (one c) (t ∷ ts)
taking c t ts xs h = record { outcome = ended ts xs; runs = runs_one h }

sign_run : (m : Mark) (t : Token) (ts : List Token) → Run (one (sign m)) (t ∷ ts)
sign_run m t ts = elim (true_or_false (looks (sign m) (look_of t))) [
  | inl h ↦ taking (sign m) t ts [] (is_sign m t h)
  | inr h ↦ lacking (sign m) (t ∷ ts) (looks_without (sign m) t ts h)
]

-- signs and keywords are no texts
mark_not : (k j : ℕ) → j < 6 → ((6 + k) == j) ≡ false
mark_not k j h = grind (arith, nat_tests)

plain_run : (t : Token) (ts : List Token) → Run (one plain_text) (t ∷ ts)
plain_run (Word w) ts = taking plain_text (Word w) ts _ of_word
plain_run (Quoted w) ts = taking plain_text (Quoted w) ts _ of_quoted
plain_run (Marked m) ts = lacking plain_text (Marked m ∷ ts) (looks_without plain_text (Marked m) ts (rw (mark_not (number_of m) 2 (omega arith), mark_not (number_of m) 4 (omega arith)) refl))
plain_run (Name w) ts = lacking plain_text (Name w ∷ ts) (looks_without plain_text (Name w) ts refl)
plain_run (Custom n) ts = lacking plain_text (Custom n ∷ ts) (looks_without plain_text (Custom n) ts refl)
plain_run (Bad k) ts = lacking plain_text (Bad k ∷ ts) (looks_without plain_text (Bad k) ts refl)

date_run : (t : Token) (ts : List Token) → Run (one date_text) (t ∷ ts)
date_run (Word w) ts = elim (true_or_false (is_some (read_term w))) [
  | inl h ↦ taking date_text (Word w) ts _ (of_date_word h)
  | inr h ↦ lacking date_text (Word w ∷ ts) (no_word ts w h)
]
date_run (Quoted w) ts = elim (true_or_false (is_some (read_term w))) [
  | inl h ↦ taking date_text (Quoted w) ts _ (of_date_quoted h)
  | inr h ↦ lacking date_text (Quoted w ∷ ts) (no_quoted ts w h)
]
date_run (Marked m) ts = lacking date_text (Marked m ∷ ts) (looks_without date_text (Marked m) ts (rw (mark_not (number_of m) 2 (omega arith), mark_not (number_of m) 4 (omega arith)) refl))
date_run (Name w) ts = lacking date_text (Name w ∷ ts) (looks_without date_text (Name w) ts refl)
date_run (Custom n) ts = lacking date_text (Custom n ∷ ts) (looks_without date_text (Custom n) ts refl)
date_run (Bad k) ts = lacking date_text (Bad k ∷ ts) (looks_without date_text (Bad k) ts refl)

function_run : (t : Token) (ts : List Token) → Run (one function_name) (t ∷ ts)
function_run (Name w) ts = taking function_name (Name w) ts _ of_name
function_run (Marked m) ts = lacking function_name (Marked m ∷ ts) (looks_without function_name (Marked m) ts (mark_not (number_of m) 3 (omega arith)))
function_run (Word w) ts = lacking function_name (Word w ∷ ts) (looks_without function_name (Word w) ts refl)
function_run (Quoted w) ts = lacking function_name (Quoted w ∷ ts) (looks_without function_name (Quoted w) ts refl)
function_run (Custom n) ts = lacking function_name (Custom n ∷ ts) (looks_without function_name (Custom n) ts refl)
function_run (Bad k) ts = lacking function_name (Bad k ∷ ts) (looks_without function_name (Bad k) ts refl)

bare_run : (t : Token) (ts : List Token) → Run (one bare_word) (t ∷ ts)
bare_run (Word w) ts = taking bare_word (Word w) ts _ of_bare_word
bare_run (Name w) ts = taking bare_word (Name w) ts _ of_bare_name
bare_run (Marked m) ts = lacking bare_word (Marked m ∷ ts) (looks_without bare_word (Marked m) ts (rw (mark_not (number_of m) 2 (omega arith), mark_not (number_of m) 3 (omega arith)) refl))
bare_run (Quoted w) ts = lacking bare_word (Quoted w ∷ ts) (looks_without bare_word (Quoted w) ts refl)
bare_run (Custom n) ts = lacking bare_word (Custom n ∷ ts) (looks_without bare_word (Custom n) ts refl)
bare_run (Bad k) ts = lacking bare_word (Bad k ∷ ts) (looks_without bare_word (Bad k) ts refl)

any_run : (t : Token) (ts : List Token) → Run (one any_text) (t ∷ ts)
any_run (Word w) ts = taking any_text (Word w) ts _ of_any_word
any_run (Name w) ts = taking any_text (Name w) ts _ of_any_name
any_run (Quoted w) ts = taking any_text (Quoted w) ts _ of_any_quoted
any_run (Marked m) ts = lacking any_text (Marked m ∷ ts) (looks_without any_text (Marked m) ts (rw (mark_not (number_of m) 2 (omega arith), mark_not (number_of m) 3 (omega arith), mark_not (number_of m) 4 (omega arith)) refl))
any_run (Custom n) ts = lacking any_text (Custom n ∷ ts) (looks_without any_text (Custom n) ts refl)
any_run (Bad k) ts = lacking any_text (Bad k ∷ ts) (looks_without any_text (Bad k) ts refl)

number_run : (t : Token) (ts : List Token) → Run (one field_number) (t ∷ ts)
number_run (Custom n) ts = taking field_number (Custom n) ts _ of_number
number_run (Marked m) ts = lacking field_number (Marked m ∷ ts) (looks_without field_number (Marked m) ts (mark_not (number_of m) 5 (omega arith)))
number_run (Word w) ts = lacking field_number (Word w ∷ ts) (looks_without field_number (Word w) ts refl)
number_run (Name w) ts = lacking field_number (Name w ∷ ts) (looks_without field_number (Name w) ts refl)
number_run (Quoted w) ts = lacking field_number (Quoted w ∷ ts) (looks_without field_number (Quoted w) ts refl)
number_run (Bad k) ts = lacking field_number (Bad k ∷ ts) (looks_without field_number (Bad k) ts refl)

one_run : (c : Class) (ts : List Token) → Run (one c) ts
one_run c [] = lacking c [] (empty_without c)
one_run (sign m) (t ∷ ts) = sign_run m t ts
one_run plain_text (t ∷ ts) = plain_run t ts
one_run date_text (t ∷ ts) = date_run t ts
one_run function_name (t ∷ ts) = function_run t ts
one_run bare_word (t ∷ ts) = bare_run t ts
one_run any_text (t ∷ ts) = any_run t ts
one_run field_number (t ∷ ts) = number_run t ts

-- ---- forms

both_run : (f g : Form) (ts : List Token) (o : Outcome) → Runs f ts o → ((mid : List Token) → Run g mid) → Run (both f g) ts
both_run f g ts (ended mid xs) r k = let s = k mid in record { outcome = behind xs s.outcome; runs = runs_both r s.runs refl }
both_run f g ts (halted rest j) r k = record { outcome = halted rest j; runs = runs_halt r }

either_run : (f g : Form) (ts : List Token) → Run f ts → Run g ts → Run (either f g) ts
either_run f g ts r s = elim (true_or_false (first f (look ts))) [
  | inl h ↦ record { outcome = r.outcome; runs = runs_first h r.runs }
  | inr h ↦ record { outcome = s.outcome; runs = runs_second h s.runs }
]

-- one turn, and the others
turn_run : (f : Form) (ts : List Token) (o : Outcome) → nullable f ≡ false → first f (look ts) ≡ true → Runs f ts o → ((mid : List Token) → length mid < length ts → Run (many f) mid) → Run (many f) ts
turn_run f ts (ended mid xs) n h r k = let s = k mid (is_strict n (tells r)) in record { outcome = behind xs s.outcome; runs = runs_more h r s.runs refl }
turn_run f ts (halted rest j) n h r k = record { outcome = halted rest j; runs = runs_turn h r }

many_run : (f : Form) (most : ℕ) (ts : List Token) → nullable f ≡ false → length ts ≤ most → ((us : List Token) → Run f us) → Run (many f) ts
many_run f zero ts n l k = elim (true_or_false (first f (look ts))) [
  | inl h ↦ let r = k ts in turn_run f ts r.outcome n h r.runs (λ mid m. absurd (omega (arith, m, l)))
  | inr h ↦ record { outcome = ended ts []; runs = runs_stop h }
]
many_run f (suc most) ts n l k = elim (true_or_false (first f (look ts))) [
  | inl h ↦ let r = k ts in turn_run f ts r.outcome n h r.runs (λ mid m. many_run f most mid n (omega (arith, m, l)) k)
  | inr h ↦ record { outcome = ended ts []; runs = runs_stop h }
]

-- the units in a form can be read
abbrev UnitsRun : Form → Type 0
UnitsRun (one c) = Unit {0}
UnitsRun nothing = Unit {0}
UnitsRun (both f g) = UnitsRun f × UnitsRun g
UnitsRun (either f g) = UnitsRun f × UnitsRun g
UnitsRun (many f) = UnitsRun f
UnitsRun (rule l f) = UnitsRun f
UnitsRun (unit n) = (ts : List Token) → Run (unit n) ts

run : {f : Form} → IsPlain f → UnitsRun f → (ts : List Token) → Run f ts
run (plain_one {c = c}) u ts = one_run c ts
run plain_nothing u ts = record { outcome = ended ts []; runs = runs_nothing }
run (plain_both {f = f} {g = g} p q a) u ts = let r = run p u.0 ts in both_run f g ts r.outcome r.runs (run q u.1)
run (plain_either {f = f} {g = g} p q a d) u ts = either_run f g ts (run p u.0 ts) (run q u.1 ts)
run (plain_many {f = f} p a d) u ts = many_run f (length ts) ts d (omega arith) (run p u)
run (plain_rule {l = l} p) u ts = let r = run p u ts in record { outcome = turned l r.outcome; runs = runs_rule r.runs refl }
run plain_unit u ts = u ts

-- forms without units
abbrev is_unitless : Form → Bool
is_unitless (one c) = true
is_unitless nothing = true
is_unitless (both f g) = is_unitless f && is_unitless g
is_unitless (either f g) = is_unitless f && is_unitless g
is_unitless (many f) = is_unitless f
is_unitless (rule l f) = is_unitless f
is_unitless (unit n) = false

unitless : (f : Form) → is_unitless f ≡ true → UnitsRun f
unitless (one c) h = tt
unitless nothing h = tt
unitless (both f g) h = let a = and_cases (is_unitless f) (is_unitless g) h in (unitless f a.0, unitless g a.1)
unitless (either f g) h = let a = and_cases (is_unitless f) (is_unitless g) h in (unitless f a.0, unitless g a.1)
unitless (many f) h = unitless f h
unitless (rule l f) h = unitless f h
unitless (unit n) h = absurd (differ (sym h))

-- ---- units, and the whole query

conjunction_units : (n : ℕ) → ((ts : List Token) → Run (unit n) ts) → UnitsRun (conjunction n)
conjunction_units n u = (u, (tt, u))

expression_units : (n : ℕ) → ((ts : List Token) → Run (unit n) ts) → UnitsRun (expression n)
expression_units n u = (conjunction_units n u, (tt, conjunction_units n u))

unit_units : (n : ℕ) → ((ts : List Token) → Run (unit n) ts) → UnitsRun (unit_form (suc n))
unit_units n u = ((tt, u), ((tt, (expression_units n u, tt)), unitless leaf refl))

unit_run : (n : ℕ) (ts : List Token) → Run (unit n) ts
unit_run zero ts = elim (true_or_false (opens (look ts))) [
  | inl h ↦ record { outcome = halted ts TooDeep; runs = runs_deep h }
  | inr h ↦ let r = run leaf_plain (unitless leaf refl) ts in record { outcome = r.outcome; runs = runs_bottom h r.runs }
]
unit_run (suc n) ts = let r = run (unit_plain (suc n)) (unit_units n (unit_run n)) ts in record { outcome = r.outcome; runs = runs_unit r.runs }

query_units : (n : ℕ) → UnitsRun (query n)
query_units n = ((expression_units n (unit_run n), tt), (unitless order refl, tt))

query_run : (n : ℕ) (ts : List Token) → Run (query n) ts
query_run n ts = run (query_plain n) (query_units n) ts

-- ---- a query or a fault

pub record SomeQuery (xs : List Node) : Type 0 where
  pub q : Option Tree
  pub keys : List SortKey
  pub parts : xs ≡ a_query q keys ∷ []

whole_made : (xs : List Node) → SomeQuery (made whole xs)
whole_made [] = record { q = None; keys = []; parts = refl }
whole_made (condition x ∷ xs) = record { q = Some x; keys = keys_of xs; parts = refl }
whole_made (x ∷ xs) = record { q = None; keys = keys_of (x ∷ xs); parts = refl }

query_parts : {n : ℕ} {ts rest : List Token} {xs : List Node} → Is (query n) ts rest xs → SomeQuery xs
query_parts (is_rule {xs = ys} r e) = let w = whole_made ys in record { q = w.q; keys = w.keys; parts = e ∙ w.parts }

-- tokens are a query, or have a first fault
pub data Decided (ts : List Placed) : Type 0 where
  is_query : (q : Option Tree) (keys : List SortKey) → Reads (words ts) q keys → Decided ts
  has_fault : (kind : Kind) (left : ℕ) → Fails ts (At kind left) → Decided ts

decided_by : (ts : List Placed) (o : Outcome) → Runs (query limit) (words ts) o → Decided ts
decided_by ts (halted rest k) r = has_fault k (length rest) (fails_halted ts (At k (length rest)) (record { why = record { rest = rest; left_over = refl; runs = r } }))
decided_by ts (ended [] xs) r =
    let w = query_parts (tells r) in
    let P : List Node → Type 0 = λ v. Is (query limit) (words ts) [] v in
    is_query w.q w.keys (subst P w.parts (tells r))
decided_by ts (ended (t ∷ rest) xs) r = has_fault (plain_kind (t ∷ rest)) (length (t ∷ rest)) (fails_left ts (t ∷ rest) r (λ e. cc))

decided : (ts : List Placed) → Decided ts
decided ts = let r = query_run limit (words ts) in decided_by ts r.outcome r.runs

short_decided : (text : List ℕ) → length text ≤ most_bytes → Decided (tokens text) → QueryOrFault text
short_decided text l (is_query q keys r) = text_is q keys (l, r)
short_decided text l (has_fault k left f) = text_has (place_of (length text) (drop (length (tokens text) - left) (tokens text))) k (at_token l (f.1 (length text)))

pub text_decided : (text : List ℕ) → QueryOrFault text
text_decided text = elim (cases_lt most_bytes (length text)) [
  | inl g ↦ text_has most_bytes TooLong (too_long g refl refl)
  | inr l ↦ short_decided text l (decided (tokens text))
]
