-- Why a reader halts.
use Rattle.std.proofs.Common.{◌≡◌, zero, suc, true, ◌&&◌, List, [], ◌∷◌, refl, ap, sym, ◌∙◌, inl, inr, subst}
use Rattle.jql_syntax.specs.Node.{Node, Label}
use Rattle.jql_syntax.specs.Form.{Class, sign, plain_text, date_text, function_name, bare_word, any_text, field_number, Form, one, both, either, many, rule, unit}
use Rattle.jql_syntax.specs.Grammar.{unit_form, leaf}
use Rattle.jql_syntax.specs.Reads.{Is, Begins, begins_former, begins_latter, begins_first, begins_second, begins_turn, begins_more, begins_rule, begins_unit, Leads, leads_here, leads_former, leads_latter, leads_first, leads_second, leads_turn, leads_more, leads_rule, leads_unit}
use Rattle.jql_syntax.specs.Machine.{look, looks, nullable, first, go_on, opens, IsPlain, plain_both, plain_either, plain_many, plain_rule, Outcome, ended, halted, behind, turned, Runs, runs_one, runs_lacking, runs_nothing, runs_halt, runs_both, runs_first, runs_second, runs_stop, runs_turn, runs_more, runs_rule, runs_unit, runs_bottom, runs_deep, plain_kind, kind_at}
use Rattle.jql_syntax.specs.declared.token.Token.{Token}
use Rattle.jql_syntax.specs.declared.token.Token.TheVariants.{Marked, Word, Name, Quoted, Custom, Bad}
use Rattle.jql_syntax.specs.declared.token.Kind.{Kind}
use Rattle.jql_syntax.specs.declared.token.Kind.TheVariants.{TooDeep, BadDate}
use Rattle.jql_syntax.proofs.Apart.{differ, or_left, or_right, and_both, apart_left, apart_right}
use Rattle.jql_syntax.proofs.Steps.{is_empty_or, unit_first}
use Rattle.jql_syntax.proofs.Sure.{is_read, tells}
use Rattle.jql_syntax.proofs.Plain.{unit_plain, leaf_plain, leaf_opens_not}

-- the cause of a fault: nothing fits, no more may be opened, or a date is wanted
pub data Cause (f : Form) (ts rest : List Token) (k : Kind) : Type 0 where
  cause_plain : k ≡ plain_kind rest → Cause f ts rest k
  cause_deep : k ≡ TooDeep → opens (look rest) ≡ true → Leads (unit 0) f ts rest → Cause f ts rest k
  cause_date : k ≡ BadDate → looks date_text (look rest) ≡ true → Leads (one date_text) f ts rest → Cause f ts rest k

through : (f g : Form) (ts mid rest : List Token) (k : Kind) → ((goal : Form) → Leads goal f mid rest → Leads goal g ts rest) → Cause f mid rest k → Cause g ts rest k
through f g ts mid rest k h (cause_plain e) = cause_plain e
through f g ts mid rest k h (cause_deep e o l) = cause_deep e o (h (unit 0) l)
through f g ts mid rest k h (cause_date e o l) = cause_date e o (h (one date_text) l)

abbrev pub Caused : Form → List Token → Outcome → Type 0
Caused f ts (ended rest xs) = Unit {0}
Caused f ts (halted rest k) = Cause f ts rest k

lacking_cause : (c : Class) (ts : List Token) → Cause (one c) ts ts (kind_at c ts)
lacking_cause (sign m) ts = cause_plain refl
lacking_cause plain_text ts = cause_plain refl
lacking_cause date_text [] = cause_plain refl
lacking_cause date_text (Word w ∷ ts) = cause_date refl refl leads_here
lacking_cause date_text (Quoted w ∷ ts) = cause_date refl refl leads_here
lacking_cause date_text (Bad k ∷ ts) = cause_plain refl
lacking_cause date_text (Name w ∷ ts) = cause_plain refl
lacking_cause date_text (Custom n ∷ ts) = cause_plain refl
lacking_cause date_text (Marked m ∷ ts) = cause_plain refl
lacking_cause function_name ts = cause_plain refl
lacking_cause bare_word ts = cause_plain refl
lacking_cause any_text ts = cause_plain refl
lacking_cause field_number ts = cause_plain refl

caused_both : (f g : Form) (ts mid : List Token) (xs : List Node) (o : Outcome) → Is f ts mid xs → Caused g mid o → Caused (both f g) ts (behind xs o)
caused_both f g ts mid xs (ended rest ys) r s = tt
caused_both f g ts mid xs (halted rest k) r s = through g (both f g) ts mid rest k (λ goal l. leads_latter r l) s

caused_more : (f : Form) (ts mid : List Token) (xs : List Node) (o : Outcome) → Is f ts mid xs → Caused (many f) mid o → Caused (many f) ts (behind xs o)
caused_more f ts mid xs (ended rest ys) r s = tt
caused_more f ts mid xs (halted rest k) r s = through (many f) (many f) ts mid rest k (λ goal l. leads_more r l) s

caused_rule : (l : Label) (f : Form) (ts : List Token) (o : Outcome) → Caused f ts o → Caused (rule l f) ts (turned l o)
caused_rule l f ts (ended rest ys) s = tt
caused_rule l f ts (halted rest k) s = through f (rule l f) ts ts rest k (λ goal d. leads_rule d) s

caused_as : (f g : Form) (ts : List Token) (o : Outcome) → ((goal : Form) (rest : List Token) → Leads goal f ts rest → Leads goal g ts rest) → Caused f ts o → Caused g ts o
caused_as f g ts (ended rest ys) h s = tt
caused_as f g ts (halted rest k) h s = through f g ts ts rest k (λ goal l. h goal rest l) s

pub caused : {f : Form} {ts : List Token} {o : Outcome} → Runs f ts o → Caused f ts o
caused (runs_one h) = tt
caused (runs_lacking {c = c} {ts = ts} n) = lacking_cause c ts
caused runs_nothing = tt
caused (runs_halt {f = f} {g = g} {ts = ts} {rest = rest} {k = k} r) = through f (both f g) ts ts rest k (λ goal l. leads_former l) (caused r)
caused (runs_both {f = f} {g = g} {ts = ts} {mid = mid} {xs = xs} {o = o} r s e) = let P : Outcome → Type 0 = λ v. Caused (both f g) ts v in subst P (sym e) (caused_both f g ts mid xs o (tells r) (caused s))
caused (runs_first {f = f} {g = g} {ts = ts} {o = o} h r) = caused_as f (either f g) ts o (λ goal rest l. leads_first l) (caused r)
caused (runs_second {f = f} {g = g} {ts = ts} {o = o} h r) = caused_as g (either f g) ts o (λ goal rest l. leads_second l) (caused r)
caused (runs_stop h) = tt
caused (runs_turn {f = f} {ts = ts} {rest = rest} {k = k} h r) = through f (many f) ts ts rest k (λ goal l. leads_turn l) (caused r)
caused (runs_more {f = f} {ts = ts} {mid = mid} {xs = xs} {o = o} h r s e) = let P : Outcome → Type 0 = λ v. Caused (many f) ts v in subst P (sym e) (caused_more f ts mid xs o (tells r) (caused s))
caused (runs_rule {l = l} {f = f} {ts = ts} {o = o} r e) = let P : Outcome → Type 0 = λ v. Caused (rule l f) ts v in subst P (sym e) (caused_rule l f ts o (caused r))
caused (runs_unit {n = n} {ts = ts} {o = o} r) = caused_as (unit_form (suc n)) (unit (suc n)) ts o (λ goal rest l. leads_unit {n = suc n} l) (caused r)
caused (runs_bottom {ts = ts} {o = o} h r) = caused_as leaf (unit zero) ts o (λ goal rest l. leads_unit {n = zero} l) (caused r)
caused (runs_deep h) = cause_deep refl h leads_here

-- the first token on the way to where a form may stand
leads_looks : {goal f : Form} {ts rest : List Token} → Leads goal f ts rest → first goal (look rest) ≡ true → first f (look ts) ≡ true
leads_looks leads_here h = h
leads_looks (leads_former {f = f} {g = g} {ts = ts} l) h = or_left (first f (look ts)) (nullable f && first g (look ts)) (leads_looks l h)
leads_looks (leads_latter {f = f} {g = g} {ts = ts} r l) h = elim (is_empty_or r) [
  | inr w ↦ or_left (first f (look ts)) (nullable f && first g (look ts)) w
  | inl w ↦ or_right (first f (look ts)) (nullable f && first g (look ts)) (and_both (nullable f) (first g (look ts)) w.1 (ap (λ v. first g (look v)) w.0 ∙ leads_looks l h))
]
leads_looks (leads_first {f = f} {g = g} {ts = ts} l) h = or_left (first f (look ts)) (first g (look ts)) (leads_looks l h)
leads_looks (leads_second {f = f} {g = g} {ts = ts} l) h = or_right (first f (look ts)) (first g (look ts)) (leads_looks l h)
leads_looks (leads_turn l) h = leads_looks l h
leads_looks (leads_more {f = f} {ts = ts} r l) h = elim (is_empty_or r) [
  | inr w ↦ w
  | inl w ↦ ap (λ v. first f (look v)) w.0 ∙ leads_looks l h
]
leads_looks (leads_rule l) h = leads_looks l h
leads_looks (leads_unit {n = n} {ts = ts} l) h = unit_first n ts (leads_looks l h)

-- a reader comes to the place, and halts there where the form that may stand there does
pub leads_halts : {goal f : Form} {ts rest : List Token} {k : Kind} → IsPlain f → Leads goal f ts rest → first goal (look rest) ≡ true → Runs goal rest (halted rest k) → Runs f ts (halted rest k)
leads_halts p leads_here h r = r
leads_halts (plain_both p q a) (leads_former l) h r = runs_halt (leads_halts p l h r)
leads_halts (plain_both {f = f} {g = g} p q a) (leads_latter {mid = mid} i l) h r = runs_both (is_read p i (apart_left (go_on f) (first g) mid a (leads_looks l h))) (leads_halts q l h r) refl
leads_halts (plain_either p q a d) (leads_first l) h r = runs_first (leads_looks l h) (leads_halts p l h r)
leads_halts (plain_either {f = f} {g = g} p q a d) (leads_second {ts = ts} l) h r = runs_second (apart_left (first f) (first g) ts a (leads_looks l h)) (leads_halts q l h r)
leads_halts (plain_many p a d) (leads_turn l) h r = runs_turn (leads_looks l h) (leads_halts p l h r)
leads_halts (plain_many {f = f} p a d) (leads_more {mid = mid} i l) h r = elim (is_empty_or i) [
  | inl w ↦ absurd (differ (sym w.1 ∙ d))
  | inr w ↦ runs_more w (is_read p i (apart_left (go_on f) (first f) mid a (leads_looks l h))) (leads_halts (plain_many p a d) l h r) refl
]
leads_halts (plain_rule p) (leads_rule l) h r = runs_rule (leads_halts p l h r) refl
leads_halts p (leads_unit {n = suc n} l) h r = runs_unit (leads_halts (unit_plain (suc n)) l h r)
leads_halts p (leads_unit {n = zero} {ts = ts} l) h r = runs_bottom (apart_right (first leaf) opens ts leaf_opens_not (leads_looks l h)) (leads_halts leaf_plain l h r)

pub leads_begins : {goal f : Form} {ts rest after : List Token} → Leads goal f ts rest → Begins goal rest after → Begins f ts after
leads_begins leads_here b = b
leads_begins (leads_former l) b = begins_former (leads_begins l b)
leads_begins (leads_latter r l) b = begins_latter r (leads_begins l b)
leads_begins (leads_first l) b = begins_first (leads_begins l b)
leads_begins (leads_second l) b = begins_second (leads_begins l b)
leads_begins (leads_turn l) b = begins_turn (leads_begins l b)
leads_begins (leads_more r l) b = begins_more r (leads_begins l b)
leads_begins (leads_rule l) b = begins_rule (leads_begins l b)
leads_begins (leads_unit l) b = begins_unit (leads_begins l b)
