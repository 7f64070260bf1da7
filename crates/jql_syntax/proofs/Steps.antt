-- Facts of the relations that hold of every form.
use Rattle.std.proofs.Common.{◌≡◌, ℕ, zero, suc, ◌≤◌, Bool, true, false, ◌&&◌, ◌==◌, not, List, ◌∷◌, length, refl, ap, sym, ◌∙◌, ◌⊎◌, inl, inr, arith}
use Rattle.jql_syntax.specs.Node.{Node, Label}
use Rattle.jql_syntax.specs.Form.{Class, IsOf, of_sign, of_word, of_quoted, of_date_word, of_date_quoted, of_name, of_bare_word, of_bare_name, of_any_word, of_any_name, of_any_quoted, of_number, Form}
use Rattle.jql_syntax.specs.Grammar.{unit_form, leaf, aspect}
use Rattle.jql_syntax.specs.Reads.{Is, is_one, is_nothing, is_both, is_first, is_second, is_none, is_more, is_rule, is_unit, Begins, begins_here, begins_one, begins_former, begins_latter, begins_first, begins_second, begins_turn, begins_more, begins_rule, begins_unit}
use Rattle.jql_syntax.specs.Machine.{look, looks, nullable, first, go_on, unit_looks, are_apart, Outcome, ended, halted, left_at, behind, turned, Runs, runs_one, runs_lacking, runs_nothing, runs_halt, runs_both, runs_first, runs_second, runs_stop, runs_turn, runs_more, runs_rule, runs_unit, runs_bottom, runs_deep}
use Rattle.jql_syntax.specs.declared.token.Token.{Token}
use Rattle.jql_syntax.specs.declared.token.Token.TheVariants.{Marked}
use Rattle.std.proofs.lemmas.Bool.Decides.{nat_tests}
use Rattle.jql_syntax.proofs.Apart.{differ, or_left, or_right, never_both, and_both}

eq_self : (k : ℕ) → (k == k) ≡ true
eq_self k = grind (arith, nat_tests)

pub of_looks : {c : Class} {t : Token} {xs : List Node} (ts : List Token) → IsOf c t xs → looks c (look (t ∷ ts)) ≡ true
of_looks ts (of_sign {m = m}) = eq_self (look (Marked m ∷ ts))
of_looks ts of_word = refl
of_looks ts of_quoted = refl
of_looks ts (of_date_word h) = refl
of_looks ts (of_date_quoted h) = refl
of_looks ts of_name = refl
of_looks ts of_bare_word = refl
of_looks ts of_bare_name = refl
of_looks ts of_any_word = refl
of_looks ts of_any_name = refl
of_looks ts of_any_quoted = refl
of_looks ts of_number = refl

-- how a unit's form looks
no_leaf_else : are_apart (first leaf) (λ k. not (unit_looks k)) ≡ true
unfolding are_apart
no_leaf_else = refl

no_unit_else : (n : ℕ) → are_apart (first (unit_form (suc n))) (λ k. not (unit_looks k)) ≡ true
unfolding are_apart
no_unit_else n = refl

goes_no_leaf_else : are_apart (go_on leaf) (λ k. not (first aspect k)) ≡ true
unfolding are_apart
goes_no_leaf_else = refl

goes_no_unit_else : (n : ℕ) → are_apart (go_on (unit_form (suc n))) (λ k. not (first aspect k)) ≡ true
unfolding are_apart
goes_no_unit_else n = refl

not_not : (b : Bool) → (not b ≡ true → ⊥) → b ≡ true
not_not true h = refl
not_not false h = absurd (h refl)

pub unit_first : (n : ℕ) (ts : List Token) → first (unit_form n) (look ts) ≡ true → unit_looks (look ts) ≡ true
unit_first zero ts h = not_not (unit_looks (look ts)) (never_both (first leaf) (λ k. not (unit_looks k)) ts no_leaf_else h)
unit_first (suc n) ts h = not_not (unit_looks (look ts)) (never_both (first (unit_form (suc n))) (λ k. not (unit_looks k)) ts (no_unit_else n) h)

pub unit_goes_on : (n : ℕ) (ts : List Token) → go_on (unit_form n) (look ts) ≡ true → first aspect (look ts) ≡ true
unit_goes_on zero ts h = not_not (first aspect (look ts)) (never_both (go_on leaf) (λ k. not (first aspect k)) ts goes_no_leaf_else h)
unit_goes_on (suc n) ts h = not_not (first aspect (look ts)) (never_both (go_on (unit_form (suc n))) (λ k. not (first aspect k)) ts (goes_no_unit_else n) h)

pub unit_not_nullable : (n : ℕ) → nullable (unit_form n) ≡ false
unit_not_nullable zero = refl
unit_not_nullable (suc n) = refl

-- what is read is begun
pub is_begins : {f : Form} {ts rest : List Token} {xs : List Node} → Is f ts rest xs → Begins f ts rest
is_begins (is_one h) = begins_one h
is_begins is_nothing = begins_here
is_begins (is_both r s e) = begins_latter r (is_begins s)
is_begins (is_first r) = begins_first (is_begins r)
is_begins (is_second r) = begins_second (is_begins r)
is_begins is_none = begins_here
is_begins (is_more r s e) = begins_more r (is_begins s)
is_begins (is_rule r e) = begins_rule (is_begins r)
is_begins (is_unit r) = begins_unit (is_begins r)

-- a form that takes no token can be empty, and one that takes some begins with a token that it looks for
pub is_empty_or : {f : Form} {ts rest : List Token} {xs : List Node} → Is f ts rest xs → ((ts ≡ rest) × (nullable f ≡ true)) ⊎ (first f (look ts) ≡ true)
is_empty_or (is_one {ts = ts} h) = inr (of_looks ts h)
is_empty_or is_nothing = inl (refl, refl)
is_empty_or (is_both {f = f} {g = g} {ts = ts} r s e) = elim (is_empty_or r) [
  | inr h ↦ inr (or_left (first f (look ts)) (nullable f && first g (look ts)) h)
  | inl p ↦ elim (is_empty_or s) [
    | inl q ↦ inl (p.0 ∙ q.0, and_both (nullable f) (nullable g) p.1 q.1)
    | inr h ↦ inr (or_right (first f (look ts)) (nullable f && first g (look ts)) (and_both (nullable f) (first g (look ts)) p.1 (ap (λ v. first g (look v)) p.0 ∙ h)))
  ]
]
is_empty_or (is_first {f = f} {g = g} {ts = ts} r) = elim (is_empty_or r) [
  | inl p ↦ inl (p.0, or_left (nullable f) (nullable g) p.1)
  | inr h ↦ inr (or_left (first f (look ts)) (first g (look ts)) h)
]
is_empty_or (is_second {f = f} {g = g} {ts = ts} r) = elim (is_empty_or r) [
  | inl p ↦ inl (p.0, or_right (nullable f) (nullable g) p.1)
  | inr h ↦ inr (or_right (first f (look ts)) (first g (look ts)) h)
]
is_empty_or is_none = inl (refl, refl)
is_empty_or (is_more {f = f} {ts = ts} r s e) = elim (is_empty_or r) [
  | inr h ↦ inr h
  | inl p ↦ elim (is_empty_or s) [
    | inl q ↦ inl (p.0 ∙ q.0, refl)
    | inr h ↦ inr (ap (λ v. first f (look v)) p.0 ∙ h)
  ]
]
is_empty_or (is_rule r e) = is_empty_or r
is_empty_or (is_unit {n = n} {ts = ts} r) = elim (is_empty_or r) [
  | inl p ↦ absurd (differ (sym p.1 ∙ unit_not_nullable n))
  | inr h ↦ inr (unit_first n ts h)
]

pub begins_empty_or : {f : Form} {ts rest : List Token} → Begins f ts rest → (ts ≡ rest) ⊎ (first f (look ts) ≡ true)
begins_empty_or begins_here = inl refl
begins_empty_or (begins_one {ts = ts} h) = inr (of_looks ts h)
begins_empty_or (begins_former {f = f} {g = g} {ts = ts} r) = elim (begins_empty_or r) [
  | inl p ↦ inl p
  | inr h ↦ inr (or_left (first f (look ts)) (nullable f && first g (look ts)) h)
]
begins_empty_or (begins_latter {f = f} {g = g} {ts = ts} r s) = elim (is_empty_or r) [
  | inr h ↦ inr (or_left (first f (look ts)) (nullable f && first g (look ts)) h)
  | inl p ↦ elim (begins_empty_or s) [
    | inl q ↦ inl (p.0 ∙ q)
    | inr h ↦ inr (or_right (first f (look ts)) (nullable f && first g (look ts)) (and_both (nullable f) (first g (look ts)) p.1 (ap (λ v. first g (look v)) p.0 ∙ h)))
  ]
]
begins_empty_or (begins_first {f = f} {g = g} {ts = ts} r) = elim (begins_empty_or r) [
  | inl p ↦ inl p
  | inr h ↦ inr (or_left (first f (look ts)) (first g (look ts)) h)
]
begins_empty_or (begins_second {f = f} {g = g} {ts = ts} r) = elim (begins_empty_or r) [
  | inl p ↦ inl p
  | inr h ↦ inr (or_right (first f (look ts)) (first g (look ts)) h)
]
begins_empty_or (begins_turn r) = begins_empty_or r
begins_empty_or (begins_more {f = f} {ts = ts} r s) = elim (is_empty_or r) [
  | inr h ↦ inr h
  | inl p ↦ elim (begins_empty_or s) [
    | inl q ↦ inl (p.0 ∙ q)
    | inr h ↦ inr (ap (λ v. first f (look v)) p.0 ∙ h)
  ]
]
begins_empty_or (begins_rule r) = begins_empty_or r
begins_empty_or (begins_unit {n = n} {ts = ts} r) = elim (begins_empty_or r) [
  | inl p ↦ inl p
  | inr h ↦ inr (unit_first n ts h)
]

pub is_shorter : {f : Form} {ts rest : List Token} {xs : List Node} → Is f ts rest xs → length rest ≤ length ts
is_shorter (is_one h) = omega arith
is_shorter is_nothing = omega arith
is_shorter (is_both r s e) = let h = is_shorter r in let k = is_shorter s in omega arith
is_shorter (is_first r) = is_shorter r
is_shorter (is_second r) = is_shorter r
is_shorter is_none = omega arith
is_shorter (is_more r s e) = let h = is_shorter r in let k = is_shorter s in omega arith
is_shorter (is_rule r e) = is_shorter r
is_shorter (is_unit r) = is_shorter r

same_left : (xs : List Node) (o : Outcome) → left_at (behind xs o) ≡ left_at o
same_left xs (ended rest ys) = refl
same_left xs (halted rest k) = refl

same_turned : (l : Label) (o : Outcome) → left_at (turned l o) ≡ left_at o
same_turned l (ended rest ys) = refl
same_turned l (halted rest k) = refl

pub left_behind : {p : Outcome} (xs : List Node) (o : Outcome) → p ≡ behind xs o → left_at p ≡ left_at o
left_behind xs o e = ap left_at e ∙ same_left xs o

pub left_turned : {p : Outcome} (l : Label) (o : Outcome) → p ≡ turned l o → left_at p ≡ left_at o
left_turned l o e = ap left_at e ∙ same_turned l o

pub runs_shorter : {f : Form} {ts : List Token} {o : Outcome} → Runs f ts o → length (left_at o) ≤ length ts
runs_shorter (runs_one h) = omega arith
runs_shorter (runs_lacking h) = omega arith
runs_shorter runs_nothing = omega arith
runs_shorter (runs_halt r) = runs_shorter r
runs_shorter (runs_both {xs = xs} {o = o} r s e) = let h = runs_shorter r in let k = runs_shorter s in let d = ap length (left_behind xs o e) in omega arith
runs_shorter (runs_first h r) = runs_shorter r
runs_shorter (runs_second h r) = runs_shorter r
runs_shorter (runs_stop h) = omega arith
runs_shorter (runs_turn h r) = runs_shorter r
runs_shorter (runs_more {xs = xs} {o = o} c r s e) = let h = runs_shorter r in let k = runs_shorter s in let d = ap length (left_behind xs o e) in omega arith
runs_shorter (runs_rule {l = l} {o = o} r e) = let h = runs_shorter r in let d = ap length (left_turned l o e) in omega arith
runs_shorter (runs_unit r) = runs_shorter r
runs_shorter (runs_bottom h r) = runs_shorter r
runs_shorter (runs_deep h) = omega arith
