-- What a form says of tokens, and how its reader goes: each tells the other.
use Rattle.std.proofs.Common.{◌≡◌, ℕ, zero, suc, ◌≤◌, Bool, true, false, ◌&&◌, ◌||◌, List, [], ◌∷◌, length, refl, ap, sym, ◌∙◌, inl, inr, arith, subst}
use Rattle.jql_syntax.specs.Node.{Node, text, number, Label}
use Rattle.jql_syntax.specs.Form.{Class, IsOf, of_sign, of_word, of_quoted, of_date_word, of_date_quoted, of_name, of_bare_word, of_bare_name, of_any_word, of_any_name, of_any_quoted, of_number, Form, both, either, many, rule, unit}
use Rattle.jql_syntax.specs.Grammar.{unit_form, leaf, aspect}
use Rattle.jql_syntax.specs.Reads.{Is, is_one, is_nothing, is_both, is_first, is_second, is_none, is_more, is_rule, is_unit, Begins, begins_here, begins_one, begins_former, begins_latter, begins_first, begins_second, begins_turn, begins_more, begins_rule, begins_unit}
use Rattle.jql_syntax.specs.Machine.{look, nullable, first, go_on, opens, IsPlain, plain_both, plain_either, plain_many, plain_rule, Outcome, ended, halted, left_at, behind, turned, Runs, runs_one, runs_lacking, runs_nothing, runs_halt, runs_both, runs_first, runs_second, runs_stop, runs_turn, runs_more, runs_rule, runs_unit, runs_bottom, runs_deep}
use Rattle.jql_syntax.specs.declared.token.Token.{Token}
use Rattle.jql_syntax.specs.declared.token.Token.TheVariants.{Marked, Word, Name, Quoted, Custom, Bad}
use Rattle.jql_syntax.specs.declared.token.Kind.{Kind}
use Rattle.jql_syntax.proofs.Apart.{differ, true_or_false, not_left, not_right, apart_right, apart_left, never_both}
use Rattle.jql_syntax.proofs.Steps.{unit_goes_on, unit_not_nullable, is_empty_or, begins_empty_or, runs_shorter, left_behind, left_turned}
use Rattle.jql_syntax.proofs.Plain.{leaf_plain, unit_plain, leaf_opens_not}

-- a token stands for the same parts in every kind of which it is
abbrev parts_of : Token → List Node
parts_of (Marked m) = []
parts_of (Word w) = text w ∷ []
parts_of (Name w) = text w ∷ []
parts_of (Quoted w) = text w ∷ []
parts_of (Custom n) = number n ∷ []
parts_of (Bad k) = []

of_parts : {c : Class} {t : Token} {xs : List Node} → IsOf c t xs → xs ≡ parts_of t
of_parts of_sign = refl
of_parts of_word = refl
of_parts of_quoted = refl
of_parts (of_date_word h) = refl
of_parts (of_date_quoted h) = refl
of_parts of_name = refl
of_parts of_bare_word = refl
of_parts of_bare_name = refl
of_parts of_any_word = refl
of_parts of_any_name = refl
of_parts of_any_quoted = refl
of_parts of_number = refl

of_same : {c : Class} {t : Token} {xs ys : List Node} → IsOf c t xs → IsOf c t ys → xs ≡ ys
of_same h k = of_parts h ∙ sym (of_parts k)

pub ended_or_halted : {r s : List Token} {xs : List Node} {k : Kind} → ended r xs ≡ halted s k → ⊥
ended_or_halted e = cc

ended_left : {r s : List Token} {xs ys : List Node} → ended r xs ≡ ended s ys → r ≡ s
ended_left e = cc

ended_parts : {r s : List Token} {xs ys : List Node} → ended r xs ≡ ended s ys → xs ≡ ys
ended_parts e = cc

-- reading ends in one way
pub one_end : {f : Form} {ts : List Token} {o p : Outcome} → Runs f ts o → Runs f ts p → o ≡ p
one_end (runs_one {ts = ts} h) (runs_one k) = ap (ended ts) (of_same h k)
one_end (runs_one {t = t} {ts = ts} {xs = xs} h) (runs_lacking n) = absurd (n t ts xs refl h)
one_end (runs_lacking n) (runs_one {t = t} {ts = ts} {xs = xs} h) = absurd (n t ts xs refl h)
one_end (runs_lacking n) (runs_lacking m) = refl
one_end runs_nothing runs_nothing = refl
one_end (runs_halt r) (runs_halt s) = one_end r s
one_end (runs_halt r) (runs_both s t e) = absurd (ended_or_halted (sym (one_end r s)))
one_end (runs_both r s e) (runs_halt t) = absurd (ended_or_halted (one_end r t))
one_end (runs_both {g = g} {mid = mid} {xs = xs} {o = o} r s e) (runs_both {xs = ys} {o = p} t u d) =
    let h = one_end r t in
    let u' : Runs g mid p = subst (λ v. Runs g v p) (sym (ended_left h)) u in
    e ∙ ap (λ v. behind v o) (ended_parts h) ∙ ap (behind ys) (one_end s u') ∙ sym d
one_end (runs_first h r) (runs_first k s) = one_end r s
one_end (runs_first h r) (runs_second k s) = absurd (differ (sym h ∙ k))
one_end (runs_second h r) (runs_first k s) = absurd (differ (sym k ∙ h))
one_end (runs_second h r) (runs_second k s) = one_end r s
one_end (runs_stop h) (runs_stop k) = refl
one_end (runs_stop h) (runs_turn k s) = absurd (differ (sym k ∙ h))
one_end (runs_stop h) (runs_more k s t e) = absurd (differ (sym k ∙ h))
one_end (runs_turn h r) (runs_stop k) = absurd (differ (sym h ∙ k))
one_end (runs_turn h r) (runs_turn k s) = one_end r s
one_end (runs_turn h r) (runs_more k s t e) = absurd (ended_or_halted (sym (one_end r s)))
one_end (runs_more h r s e) (runs_stop k) = absurd (differ (sym h ∙ k))
one_end (runs_more h r s e) (runs_turn k t) = absurd (ended_or_halted (one_end r t))
one_end (runs_more {f = f} {mid = mid} {xs = xs} {o = o} c r s e) (runs_more {xs = ys} {o = p} b t u d) =
    let h = one_end r t in
    let u' : Runs (many f) mid p = subst (λ v. Runs (many f) v p) (sym (ended_left h)) u in
    e ∙ ap (λ v. behind v o) (ended_parts h) ∙ ap (behind ys) (one_end s u') ∙ sym d
one_end (runs_rule {l = l} r e) (runs_rule s d) = e ∙ ap (turned l) (one_end r s) ∙ sym d
one_end (runs_unit r) (runs_unit s) = one_end r s
one_end (runs_bottom h r) (runs_bottom k s) = one_end r s
one_end (runs_bottom h r) (runs_deep k) = absurd (differ (sym k ∙ h))
one_end (runs_deep h) (runs_bottom k s) = absurd (differ (sym h ∙ k))
one_end (runs_deep h) (runs_deep k) = refl

and_not : (a b : Bool) → (a && b) ≡ false → a ≡ true → b ≡ false
and_not true b h k = h
and_not false b h k = absurd (differ (sym k))

goes_not : (n : ℕ) (ts : List Token) → first aspect (look ts) ≡ false → go_on (unit_form n) (look ts) ≡ false
goes_not n ts h = elim (true_or_false (go_on (unit_form n) (look ts))) [ inl k ↦ absurd (differ (sym (unit_goes_on n ts k) ∙ h)) | inr k ↦ k ]

-- what has the form, and doesn't go on, is read
pub is_read : {f : Form} {ts rest : List Token} {xs : List Node} → IsPlain f → Is f ts rest xs → go_on f (look rest) ≡ false → Runs f ts (ended rest xs)
is_read p (is_one h) n = runs_one h
is_read p is_nothing n = runs_nothing
is_read (plain_both {f = f} {g = g} p q a) (is_both {mid = mid} {rest = rest} r s e) n =
    let h = not_left (go_on g (look rest)) (nullable g && go_on f (look rest)) n in
    let k = not_right (go_on g (look rest)) (nullable g && go_on f (look rest)) n in
    let m : go_on f (look mid) ≡ false = elim (is_empty_or s) [
      | inl w ↦ ap (λ v. go_on f (look v)) w.0 ∙ and_not (nullable g) (go_on f (look rest)) k w.1
      | inr w ↦ apart_left (go_on f) (first g) mid a w
    ] in
    runs_both (is_read p r m) (is_read q s h) (ap (ended rest) e)
is_read (plain_either {f = f} {g = g} p q a d) (is_first {ts = ts} {rest = rest} r) n =
    let h = not_left (go_on f (look rest)) (go_on g (look rest)) (not_left (go_on f (look rest) || go_on g (look rest)) (nullable g && first f (look rest)) n) in
    elim (is_empty_or r) [
      | inl w ↦ absurd (differ (sym w.1 ∙ d))
      | inr w ↦ runs_first w (is_read p r h)
    ]
is_read (plain_either {f = f} {g = g} p q a d) (is_second {ts = ts} {rest = rest} r) n =
    let h = not_right (go_on f (look rest)) (go_on g (look rest)) (not_left (go_on f (look rest) || go_on g (look rest)) (nullable g && first f (look rest)) n) in
    let k = not_right (go_on f (look rest) || go_on g (look rest)) (nullable g && first f (look rest)) n in
    let m : first f (look ts) ≡ false = elim (is_empty_or r) [
      | inl w ↦ ap (λ v. first f (look v)) w.0 ∙ and_not (nullable g) (first f (look rest)) k w.1
      | inr w ↦ apart_left (first f) (first g) ts a w
    ] in
    runs_second m (is_read q r h)
is_read (plain_many {f = f} p a d) (is_none {ts = ts}) n = runs_stop (not_left (first f (look ts)) (go_on f (look ts)) n)
is_read (plain_many {f = f} p a d) (is_more {ts = ts} {mid = mid} {rest = rest} r s e) n =
    let m : go_on f (look mid) ≡ false = elim (is_empty_or s) [
      | inl w ↦ ap (λ v. go_on f (look v)) w.0 ∙ not_right (first f (look rest)) (go_on f (look rest)) n
      | inr w ↦ apart_left (go_on f) (first f) mid a w
    ] in
    elim (is_empty_or r) [
      | inl w ↦ absurd (differ (sym w.1 ∙ d))
      | inr w ↦ runs_more w (is_read p r m) (is_read (plain_many p a d) s n) (ap (ended rest) e)
    ]
is_read (plain_rule p) (is_rule {rest = rest} r e) n = runs_rule (is_read p r n) (ap (ended rest) e)
is_read p (is_unit {n = zero} {ts = ts} {rest = rest} r) n =
    let h : go_on leaf (look rest) ≡ false = goes_not zero rest n in
    elim (is_empty_or r) [
      | inl w ↦ absurd (differ (sym w.1 ∙ unit_not_nullable zero))
      | inr w ↦ runs_bottom (apart_right (first leaf) opens ts leaf_opens_not w) (is_read leaf_plain r h)
    ]
is_read p (is_unit {n = suc m} {rest = rest} r) n = runs_unit (is_read (unit_plain (suc m)) r (goes_not (suc m) rest n))

-- what a reader's end says of the relation
abbrev pub Tells : Form → List Token → Outcome → Type 0
Tells f ts (ended rest xs) = Is f ts rest xs
Tells f ts (halted rest k) = Begins f ts rest

tells_both : (f g : Form) (ts mid : List Token) (xs : List Node) (o : Outcome) → Is f ts mid xs → Tells g mid o → Tells (both f g) ts (behind xs o)
tells_both f g ts mid xs (ended rest ys) r s = is_both r s refl
tells_both f g ts mid xs (halted rest k) r s = begins_latter r s

tells_more : (f : Form) (ts mid : List Token) (xs : List Node) (o : Outcome) → Is f ts mid xs → Tells (many f) mid o → Tells (many f) ts (behind xs o)
tells_more f ts mid xs (ended rest ys) r s = is_more r s refl
tells_more f ts mid xs (halted rest k) r s = begins_more r s

tells_rule : (l : Label) (f : Form) (ts : List Token) (o : Outcome) → Tells f ts o → Tells (rule l f) ts (turned l o)
tells_rule l f ts (ended rest ys) r = is_rule r refl
tells_rule l f ts (halted rest k) r = begins_rule r

tells_first : (f g : Form) (ts : List Token) (o : Outcome) → Tells f ts o → Tells (either f g) ts o
tells_first f g ts (ended rest ys) r = is_first r
tells_first f g ts (halted rest k) r = begins_first r

tells_second : (f g : Form) (ts : List Token) (o : Outcome) → Tells g ts o → Tells (either f g) ts o
tells_second f g ts (ended rest ys) r = is_second r
tells_second f g ts (halted rest k) r = begins_second r

tells_unit : (n : ℕ) (ts : List Token) (o : Outcome) → Tells (unit_form n) ts o → Tells (unit n) ts o
tells_unit n ts (ended rest ys) r = is_unit r
tells_unit n ts (halted rest k) r = begins_unit r

pub tells : {f : Form} {ts : List Token} {o : Outcome} → Runs f ts o → Tells f ts o
tells (runs_one h) = is_one h
tells (runs_lacking n) = begins_here
tells runs_nothing = is_nothing
tells (runs_halt r) = begins_former (tells r)
tells (runs_both {f = f} {g = g} {ts = ts} {mid = mid} {xs = xs} {o = o} r s e) = let P : Outcome → Type 0 = λ v. Tells (both f g) ts v in subst P (sym e) (tells_both f g ts mid xs o (tells r) (tells s))
tells (runs_first {f = f} {g = g} {ts = ts} {o = o} h r) = tells_first f g ts o (tells r)
tells (runs_second {f = f} {g = g} {ts = ts} {o = o} h r) = tells_second f g ts o (tells r)
tells (runs_stop h) = is_none
tells (runs_turn h r) = begins_turn (tells r)
tells (runs_more {f = f} {ts = ts} {mid = mid} {xs = xs} {o = o} h r s e) = let P : Outcome → Type 0 = λ v. Tells (many f) ts v in subst P (sym e) (tells_more f ts mid xs o (tells r) (tells s))
tells (runs_rule {l = l} {f = f} {ts = ts} {o = o} r e) = let P : Outcome → Type 0 = λ v. Tells (rule l f) ts v in subst P (sym e) (tells_rule l f ts o (tells r))
tells (runs_unit {n = n} {ts = ts} {o = o} r) = tells_unit (suc n) ts o (tells r)
tells (runs_bottom {ts = ts} {o = o} h r) = tells_unit zero ts o (tells r)
tells (runs_deep h) = begins_here

-- A reader goes at least as far as the tokens have the form, or begin it.
same_length : {a b : List Token} → a ≡ b → length a ≡ length b
same_length e = ap length e

pub reaches_end : {f : Form} {ts rest : List Token} {xs : List Node} {o : Outcome} → IsPlain f → Is f ts rest xs → Runs f ts o → length (left_at o) ≤ length rest
reaches_end p (is_one h) (runs_one k) = omega arith
reaches_end p (is_one {t = t} {ts = ts} {xs = xs} h) (runs_lacking n) = absurd (n t ts xs refl h)
reaches_end p is_nothing runs_nothing = omega arith
reaches_end (plain_both {f = f} {g = g} p q a) (is_both {mid = mid} r s e) (runs_halt u) = elim (is_empty_or s) [
  | inl w ↦ let d = same_length w.0 in let h = reaches_end p r u in omega arith
  | inr w ↦ absurd (ended_or_halted (one_end (is_read p r (apart_left (go_on f) (first g) mid a w)) u))
]
reaches_end (plain_both {f = f} {g = g} p q a) (is_both {mid = mid} r s e) (runs_both {mid = m} {xs = ys} {o = o} u v c) =
    let c' = same_length (left_behind ys o c) in
    elim (is_empty_or s) [
      | inl w ↦ let d = same_length w.0 in let h = reaches_end p r u in let k = runs_shorter v in omega arith
      | inr w ↦
          let i = ended_left (one_end u (is_read p r (apart_left (go_on f) (first g) mid a w))) in
          let v' : Runs g mid o = subst (λ z. Runs g z o) i v in
          let h = reaches_end q s v' in omega arith
    ]
reaches_end (plain_either p q a d) (is_first r) (runs_first h u) = reaches_end p r u
reaches_end (plain_either p q a d) (is_first r) (runs_second h u) = elim (is_empty_or r) [
  | inl w ↦ absurd (differ (sym w.1 ∙ d))
  | inr w ↦ absurd (differ (sym w ∙ h))
]
reaches_end (plain_either {f = f} {g = g} p q a d) (is_second {ts = ts} r) (runs_first h u) = elim (is_empty_or r) [
  | inl w ↦ let k = runs_shorter u in let c = same_length w.0 in omega arith
  | inr w ↦ absurd (never_both (first f) (first g) ts a h w)
]
reaches_end (plain_either p q a d) (is_second r) (runs_second h u) = reaches_end q r u
reaches_end p is_none u = runs_shorter u
reaches_end (plain_many p a d) (is_more r s e) (runs_stop h) = elim (is_empty_or r) [
  | inl w ↦ absurd (differ (sym w.1 ∙ d))
  | inr w ↦ absurd (differ (sym w ∙ h))
]
reaches_end (plain_many {f = f} p a d) (is_more {mid = mid} r s e) (runs_turn h u) = elim (is_empty_or s) [
  | inl w ↦ let c = same_length w.0 in let k = reaches_end p r u in omega arith
  | inr w ↦ absurd (ended_or_halted (one_end (is_read p r (apart_left (go_on f) (first f) mid a w)) u))
]
reaches_end (plain_many {f = f} p a d) (is_more {mid = mid} r s e) (runs_more {xs = ys} {o = o} b u v c) =
    let c' = same_length (left_behind ys o c) in
    elim (is_empty_or s) [
      | inl w ↦ let j = same_length w.0 in let h = reaches_end p r u in let k = runs_shorter v in omega arith
      | inr w ↦
          let i = ended_left (one_end u (is_read p r (apart_left (go_on f) (first f) mid a w))) in
          let v' : Runs (many f) mid o = subst (λ z. Runs (many f) z o) i v in
          let h = reaches_end (plain_many p a d) s v' in omega arith
    ]
reaches_end (plain_rule p) (is_rule r e) (runs_rule {l = l} {o = o} u c) = let h = reaches_end p r u in let c' = same_length (left_turned l o c) in omega arith
reaches_end p (is_unit {n = suc n} r) (runs_unit u) = reaches_end (unit_plain (suc n)) r u
reaches_end p (is_unit {n = zero} r) (runs_bottom h u) = reaches_end leaf_plain r u
reaches_end p (is_unit {n = zero} {ts = ts} r) (runs_deep h) = elim (is_empty_or r) [
  | inl w ↦ absurd (differ (sym w.1 ∙ unit_not_nullable zero))
  | inr w ↦ absurd (never_both (first leaf) opens ts leaf_opens_not w h)
]

pub reaches : {f : Form} {ts rest : List Token} {o : Outcome} → IsPlain f → Begins f ts rest → Runs f ts o → length (left_at o) ≤ length rest
reaches p begins_here u = runs_shorter u
reaches p (begins_one h) (runs_one k) = omega arith
reaches p (begins_one {t = t} {ts = ts} {xs = xs} h) (runs_lacking n) = absurd (n t ts xs refl h)
reaches (plain_both p q a) (begins_former r) (runs_halt u) = reaches p r u
reaches (plain_both p q a) (begins_former r) (runs_both {xs = ys} {o = o} u v c) =
    let c' = same_length (left_behind ys o c) in let h = reaches p r u in let k = runs_shorter v in omega arith
reaches (plain_both {f = f} {g = g} p q a) (begins_latter {mid = mid} r s) (runs_halt u) = elim (begins_empty_or s) [
  | inl w ↦ let d = same_length w in let h = reaches_end p r u in omega arith
  | inr w ↦ absurd (ended_or_halted (one_end (is_read p r (apart_left (go_on f) (first g) mid a w)) u))
]
reaches (plain_both {f = f} {g = g} p q a) (begins_latter {mid = mid} r s) (runs_both {xs = ys} {o = o} u v c) =
    let c' = same_length (left_behind ys o c) in
    elim (begins_empty_or s) [
      | inl w ↦ let d = same_length w in let h = reaches_end p r u in let k = runs_shorter v in omega arith
      | inr w ↦
          let i = ended_left (one_end u (is_read p r (apart_left (go_on f) (first g) mid a w))) in
          let v' : Runs g mid o = subst (λ z. Runs g z o) i v in
          let h = reaches q s v' in omega arith
    ]
reaches (plain_either p q a d) (begins_first r) (runs_first h u) = reaches p r u
reaches (plain_either p q a d) (begins_first r) (runs_second h u) = elim (begins_empty_or r) [
  | inl w ↦ let c = same_length w in let k = runs_shorter u in omega arith
  | inr w ↦ absurd (differ (sym w ∙ h))
]
reaches (plain_either {f = f} {g = g} p q a d) (begins_second {ts = ts} r) (runs_first h u) = elim (begins_empty_or r) [
  | inl w ↦ let k = runs_shorter u in let c = same_length w in omega arith
  | inr w ↦ absurd (never_both (first f) (first g) ts a h w)
]
reaches (plain_either p q a d) (begins_second r) (runs_second h u) = reaches q r u
reaches (plain_many p a d) (begins_turn r) (runs_stop h) = elim (begins_empty_or r) [
  | inl w ↦ let c = same_length w in omega arith
  | inr w ↦ absurd (differ (sym w ∙ h))
]
reaches (plain_many p a d) (begins_turn r) (runs_turn h u) = reaches p r u
reaches (plain_many p a d) (begins_turn r) (runs_more {xs = ys} {o = o} b u v c) =
    let c' = same_length (left_behind ys o c) in let h = reaches p r u in let k = runs_shorter v in omega arith
reaches (plain_many p a d) (begins_more r s) (runs_stop h) = elim (is_empty_or r) [
  | inl w ↦ absurd (differ (sym w.1 ∙ d))
  | inr w ↦ absurd (differ (sym w ∙ h))
]
reaches (plain_many {f = f} p a d) (begins_more {mid = mid} r s) (runs_turn h u) = elim (begins_empty_or s) [
  | inl w ↦ let c = same_length w in let k = reaches_end p r u in omega arith
  | inr w ↦ absurd (ended_or_halted (one_end (is_read p r (apart_left (go_on f) (first f) mid a w)) u))
]
reaches (plain_many {f = f} p a d) (begins_more {mid = mid} r s) (runs_more {xs = ys} {o = o} b u v c) =
    let c' = same_length (left_behind ys o c) in
    elim (begins_empty_or s) [
      | inl w ↦ let j = same_length w in let h = reaches_end p r u in let k = runs_shorter v in omega arith
      | inr w ↦
          let i = ended_left (one_end u (is_read p r (apart_left (go_on f) (first f) mid a w))) in
          let v' : Runs (many f) mid o = subst (λ z. Runs (many f) z o) i v in
          let h = reaches (plain_many p a d) s v' in omega arith
    ]
reaches (plain_rule p) (begins_rule r) (runs_rule {l = l} {o = o} u c) = let h = reaches p r u in let c' = same_length (left_turned l o c) in omega arith
reaches p (begins_unit {n = suc n} r) (runs_unit u) = reaches (unit_plain (suc n)) r u
reaches p (begins_unit {n = zero} r) (runs_bottom h u) = reaches leaf_plain r u
reaches p (begins_unit {n = zero} {ts = ts} r) (runs_deep h) = elim (begins_empty_or r) [
  | inl w ↦ let c = same_length w in omega arith
  | inr w ↦ absurd (never_both (first leaf) opens ts leaf_opens_not w h)
]
