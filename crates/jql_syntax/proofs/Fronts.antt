-- Each front of tokens that begin a form begins it too, and there is one first fault.
use Rattle.std.proofs.Common.{◌≡◌, ℕ, zero, suc, ◌+◌, ◌-◌, ◌<◌, ◌≤◌, List, [], ◌∷◌, ◌++◌, length, drop, refl, ap, sym, ◌∙◌, inl, inr, arith, subst, Option, Err, length-append, length-drop}
use Rattle.std.proofs.lemmas.Bool.{cases_lt}
use Rattle.std.proofs.Math.Seq.{drop-append-add}
use Rattle.jql_syntax.specs.Node.{Node}
use Rattle.jql_syntax.specs.Form.{Form, one, nothing, both, many}
use Rattle.jql_syntax.specs.Reads.{Is, is_one, is_nothing, is_both, is_first, is_second, is_none, is_more, is_rule, is_unit, Begins, begins_here, begins_one, begins_former, begins_latter, begins_first, begins_second, begins_turn, begins_more, begins_rule, begins_unit}
use Rattle.jql_syntax.specs.declared.token.Token.{Token}
use Rattle.jql_syntax.specs.declared.token.Token.TheVariants.{Marked, Word, Name, Quoted, Custom, Bad}
use Rattle.jql_syntax.specs.declared.token.Kind.{Kind}
use Rattle.jql_syntax.specs.declared.token.Placed.{Placed}
use Rattle.jql_syntax.specs.declared.reader.JqlFault.TheVariants.{Bad as BadText, Memory as JqlMemory}
use Rattle.jql_syntax.specs.declared.reader.JqlFault.{JqlFault}
use Rattle.jql_syntax.specs.declared.query.SortKey.{SortKey}
use Rattle.jql_syntax.specs.Tree.{Tree}
use Rattle.jql_syntax.specs.Tokens.{tokens, words}
use Rattle.jql_syntax.specs.Fault.{IsOpener, IsText, IsBad, IsKind, kind_bad, kind_deep, kind_date, kind_other, IsFault, place_of, FirstFault, too_long, at_token, IsQuery, Faults, Explains, number_of_kind}
use Rattle.jql_syntax.proofs.Reading.{length_words}
use Rattle.jql_syntax.proofs.Whole.{Cut, is_cut, words_drop}

at_none : (P : List Token → Type 0) (ts : List Token) (k : ℕ) → k + length ts ≤ length ts → P ts → P (drop k ts)
at_none P ts zero h p = p
at_none P ts (suc k) h p = absurd (omega arith)

at_one : (P : List Token → Type 0) (t : Token) (ts : List Token) (k : ℕ) → k + length ts ≤ length (t ∷ ts) → P (t ∷ ts) → P ts → P (drop k (t ∷ ts))
at_one P t ts zero h p q = p
at_one P t ts (suc zero) h p q = q
at_one P t ts (suc (suc k)) h p q = absurd (omega arith)

split : (P : List Token → Type 0) (ts mid rest : List Token) → Cut ts mid → ((k : ℕ) → k + length mid ≤ length ts → P (drop k ts)) → ((k : ℕ) → k + length rest ≤ length mid → P (drop k mid)) → (k : ℕ) → k + length rest ≤ length ts → P (drop k ts)
split P ts mid rest c f g k h =
    let n = ap length c.splits ∙ length-append c.before mid in
    elim (cases_lt k (length c.before)) [
      | inl l ↦ f k (omega arith)
      | inr l ↦
          let i : k ≡ length c.before + (k - length c.before) = omega arith in
          let m : drop k ts ≡ drop (k - length c.before) mid = ap (λ v. drop k v) c.splits ∙ ap (λ v. drop v (c.before ++ mid)) i ∙ drop-append-add c.before mid (k - length c.before) in
          subst P (sym m) (g (k - length c.before) (omega arith))
    ]

is_fronts : {f : Form} {ts rest : List Token} {xs : List Node} → Is f ts rest xs → (k : ℕ) → k + length rest ≤ length ts → Begins f ts (drop k ts)
is_fronts (is_one {c = c} {t = t} {ts = ts} h) k e = at_one (Begins (one c) (t ∷ ts)) t ts k e begins_here (begins_one h)
is_fronts (is_nothing {ts = ts}) k e = at_none (Begins nothing ts) ts k e begins_here
is_fronts (is_both {f = f} {g = g} {ts = ts} {mid = mid} {rest = rest} r s e) k h = split (Begins (both f g) ts) ts mid rest (is_cut r) (λ j d. begins_former (is_fronts r j d)) (λ j d. begins_latter r (is_fronts s j d)) k h
is_fronts (is_first r) k h = begins_first (is_fronts r k h)
is_fronts (is_second r) k h = begins_second (is_fronts r k h)
is_fronts (is_none {f = f} {ts = ts}) k e = at_none (Begins (many f) ts) ts k e begins_here
is_fronts (is_more {f = f} {ts = ts} {mid = mid} {rest = rest} r s e) k h = split (Begins (many f) ts) ts mid rest (is_cut r) (λ j d. begins_turn (is_fronts r j d)) (λ j d. begins_more r (is_fronts s j d)) k h
is_fronts (is_rule r e) k h = begins_rule (is_fronts r k h)
is_fronts (is_unit r) k h = begins_unit (is_fronts r k h)

pub fronts : {f : Form} {ts rest : List Token} → Begins f ts rest → (k : ℕ) → k + length rest ≤ length ts → Begins f ts (drop k ts)
fronts (begins_here {f = f} {ts = ts}) k e = at_none (Begins f ts) ts k e begins_here
fronts (begins_one {c = c} {t = t} {ts = ts} h) k e = at_one (Begins (one c) (t ∷ ts)) t ts k e begins_here (begins_one h)
fronts (begins_former r) k h = begins_former (fronts r k h)
fronts (begins_latter {f = f} {g = g} {ts = ts} {mid = mid} {rest = rest} r s) k h = split (Begins (both f g) ts) ts mid rest (is_cut r) (λ j d. begins_former (is_fronts r j d)) (λ j d. begins_latter r (fronts s j d)) k h
fronts (begins_first r) k h = begins_first (fronts r k h)
fronts (begins_second r) k h = begins_second (fronts r k h)
fronts (begins_turn r) k h = begins_turn (fronts r k h)
fronts (begins_more {f = f} {ts = ts} {mid = mid} {rest = rest} r s) k h = split (Begins (many f) ts) ts mid rest (is_cut r) (λ j d. begins_turn (is_fronts r j d)) (λ j d. begins_more r (fronts s j d)) k h
fronts (begins_rule r) k h = begins_rule (fronts r k h)
fronts (begins_unit r) k h = begins_unit (fronts r k h)

bad_same : {rest after other : List Token} {k j : Kind} → rest ≡ Bad k ∷ after → rest ≡ Bad j ∷ other → k ≡ j
bad_same e d = cc

bad_bad : {rest after : List Token} {k : Kind} → rest ≡ Bad k ∷ after → IsBad rest
bad_bad e = rw e tt

bad_opener : {rest after : List Token} {k : Kind} → rest ≡ Bad k ∷ after → IsOpener rest → ⊥
bad_opener e o = rw e at o

bad_text : {rest after : List Token} {k : Kind} → rest ≡ Bad k ∷ after → IsText rest → ⊥
bad_text e o = rw e at o

opener_text : (rest : List Token) → IsOpener rest → IsText rest → ⊥
opener_text [] o t = o
opener_text (Marked m ∷ ts) o t = t
opener_text (Word w ∷ ts) o t = o
opener_text (Quoted w ∷ ts) o t = o
opener_text (Name w ∷ ts) o t = o
opener_text (Custom n ∷ ts) o t = o
opener_text (Bad k ∷ ts) o t = o

next_of : (ts : List Token) (n : ℕ) → n < length ts → (t : Token) × (drop n ts ≡ t ∷ drop (n + 1) ts)
next_of [] n h = absurd (omega arith)
next_of (t ∷ ts) zero h = (t, refl)
next_of (t ∷ ts) (suc n) h =
    let r = next_of ts n (omega arith) in
    let e : suc n + 1 ≡ suc (n + 1) = omega arith in
    (r.0, r.1 ∙ ap (λ v. r.0 ∷ v) (sym (ap (λ v. drop v (t ∷ ts)) e)))

kind_same : {ts rest : List Token} {k j : Kind} → IsKind ts rest k → IsKind ts rest j → k ≡ j
kind_same (kind_bad e) (kind_bad d) = bad_same e d
kind_same (kind_bad e) (kind_deep o l) = absurd (bad_opener e o)
kind_same (kind_bad e) (kind_date o l) = absurd (bad_text e o)
kind_same (kind_bad e) (kind_other b d t) = absurd (b (bad_bad e))
kind_same (kind_deep o l) (kind_bad e) = absurd (bad_opener e o)
kind_same (kind_deep o l) (kind_deep p m) = refl
kind_same {rest = rest} (kind_deep o l) (kind_date p m) = absurd (opener_text rest o p)
kind_same (kind_deep o l) (kind_other b d t) = absurd (d o l)
kind_same (kind_date o l) (kind_bad e) = absurd (bad_text e o)
kind_same {rest = rest} (kind_date o l) (kind_deep p m) = absurd (opener_text rest p o)
kind_same (kind_date o l) (kind_date p m) = refl
kind_same (kind_date o l) (kind_other b d t) = absurd (t o l)
kind_same (kind_other b d t) (kind_bad e) = absurd (b (bad_bad e))
kind_same (kind_other b d t) (kind_deep o l) = absurd (d o l)
kind_same (kind_other b d t) (kind_date o l) = absurd (t o l)
kind_same (kind_other b d t) (kind_other a c s) = refl

earlier : (ts : List Placed) (end p q : ℕ) (k j : Kind) (f : IsFault ts end p k) (g : IsFault ts end q j) → f.number < g.number → ⊥
earlier ts end p q k j f g h =
    let n = length_words ts in
    let w = length_words (drop g.number ts) in
    let d = length-drop g.number ts in
    let i = g.within in
    let b = fronts g.begins (f.number + 1) (omega arith) in
    let s = next_of (words ts) f.number (omega arith) in
    f.stops s.0 (drop (f.number + 1) (words ts)) (words_drop f.number ts ∙ s.1) b

same_number : (ts : List Placed) (end p q : ℕ) (k j : Kind) (f : IsFault ts end p k) (g : IsFault ts end q j) → f.number ≡ g.number
same_number ts end p q k j f g = elim (cases_lt f.number g.number) [
  | inl h ↦ absurd (earlier ts end p q k j f g h)
  | inr h ↦ elim (cases_lt g.number f.number) [
    | inl i ↦ absurd (earlier ts end q p j k g f i)
    | inr i ↦ omega arith
  ]
]

-- no tokens have two first faults
pub one_fault : (ts : List Placed) (end p q : ℕ) (k j : Kind) → IsFault ts end p k → IsFault ts end q j → (p ≡ q) × (k ≡ j)
one_fault ts end p q k j f g =
    let e = same_number ts end p q k j f g in
    let P : ℕ → Type 0 = λ v. IsKind (words ts) (words (drop v ts)) k in
    (f.place_is ∙ ap (λ v. place_of end (drop v ts)) e ∙ sym g.place_is, kind_same (subst P e f.kind_is) g.kind_is)

-- no text has two first faults
pub one_text_fault : (text : List ℕ) (p q : ℕ) (k j : Kind) → FirstFault text p k → FirstFault text q j → (p ≡ q) × (k ≡ j)
one_text_fault text p q k j (too_long h a b) (too_long i c d) = (a ∙ sym c, b ∙ sym d)
one_text_fault text p q k j (too_long h a b) (at_token i g) = absurd (omega arith)
one_text_fault text p q k j (at_token i f) (too_long h a b) = absurd (omega arith)
one_text_fault text p q k j (at_token i f) (at_token h g) = one_fault (tokens text) (length text) p q k j f g

pub not_query : (text : List ℕ) (place : ℕ) (kind : Kind) (q : Option Tree) (keys : List SortKey) → FirstFault text place kind → IsQuery text q keys → ⊥
not_query text place kind q keys (too_long h a b) i = let d = i.0 in absurd (omega arith)
not_query text place kind q keys (at_token h f) i = f.unread q keys i.1

pub faults_same : (text : List ℕ) (p n place : ℕ) (kind : Kind) → Explains text (BadText p n) → FirstFault text place kind → (p ≡ place) × (n ≡ number_of_kind kind)
faults_same text p n place kind x f = let e = one_text_fault text p place x.0 kind x.2 f in (e.0, x.1 ∙ ap number_of_kind e.1)

pub explained_same : (text : List ℕ) (x : JqlFault) → Explains text x → (place : ℕ) (kind : Kind) → FirstFault text place kind → Faults (Err x) place kind
explained_same text (BadText p n) h place kind f = faults_same text p n place kind h f
explained_same text JqlMemory h place kind f = tt
