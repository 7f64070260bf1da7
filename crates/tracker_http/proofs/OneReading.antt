-- Bytes hold one list of requests, which ends in one way.
use Rattle.std.proofs.Common.{◌≡◌, ◌≤◌, ◌<◌, ◌+◌, ◌-◌, ℕ, List, [], ◌∷◌, ◌++◌, length, take, drop, Bool, false, ◌⊎◌, Option, Some, None, refl, ap, sym, ◌∙◌, subst, arith, inl, inr, append_assoc, length-append}
use Rattle.std.proofs.lemmas.List.{take_all, take_at, drop_at}
use Rattle.std.proofs.Math.Seq.{take-append-add}
use Rattle.httparse.proofs.GrammarLemmas.{request_unique}
use Rattle.httparse.specs.Grammar.{RequestHead, ReadsRequest}
use Rattle.tracker_http.proofs.PlacesLemmas.{head_append}
use Rattle.tracker_http.specs.Fields.{body_len}
use Rattle.tracker_http.specs.HeadEnd.{head_len, IsWholeHead}
use Rattle.tracker_http.specs.HeadFaults.{head_of, fault_of, refused, is_head_method}
use Rattle.tracker_http.specs.Requests.{Says, IsRequest, IsRefused, IsCut}
use Rattle.tracker_http.specs.Spans.{IsNoHead}
use Rattle.tracker_http.specs.Streams.{Ending, at_end, inside, refuses, EndsBy, AreRequests}
use Rattle.tracker_http.specs.declared.head_fault.HeadFault.{HeadFault}
use Rattle.tracker_http.specs.declared.request.Request.{Request}

-- what stands next: a request and what is left after it, or the end
data Outcome : Type 0 where
  takes : Request → List ℕ → Outcome
  stops : Ending → Outcome

abbrev Gives : List ℕ → Outcome → Type 0
Gives bytes (takes r rest) = (text : List ℕ) × (bytes ≡ text ++ rest) × IsRequest text r
Gives bytes (stops ending) = EndsBy bytes ending

-- what is said by a whole head, with what follows it
abbrev Said : List ℕ → List ℕ → Outcome → Type 0
Said head after (takes r rest) =
    (h : RequestHead) × ReadsRequest head h [] × Says (head_of h) r × (length r.body ≡ body_len (head_of h).fields) × (after ≡ r.body ++ rest)
Said head after (stops at_end) = ⊥
Said head after (stops inside) = (h : RequestHead) × ReadsRequest head h [] × (fault_of (head_of h) ≡ None) × (length after < body_len (head_of h).fields)
Said head after (stops (refuses refusal is_head)) =
    (IsNoHead head × (refusal ≡ refused 400 None) × (is_head ≡ false))
    ⊎ ((h : RequestHead) × ReadsRequest head h [] × (fault_of (head_of h) ≡ Some refusal) × (is_head ≡ is_head_method h.method))

record Whole (bytes : List ℕ) (o : Outcome) : Type 0 where
  head : List ℕ
  after : List ℕ
  cut : bytes ≡ head ++ after
  whole : IsWholeHead head
  said : Said head after o

-- what is said where there is no whole head
abbrev Short : List ℕ → Outcome → Type 0
Short bytes (takes r rest) = ⊥
Short bytes (stops at_end) = length bytes ≡ 0
Short bytes (stops inside) = (0 < length bytes) × (length bytes < 8192)
Short bytes (stops (refuses refusal is_head)) = (8192 ≤ length bytes) × (refusal ≡ refused 431 None) × (is_head ≡ false)

record Lacks (bytes : List ℕ) (o : Outcome) : Type 0 where
  none : head_len (take 8192 bytes) ≡ None
  short : Short bytes o

-- ---- what the outcomes tell of the bytes

-- a whole head at the front of the bytes is found among the bytes that may hold one
whole_told : (bytes head after : List ℕ) → bytes ≡ head ++ after → IsWholeHead head → head_len (take 8192 bytes) ≡ Some (length head)
whole_told bytes head after cut whole =
    let room : length head + (8192 - length head) ≡ 8192 = omega (arith, whole.short) in
    let front : take 8192 bytes ≡ head ++ take (8192 - length head) after =
    ap (take 8192) cut ∙ ap (λ n. take n (head ++ after)) (sym room) ∙ take-append-add head after (8192 - length head) in
    ap head_len front ∙ head_append head (take (8192 - length head) after) (length head) whole.whole

no_head_in : (bytes : List ℕ) → length bytes ≤ 8192 → head_len bytes ≡ None → head_len (take 8192 bytes) ≡ None
no_head_in bytes short none = ap head_len (take_all 8192 bytes short) ∙ none

empty_short : (bytes : List ℕ) → bytes ≡ [] → Lacks bytes (stops at_end)
unfolding head_len
empty_short bytes empty = subst (λ l. Lacks l (stops at_end)) (sym empty) (record { none = refl; short = refl })

told_refused : (bytes text rest : List ℕ) (refusal : HeadFault) (is_head : Bool) → bytes ≡ text ++ rest → IsRefused text refusal is_head
    → Whole bytes (stops (refuses refusal is_head)) ⊎ Lacks bytes (stops (refuses refusal is_head))
told_refused bytes text rest refusal is_head cut (inl long) =
    let front : take 8192 bytes ≡ text = ap (take 8192) cut ∙ take_at text rest 8192 long.len in
    inr (record {
      none = ap head_len front ∙ long.none;
      short = (omega (arith, long.len, ap length cut, length-append text rest), long.refusal_is, long.is_head_is);
    })
told_refused bytes text rest refusal is_head cut (inr (inl bad)) =
    inl (record { head = text; after = rest; cut = cut; whole = bad.whole; said = inl (bad.none, bad.refusal_is, bad.is_head_is) })
told_refused bytes text rest refusal is_head cut (inr (inr faulty)) =
    inl (record { head = text; after = rest; cut = cut; whole = faulty.whole; said = inr (faulty.head, faulty.reads, faulty.fault, faulty.is_head_is) })

told_cut : (bytes : List ℕ) → IsCut bytes → Whole bytes (stops inside) ⊎ Lacks bytes (stops inside)
told_cut bytes (inl lacks) = inr (record { none = no_head_in bytes (omega (arith, lacks.short)) lacks.none; short = (lacks.some, lacks.short) })
told_cut bytes (inr lacks) =
    inl (record { head = lacks.text; after = lacks.body; cut = lacks.cut; whole = lacks.whole; said = (lacks.head, lacks.reads, lacks.taken, lacks.short) })

told : (bytes : List ℕ) (o : Outcome) → Gives bytes o → Whole bytes o ⊎ Lacks bytes o
told bytes (takes r rest) (text, cut, is) =
    inl (record {
      head = is.text;
      after = r.body ++ rest;
      cut = cut ∙ ap (λ l. l ++ rest) is.cut ∙ append_assoc is.text r.body rest;
      whole = is.whole;
      said = (is.head, is.reads, is.says, is.size, refl);
    })
told bytes (stops at_end) empty = inr (empty_short bytes empty)
told bytes (stops inside) cut = told_cut bytes cut
told bytes (stops (refuses refusal is_head)) (text, rest, cut, why) = told_refused bytes text rest refusal is_head cut why

-- ---- each tells one outcome

same_some : {A : Type 0} (a b : A) (o : Option A) → o ≡ Some a → o ≡ Some b → a ≡ b
same_some a b o x y = cc

same_request : (h : RequestHead) (r q : Request) → Says (head_of h) r → Says (head_of h) q → r.body ≡ q.body → r ≡ q
same_request h r q x y body =
    let verb = same_some r.verb q.verb _ x.verb y.verb in
    let target = x.target ∙ sym y.target in
    let user = x.user ∙ sym y.user in
    let close = x.close ∙ sym y.close in
    λ i. record { verb = verb i; target = target i; user = user i; body = body i; close = close i }

same_head : (head : List ℕ) (h k : RequestHead) → ReadsRequest head h [] → ReadsRequest head k [] → h ≡ k
same_head head h k x y = (request_unique head h k [] [] x y).0

same_refusal : (a b : HeadFault) (x y : Bool) → a ≡ b → x ≡ y → stops (refuses a x) ≡ stops (refuses b y)
same_refusal a b x y p q = cc

takes_one : (head after : List ℕ) (r q : Request) (rest last : List ℕ) → Said head after (takes r rest) → Said head after (takes q last) → takes r rest ≡ takes q last
takes_one head after r q rest last (h, reads, says, size, is) (k, reads', says', size', is') =
    let same = same_head head h k reads reads' in
    let count : length r.body ≡ length q.body = size ∙ ap (λ h. body_len (head_of h).fields) same ∙ sym size' in
    let body : r.body ≡ q.body = sym (take_at r.body rest (length q.body) count) ∙ ap (take (length q.body)) (sym is ∙ is') ∙ take_at q.body last (length q.body) refl in
    let later : rest ≡ last = sym (drop_at r.body rest (length q.body) count) ∙ ap (drop (length q.body)) (sym is ∙ is') ∙ drop_at q.body last (length q.body) refl in
    let request : r ≡ q = same_request k r q (subst (λ h. Says (head_of h) r) same says) says' body in
    cc

takes_no_cut : (head after : List ℕ) (r : Request) (rest : List ℕ) → Said head after (takes r rest) → Said head after (stops inside) → ⊥
takes_no_cut head after r rest (h, reads, says, size, is) (k, reads', none, short) =
    let same : body_len (head_of h).fields ≡ body_len (head_of k).fields = ap (λ h. body_len (head_of h).fields) (same_head head h k reads reads') in
    absurd (omega (arith, size, same, short, ap length is, length-append r.body rest))

no_fault : (head : List ℕ) (h : RequestHead) (refusal : HeadFault) (is_head : Bool) (after : List ℕ) → ReadsRequest head h [] → fault_of (head_of h) ≡ None
    → Said head after (stops (refuses refusal is_head)) → ⊥
no_fault head h refusal is_head after reads none (inl bad) = bad.0 h reads
no_fault head h refusal is_head after reads none (inr (k, reads', fault, which)) =
    let same : fault_of (head_of h) ≡ fault_of (head_of k) = ap (λ h. fault_of (head_of h)) (same_head head h k reads reads') in
    cc

refuses_one : (head after : List ℕ) (a b : HeadFault) (x y : Bool) → Said head after (stops (refuses a x)) → Said head after (stops (refuses b y))
    → stops (refuses a x) ≡ stops (refuses b y)
refuses_one head after a b x y (inl bad) (inl other) = same_refusal a b x y (bad.1 ∙ sym other.1) (bad.2 ∙ sym other.2)
refuses_one head after a b x y (inl bad) (inr (k, reads, fault, which)) = absurd (bad.0 k reads)
refuses_one head after a b x y (inr (h, reads, fault, which)) (inl bad) = absurd (bad.0 h reads)
refuses_one head after a b x y (inr (h, reads, fault, which)) (inr (k, reads', fault', which')) =
    let same = same_head head h k reads reads' in
    let one : a ≡ b = same_some a b _ fault (ap (λ h. fault_of (head_of h)) same ∙ fault') in
    same_refusal a b x y one (which ∙ ap (λ h. is_head_method h.method) same ∙ sym which')

said_one : (head after : List ℕ) (o p : Outcome) → Said head after o → Said head after p → o ≡ p
said_one head after (takes r rest) (takes q last) x y = takes_one head after r q rest last x y
said_one head after (takes r rest) (stops at_end) x y = absurd y
said_one head after (takes r rest) (stops inside) x y = absurd (takes_no_cut head after r rest x y)
said_one head after (takes r rest) (stops (refuses b y')) x y = absurd (no_fault head x.0 b y' after x.1 x.2.taken y)
said_one head after (stops at_end) p x y = absurd x
said_one head after (stops inside) (takes q last) x y = absurd (takes_no_cut head after q last y x)
said_one head after (stops inside) (stops at_end) x y = absurd y
said_one head after (stops inside) (stops inside) x y = refl
said_one head after (stops inside) (stops (refuses b y')) x y = absurd (no_fault head x.0 b y' after x.1 x.2 y)
said_one head after (stops (refuses a x')) (takes q last) x y = absurd (no_fault head y.0 a x' after y.1 y.2.taken x)
said_one head after (stops (refuses a x')) (stops at_end) x y = absurd y
said_one head after (stops (refuses a x')) (stops inside) x y = absurd (no_fault head y.0 a x' after y.1 y.2 x)
said_one head after (stops (refuses a x')) (stops (refuses b y')) x y = refuses_one head after a b x' y' x y

short_one : (bytes : List ℕ) (o p : Outcome) → Short bytes o → Short bytes p → o ≡ p
short_one bytes (takes r rest) p x y = absurd x
short_one bytes (stops at_end) (takes q last) x y = absurd y
short_one bytes (stops at_end) (stops at_end) x y = refl
short_one bytes (stops at_end) (stops inside) x y = absurd (omega (arith, x, y.0))
short_one bytes (stops at_end) (stops (refuses b y')) x y = absurd (omega (arith, x, y.0))
short_one bytes (stops inside) (takes q last) x y = absurd y
short_one bytes (stops inside) (stops at_end) x y = absurd (omega (arith, x.0, y))
short_one bytes (stops inside) (stops inside) x y = refl
short_one bytes (stops inside) (stops (refuses b y')) x y = absurd (omega (arith, x.1, y.0))
short_one bytes (stops (refuses a x')) (takes q last) x y = absurd y
short_one bytes (stops (refuses a x')) (stops at_end) x y = absurd (omega (arith, x.0, y))
short_one bytes (stops (refuses a x')) (stops inside) x y = absurd (omega (arith, x.0, y.1))
short_one bytes (stops (refuses a x')) (stops (refuses b y')) x y = same_refusal a b x' y' (x.1 ∙ sym y.1) (x.2 ∙ sym y.2)

whole_one : (bytes : List ℕ) (o p : Outcome) → Whole bytes o → Whole bytes p → o ≡ p
whole_one bytes o p x y =
    let told_x = whole_told bytes x.head x.after x.cut x.whole in
    let told_y = whole_told bytes y.head y.after y.cut y.whole in
    let count : length x.head ≡ length y.head = same_some (length x.head) (length y.head) _ told_x told_y in
    let cuts : x.head ++ x.after ≡ y.head ++ y.after = sym x.cut ∙ y.cut in
    let head : x.head ≡ y.head = sym (take_at x.head x.after (length y.head) count) ∙ ap (take (length y.head)) cuts ∙ take_at y.head y.after (length y.head) refl in
    let after : x.after ≡ y.after = sym (drop_at x.head x.after (length y.head) count) ∙ ap (drop (length y.head)) cuts ∙ drop_at y.head y.after (length y.head) refl in
    said_one y.head y.after o p (subst (λ l. Said y.head l o) after (subst (λ l. Said l x.after o) head x.said)) y.said

not_both : (bytes : List ℕ) (o p : Outcome) → Whole bytes o → Lacks bytes p → ⊥
not_both bytes o p x y =
    let some = whole_told bytes x.head x.after x.cut x.whole in
    let none = y.none in
    cc

one_of : (bytes : List ℕ) (o p : Outcome) → Whole bytes o ⊎ Lacks bytes o → Whole bytes p ⊎ Lacks bytes p → o ≡ p
one_of bytes o p (inl x) (inl y) = whole_one bytes o p x y
one_of bytes o p (inl x) (inr y) = absurd (not_both bytes o p x y)
one_of bytes o p (inr x) (inl y) = absurd (not_both bytes p o y x)
one_of bytes o p (inr x) (inr y) = short_one bytes o p x.short y.short

gives_one : (bytes : List ℕ) (o p : Outcome) → Gives bytes o → Gives bytes p → o ≡ p
gives_one bytes o p x y = one_of bytes o p (told bytes o x) (told bytes p y)

both_in : (r q : Request) (rs qs : List Request) (e f : Ending) → r ≡ q → (rs ≡ qs) × (e ≡ f) → ((r ∷ rs) ≡ (q ∷ qs)) × (e ≡ f)
both_in r q rs qs e f same more = (let all = more.0 in cc, more.1)

pub one_reading : (bytes : List ℕ) (rs qs : List Request) (e f : Ending) → AreRequests bytes rs e → AreRequests bytes qs f → (rs ≡ qs) × (e ≡ f)
one_reading bytes [] [] e f x y = (refl, let same = gives_one bytes (stops e) (stops f) x y in cc)
one_reading bytes [] (q ∷ qs) e f x (text, rest, cut, is, more) =
    absurd (let same = gives_one bytes (stops e) (takes q rest) x (text, cut, is) in cc)
one_reading bytes (r ∷ rs) [] e f (text, rest, cut, is, more) y =
    absurd (let same = gives_one bytes (takes r rest) (stops f) (text, cut, is) y in cc)
one_reading bytes (r ∷ rs) (q ∷ qs) e f (text, rest, cut, is, more) (text', rest', cut', is', more') =
    let same = gives_one bytes (takes r rest) (takes q rest') (text, cut, is) (text', cut', is') in
    let one : r ≡ q = cc in
    let after : rest ≡ rest' = cc in
    both_in r q rs qs e f one (one_reading rest' rs qs e f (subst (λ l. AreRequests l rs e) after more) more')
