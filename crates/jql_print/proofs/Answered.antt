-- Each line has one reply.
use Rattle.std.proofs.Common.{◌≡◌, ℕ, zero, suc, ◌<◌, ◌-◌, false, List, [], ◌∷◌, length, take, take_all, Option, refl, ap, sym, ◌∙◌, inl, inr, arith, subst}
use Rattle.std.proofs.Math.Nat.{eq-or-lt_of_le}
use Rattle.std.proofs.lemmas.Bool.{cases_lt}
use Rattle.std.proofs.lemmas.Str.{IsUtf8-from_is_utf8, is_utf8-from_IsUtf8, utf8_valid_len-IsValidUpTo}
use Rattle.std.specs.Str.{IsUtf8, is_utf8, IsValidUpTo}
use Rattle.jql_syntax.specs.Tree.{Tree}
use Rattle.jql_syntax.specs.Tokens.{tokens, words}
use Rattle.jql_syntax.specs.Fault.{IsQuery, FirstFault, too_long, at_token, most_bytes, number_of_kind}
use Rattle.jql_syntax.specs.Either.{QueryOrFault, text_is, text_has}
use Rattle.jql_syntax.specs.declared.token.Kind.{Kind}
use Rattle.jql_syntax.specs.declared.token.Kind.TheVariants.{Character, TooLong}
use Rattle.jql_syntax.specs.declared.query.SortKey.{SortKey}
use Rattle.jql_syntax.proofs.Apart.{differ, true_or_false}
use Rattle.jql_syntax.proofs.Whole.{one_query}
use Rattle.jql_syntax.proofs.Fronts.{one_text_fault}
use Rattle.jql_syntax.proofs.Total.{text_decided}
use Rattle.jql_print.specs.Spelling.{query_text}
use Rattle.jql_print.specs.Check.{ok_reply, fault_reply, IsReply, reads, fails, is_too_long, is_no_text, IsAnswered}

-- ---- there is a reply

record SomePlace (bs : List ℕ) : Type 0 where
  place : ℕ
  is_longest : IsValidUpTo bs place

no_front : (bs : List ℕ) (n m : ℕ) → is_utf8 (take n bs) ≡ false → n ≡ m → IsUtf8 (take m bs) → ⊥
no_front bs n m h e u = differ (sym (is_utf8-from_IsUtf8 (take m bs) u) ∙ ap (λ v. is_utf8 (take v bs)) (sym e) ∙ h)

longest : (bs : List ℕ) (n : ℕ) → n < length bs → ((m : ℕ) → n < m → IsUtf8 (take m bs) → ⊥) → SomePlace bs
longest bs zero s l = record { place = 0; is_longest = record { short = s; front = ([], (refl, refl)); longest = l } }
longest bs (suc n) s l = elim (true_or_false (is_utf8 (take (suc n) bs))) [
  | inl h ↦ record { place = suc n; is_longest = record { short = s; front = IsUtf8-from_is_utf8 (take (suc n) bs) h; longest = l } }
  | inr h ↦ longest bs n (omega arith) (λ m g u. elim (eq-or-lt_of_le g) [
    | inl e ↦ no_front bs (suc n) m h e u
    | inr k ↦ l m k u
  ])
]

some_place : (bs : List ℕ) → (IsUtf8 bs → ⊥) → SomePlace bs
some_place [] n = absurd (n ([], (refl, refl)))
some_place (b ∷ bs) n = longest (b ∷ bs) (length bs) (omega arith) (λ m g u. let e : take m (b ∷ bs) ≡ b ∷ bs = take_all m (b ∷ bs) (omega (arith, g)) in n (subst IsUtf8 e u))

text_answered : (line : List ℕ) → IsUtf8 line → QueryOrFault line → IsAnswered line
text_answered line u (text_is q keys i) = record { reply = ok_reply (query_text q keys); is_reply = reads u i }
text_answered line u (text_has place kind f) = record { reply = fault_reply place (number_of_kind kind); is_reply = fails u f }

no_text_answered : (line : List ℕ) → (IsUtf8 line → ⊥) → IsAnswered line
no_text_answered line n = elim (cases_lt most_bytes (length line)) [
  | inl l ↦ record { reply = fault_reply most_bytes (number_of_kind TooLong); is_reply = is_too_long n l }
  | inr l ↦ let p = some_place line n in record { reply = fault_reply p.place (number_of_kind Character); is_reply = is_no_text n l p.is_longest }
]

pub answered : (line : List ℕ) → IsAnswered line
answered line = elim (true_or_false (is_utf8 line)) [
  | inl h ↦ text_answered line (IsUtf8-from_is_utf8 line h) (text_decided line)
  | inr h ↦ no_text_answered line (λ u. differ (sym (is_utf8-from_IsUtf8 line u) ∙ h))
]

-- ---- and no other

no_both : (line : List ℕ) (q : Option Tree) (keys : List SortKey) (place : ℕ) (kind : Kind) → IsQuery line q keys → FirstFault line place kind → ⊥
no_both line q keys place kind i (too_long l p k) = let a = i.0 in omega (arith, a, l)
no_both line q keys place kind i (at_token l f) = f.unread q keys i.1

same_reads : (line : List ℕ) (q r : Option Tree) (keys other : List SortKey) → IsQuery line q keys → IsQuery line r other → ok_reply (query_text q keys) ≡ ok_reply (query_text r other)
same_reads line q r keys other i j =
    let e = one_query (words (tokens line)) q r keys other i.1 j.1 in
    ap (λ v. ok_reply (query_text v keys)) e.0 ∙ ap (λ v. ok_reply (query_text r v)) e.1

same_fails : (line : List ℕ) (p q : ℕ) (k j : Kind) → FirstFault line p k → FirstFault line q j → fault_reply p (number_of_kind k) ≡ fault_reply q (number_of_kind j)
same_fails line p q k j f g =
    let e = one_text_fault line p q k j f g in
    ap (λ v. fault_reply v (number_of_kind k)) e.0 ∙ ap (λ v. fault_reply q (number_of_kind v)) e.1

same_places : (line : List ℕ) (p q : ℕ) → IsValidUpTo line p → IsValidUpTo line q → fault_reply p (number_of_kind Character) ≡ fault_reply q (number_of_kind Character)
same_places line p q v w = ap (λ x. fault_reply x (number_of_kind Character)) (sym (utf8_valid_len-IsValidUpTo line p v) ∙ utf8_valid_len-IsValidUpTo line q w)

pub one_reply : (line a b : List ℕ) → IsReply line a → IsReply line b → a ≡ b
one_reply line a b (reads u i) (reads w j) = same_reads line _ _ _ _ i j
one_reply line a b (reads u i) (fails w f) = absurd (no_both line _ _ _ _ i f)
one_reply line a b (reads u i) (is_too_long n l) = absurd (n u)
one_reply line a b (reads u i) (is_no_text n l v) = absurd (n u)
one_reply line a b (fails u f) (reads w i) = absurd (no_both line _ _ _ _ i f)
one_reply line a b (fails u f) (fails w g) = same_fails line _ _ _ _ f g
one_reply line a b (fails u f) (is_too_long n l) = absurd (n u)
one_reply line a b (fails u f) (is_no_text n l v) = absurd (n u)
one_reply line a b (is_too_long n l) (reads u i) = absurd (n u)
one_reply line a b (is_too_long n l) (fails u f) = absurd (n u)
one_reply line a b (is_too_long n l) (is_too_long m k) = refl
one_reply line a b (is_too_long n l) (is_no_text m k v) = absurd (omega (arith, l, k))
one_reply line a b (is_no_text n l v) (reads u i) = absurd (n u)
one_reply line a b (is_no_text n l v) (fails u f) = absurd (n u)
one_reply line a b (is_no_text n l v) (is_too_long m k) = absurd (omega (arith, l, k))
one_reply line a b (is_no_text n l v) (is_no_text m k w) = same_places line _ _ v w
