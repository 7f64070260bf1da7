-- Words at the front of characters.
use Rattle.std.proofs.Common.{◌≡◌, ℕ, ◌==◌, Bool, true, false, not, ◌||◌, List, [], ◌∷◌, ◌++◌, None, ◌<◌, refl, ap, sym, ◌∙◌, inl, inr, arith}
use Rattle.std.proofs.lemmas.Bool.Decides.{nat_tests}
use Rattle.std.specs.Prelude.{encode_utf8_all}
use Rattle.std.specs.List.{list_all}
use Rattle.std.specs.Char.{is_ascii_alphabetic, is_ascii_alphanumeric}
use Rattle.std.specs.Str.{all_scalars}
use Rattle.std.proofs.lemmas.Str.{encode_ascii}
use Rattle.std.specs.Prelude.{option_and_then}
use Rattle.jql_syntax.specs.Tokens.{is_white, is_quote, is_sign, is_banned, is_word_char, front, past, after_char, sign_at, bracketed, field_number_at, keyword_of, word_or, piece_at}
use Rattle.jql_syntax.proofs.Apart.{differ, true_or_false, not_left, not_right, and_cases, and_both}

-- what may stand behind a token, and ends it
pub data Ends : List ℕ → Type 0 where
  at_end : Ends []
  at_space : {cs : List ℕ} → Ends (32 ∷ cs)
  at_open : {cs : List ℕ} → Ends (40 ∷ cs)
  at_close : {cs : List ℕ} → Ends (41 ∷ cs)
  at_comma : {cs : List ℕ} → Ends (44 ∷ cs)

pub front_ends : {rest : List ℕ} → Ends rest → front is_word_char rest ≡ []
front_ends at_end = refl
front_ends at_space = refl
front_ends at_open = refl
front_ends at_close = refl
front_ends at_comma = refl

pub past_ends : {rest : List ℕ} → Ends rest → past is_word_char rest ≡ rest
past_ends at_end = refl
past_ends at_space = refl
past_ends at_open = refl
past_ends at_close = refl
past_ends at_comma = refl

pub front_all : (p : ℕ → Bool) (cs rest : List ℕ) → list_all p cs ≡ true → front p rest ≡ [] → front p (cs ++ rest) ≡ cs
front_all p [] rest h e = e
front_all p (c ∷ cs) rest h e = let k = and_cases (p c) (list_all p cs) h in rw k.0 (ap (λ v. c ∷ v) (front_all p cs rest k.1 e))

pub past_all : (p : ℕ → Bool) (cs rest : List ℕ) → list_all p cs ≡ true → past p rest ≡ rest → past p (cs ++ rest) ≡ rest
past_all p [] rest h e = e
past_all p (c ∷ cs) rest h e = let k = and_cases (p c) (list_all p cs) h in rw k.0 (past_all p cs rest k.1 e)

eq_from : (c k : ℕ) → (c == k) ≡ true → c ≡ k
eq_from c k h = grind (arith, nat_tests)

-- a character that passes is none that doesn't
pub other : (p : ℕ → Bool) (c k : ℕ) → p c ≡ true → p k ≡ false → (c == k) ≡ false
other p c k h n = elim (true_or_false (c == k)) [
  | inl e ↦ absurd (differ (sym h ∙ ap p (eq_from c k e) ∙ n))
  | inr e ↦ e
]

not_true : (b : Bool) → not b ≡ true → b ≡ false
not_true true h = absurd (differ (sym h))
not_true false h = refl

pub word_not_white : (c : ℕ) → is_word_char c ≡ true → is_white c ≡ false
word_not_white c h = not_left (is_white c) (is_quote c || (is_sign c || is_banned c)) (not_true _ h)

word_not_quote : (c : ℕ) → is_word_char c ≡ true → is_quote c ≡ false
word_not_quote c h = not_left (is_quote c) (is_sign c || is_banned c) (not_right (is_white c) _ (not_true _ h))

word_not_banned : (c : ℕ) → is_word_char c ≡ true → is_banned c ≡ false
word_not_banned c h = not_right (is_sign c) (is_banned c) (not_right (is_quote c) _ (not_right (is_white c) _ (not_true _ h)))

word_no_sign : (c : ℕ) (cs : List ℕ) → is_word_char c ≡ true → sign_at c cs ≡ None
unfolding sign_at
word_no_sign c cs h =
    rw (other is_word_char c 61 h refl, other is_word_char c 33 h refl, other is_word_char c 60 h refl, other is_word_char c 62 h refl, other is_word_char c 126 h refl, other is_word_char c 38 h refl, other is_word_char c 124 h refl, other is_word_char c 40 h refl, other is_word_char c 41 h refl, other is_word_char c 44 h refl) refl

-- no word goes on as cf[
no_bracket : {rest : List ℕ} → Ends rest → after_char 91 rest ≡ None
no_bracket at_end = refl
no_bracket at_space = refl
no_bracket at_open = refl
no_bracket at_close = refl
no_bracket at_comma = refl

no_letter : {rest : List ℕ} → Ends rest → after_char 102 rest ≡ None
no_letter at_end = refl
no_letter at_space = refl
no_letter at_open = refl
no_letter at_close = refl
no_letter at_comma = refl

bracket_behind : (cs rest : List ℕ) → list_all is_word_char cs ≡ true → Ends rest → after_char 91 (cs ++ rest) ≡ None
bracket_behind [] rest h e = no_bracket e
bracket_behind (c ∷ cs) rest h e = let k = and_cases (is_word_char c) (list_all is_word_char cs) h in rw (other is_word_char c 91 k.0 refl) refl

no_number_in : (cs rest : List ℕ) → list_all is_word_char cs ≡ true → Ends rest → option_and_then bracketed (option_and_then (after_char 91) (after_char 102 (cs ++ rest))) ≡ None
no_number_in [] rest h e = rw (no_letter e) refl
no_number_in (c ∷ cs) rest h e = let k = and_cases (is_word_char c) (list_all is_word_char cs) h in elim (true_or_false (c == 102)) [
  | inl i ↦ rw (i, bracket_behind cs rest k.1 e) refl
  | inr i ↦ rw i refl
]

no_number_behind : (c : ℕ) (cs rest : List ℕ) → list_all is_word_char cs ≡ true → Ends rest → field_number_at c (cs ++ rest) ≡ None
unfolding field_number_at
no_number_behind c cs rest h e = elim (true_or_false (c == 99)) [
  | inl k ↦ rw k (no_number_in cs rest h e)
  | inr k ↦ rw k refl
]

-- the token of a word
pub word_piece : (c : ℕ) (cs rest : List ℕ) → list_all is_word_char (c ∷ cs) ≡ true → Ends rest → piece_at c (cs ++ rest) ≡ (word_or (encode_utf8_all (c ∷ cs)) rest (keyword_of (encode_utf8_all (c ∷ cs))), rest)
unfolding piece_at
word_piece c cs rest h e =
    let k = and_cases (is_word_char c) (list_all is_word_char cs) h in
    let f = front_all is_word_char cs rest k.1 (front_ends e) in
    let p = past_all is_word_char cs rest k.1 (past_ends e) in
    rw (word_no_sign c (cs ++ rest) k.0, word_not_quote c k.0, word_not_banned c k.0, no_number_behind c cs rest k.1 e, f, p) refl

-- ASCII letters and digits are word characters, each of one byte
pub letter_is_word : (c : ℕ) → is_ascii_alphanumeric c ≡ true → is_word_char c ≡ true
letter_is_word c h = grind (arith, nat_tests)

pub letter_is_alphanumeric : (c : ℕ) → is_ascii_alphabetic c ≡ true → is_ascii_alphanumeric c ≡ true
letter_is_alphanumeric c h = grind (arith, nat_tests)

pub letter_scalar : (c : ℕ) → is_ascii_alphanumeric c ≡ true → all_scalars (c ∷ []) ≡ true
letter_scalar c h = grind (arith, nat_tests)

pub letter_small : (c : ℕ) → is_ascii_alphanumeric c ≡ true → c < 128
letter_small c h = grind (arith, nat_tests)

pub words_from : (cs : List ℕ) → list_all is_ascii_alphanumeric cs ≡ true → list_all is_word_char cs ≡ true
words_from [] h = refl
words_from (c ∷ cs) h = let a = and_cases (is_ascii_alphanumeric c) (list_all is_ascii_alphanumeric cs) h in and_both _ _ (letter_is_word c a.0) (words_from cs a.1)

pub scalars_from : (cs : List ℕ) → list_all is_ascii_alphanumeric cs ≡ true → all_scalars cs ≡ true
scalars_from [] h = refl
scalars_from (c ∷ cs) h = let a = and_cases (is_ascii_alphanumeric c) (list_all is_ascii_alphanumeric cs) h in and_both _ _ (and_cases _ true (letter_scalar c a.0)).0 (scalars_from cs a.1)

pub bytes_from : (cs : List ℕ) → list_all is_ascii_alphanumeric cs ≡ true → encode_utf8_all cs ≡ cs
bytes_from [] h = refl
bytes_from (c ∷ cs) h =
    let a = and_cases (is_ascii_alphanumeric c) (list_all is_ascii_alphanumeric cs) h in
    ap (λ v. v ++ encode_utf8_all cs) (encode_ascii c (letter_small c a.0)) ∙ ap (λ v. c ∷ v) (bytes_from cs a.1)
