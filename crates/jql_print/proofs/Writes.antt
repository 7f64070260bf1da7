-- What was written, step by step.
use Rattle.std.proofs.Common.{◌≡◌, ℕ, zero, suc, ◌||◌, Bool, true, false, if◌then◌else◌, List, [], ◌∷◌, ◌++◌, Result, Ok, Err, refl, ap, sym, ◌∙◌, OnOk, append_assoc, append-nil, arith, ◌<◌, ◌^◌, ◌==◌, inl, inr}
use Rattle.std.specs.Prelude.{encode_utf8_all, decimal, chars, nat_lt}
use Rattle.std.specs.List.{list_all}
use Rattle.std.specs.Str.{IsUtf8}
use Rattle.std.specs.Char.{is_ascii_digit}
use lib.Utf8.{encode}
use Rattle.std.proofs.lemmas.Bool.Decides.{nat_tests}
use Rattle.std.proofs.lemmas.List.Folds.{list_all-append}
use Rattle.jql_syntax.specs.declared.token.Mark.{Mark}
use Rattle.jql_syntax.specs.declared.token.Mark.TheVariants.{Equals, NotEquals, Greater, GreaterOrEqual, Less, LessOrEqual, Contains, Lacks, Open, Close, Comma, And, Or, Not, Empty, In, Is, Was, Changed, Order, By, Ascending, Descending, After, Before, On, During, From, To}
use Rattle.jql_syntax.specs.declared.token.Token.TheVariants.{Custom}
use Rattle.std.proofs.lemmas.Str.{encodes-append, encode_ascii, encodes-chars}
use Rattle.jql_syntax.specs.Tree.{Trees}
use Rattle.jql_syntax.specs.declared.token.Token.{Token}
use Rattle.jql_print.specs.Print.{units_text, more_units_text, conjunctions_text, more_conjunctions_text}
use Rattle.jql_print.specs.Spelling.{mark_spelling, escaped, spelling, spellings, is_tight, closes, gap}
use Rattle.jql_syntax.proofs.Apart.{true_or_false, and_cases, and_both}
use Rattle.jql_print.proofs.Pieces.{decimal_digits}

gap_bytes : (b : Bool) → encode_utf8_all (if b then [] else 32 ∷ []) ≡ (if b then [] else 32 ∷ [])
gap_bytes true = refl
gap_bytes false = ap (λ v. v ++ []) (encode_ascii 32 (omega arith))

bytes_of : (g s r : List ℕ) → encode_utf8_all (g ++ (s ++ r)) ≡ encode_utf8_all g ++ (encode_utf8_all s ++ encode_utf8_all r)
bytes_of g s r = encodes-append g (s ++ r) ∙ ap (λ v. encode_utf8_all g ++ v) (encodes-append s r)

-- a token is written: the space before it and its spelling stand behind what was there
pub token_writes : (old new mid own : List ℕ) (was is : Bool) (t : Token) → mid ≡ old ++ (if was || closes t then [] else 32 ∷ []) → new ≡ mid ++ own → own ≡ encode_utf8_all (spelling t) → is ≡ is_tight t → (rest : List Token) → new ++ encode_utf8_all (spellings is rest) ≡ old ++ encode_utf8_all (spellings was (t ∷ rest))
token_writes old new mid own was is t a b c d rest =
    let g = gap was t in
    let r = encode_utf8_all (spellings (is_tight t) rest) in
    ap (λ v. v ++ encode_utf8_all (spellings is rest)) b
    ∙ ap (λ v. (mid ++ own) ++ encode_utf8_all (spellings v rest)) d
    ∙ append_assoc mid own r
    ∙ ap (λ v. v ++ (own ++ r)) a
    ∙ append_assoc old g (own ++ r)
    ∙ ap (λ v. old ++ (g ++ (v ++ r))) c
    ∙ ap (λ v. old ++ (v ++ (encode_utf8_all (spelling t) ++ r))) (sym (gap_bytes (was || closes t)))
    ∙ ap (λ v. old ++ v) (sym (bytes_of g (spelling t) (spellings (is_tight t) rest)))

-- ---- spellings in bytes

small_from : (c : ℕ) → nat_lt c 128 ≡ true → c < 128
small_from c h = grind (arith, nat_tests)

pub ascii_bytes : (cs : List ℕ) → list_all (λ c. nat_lt c 128) cs ≡ true → encode_utf8_all cs ≡ cs
ascii_bytes [] h = refl
ascii_bytes (c ∷ cs) h =
    let a = and_cases (nat_lt c 128) (list_all (λ d. nat_lt d 128) cs) h in
    ap (λ v. v ++ encode_utf8_all cs) (encode_ascii c (small_from c a.0)) ∙ ap (λ v. c ∷ v) (ascii_bytes cs a.1)

mark_small : (m : Mark) → list_all (λ c. nat_lt c 128) (mark_spelling m) ≡ true
mark_small Equals = refl
mark_small NotEquals = refl
mark_small Greater = refl
mark_small GreaterOrEqual = refl
mark_small Less = refl
mark_small LessOrEqual = refl
mark_small Contains = refl
mark_small Lacks = refl
mark_small Open = refl
mark_small Close = refl
mark_small Comma = refl
mark_small And = refl
mark_small Or = refl
mark_small Not = refl
mark_small Empty = refl
mark_small In = refl
mark_small Is = refl
mark_small Was = refl
mark_small Changed = refl
mark_small Order = refl
mark_small By = refl
mark_small Ascending = refl
mark_small Descending = refl
mark_small After = refl
mark_small Before = refl
mark_small On = refl
mark_small During = refl
mark_small From = refl
mark_small To = refl

pub mark_bytes : (m : Mark) → mark_spelling m ≡ encode_utf8_all (mark_spelling m)
mark_bytes m = sym (ascii_bytes (mark_spelling m) (mark_small m))

digit_small : (c : ℕ) → is_ascii_digit c ≡ true → nat_lt c 128 ≡ true
digit_small c h = grind (arith, nat_tests)

digits_small : (cs : List ℕ) → list_all is_ascii_digit cs ≡ true → list_all (λ c. nat_lt c 128) cs ≡ true
digits_small [] h = refl
digits_small (c ∷ cs) h = let a = and_cases (is_ascii_digit c) (list_all is_ascii_digit cs) h in and_both _ _ (digit_small c a.0) (digits_small cs a.1)

pub number_bytes : (n : ℕ) → n < 2 ^ 64 → 99 ∷ 102 ∷ 91 ∷ (decimal n ++ 93 ∷ []) ≡ encode_utf8_all (spelling (Custom n))
number_bytes n h =
    let d = decimal_digits n h in
    let s : list_all (λ c. nat_lt c 128) (decimal n ++ 93 ∷ []) ≡ true = list_all-append (λ c. nat_lt c 128) (decimal n) (93 ∷ []) ∙ and_both _ _ (digits_small (decimal n) d.digits) refl in
    sym (ascii_bytes (99 ∷ 102 ∷ 91 ∷ (decimal n ++ 93 ∷ [])) s)

pub text_bytes : (own w : List ℕ) → IsUtf8 own → own ≡ w → own ≡ encode_utf8_all (chars w)
text_bytes own w u e = sym (encodes-chars own u) ∙ ap (λ v. encode_utf8_all (chars v)) e

-- ---- quoted texts

pub escaped_append : (cs ds : List ℕ) → escaped (cs ++ ds) ≡ escaped cs ++ escaped ds
escaped_append [] ds = refl
escaped_append (c ∷ cs) ds = elim (true_or_false ((c == 34) || (c == 92))) [
  | inl h ↦ rw h (ap (λ v. 92 ∷ c ∷ v) (escaped_append cs ds))
  | inr h ↦ rw h (ap (λ v. c ∷ v) (escaped_append cs ds))
]

-- a character more
pub quote_more : (old now new cs : List ℕ) (c : ℕ) → now ≡ old ++ (encode 34 ++ encode_utf8_all (escaped cs)) → new ≡ now ++ encode_utf8_all (escaped (c ∷ [])) → new ≡ old ++ (encode 34 ++ encode_utf8_all (escaped (cs ++ c ∷ [])))
quote_more old now new cs c a b =
    let x = encode_utf8_all (escaped cs) in
    let y = encode_utf8_all (escaped (c ∷ [])) in
    b ∙ ap (λ v. v ++ y) a
    ∙ append_assoc old (encode 34 ++ x) y
    ∙ ap (λ v. old ++ v) (append_assoc (encode 34) x y)
    ∙ ap (λ v. old ++ (encode 34 ++ v)) (sym (encodes-append (escaped cs) (escaped (c ∷ []))) ∙ ap encode_utf8_all (sym (escaped_append cs (c ∷ []))))

-- the closing quote
pub quote_end : (old now new cs : List ℕ) → now ≡ old ++ (encode 34 ++ encode_utf8_all (escaped cs)) → new ≡ now ++ encode 34 → new ≡ old ++ (encode 34 ++ encode_utf8_all (escaped cs ++ 34 ∷ []))
quote_end old now new cs a b =
    let x = encode_utf8_all (escaped cs) in
    b ∙ ap (λ v. v ++ encode 34) a
    ∙ append_assoc old (encode 34 ++ x) (encode 34)
    ∙ ap (λ v. old ++ v) (append_assoc (encode 34) x (encode 34))
    ∙ ap (λ v. old ++ (encode 34 ++ (x ++ v))) (sym (append-nil (encode 34)))
    ∙ ap (λ v. old ++ (encode 34 ++ v)) (sym (encodes-append (escaped cs) (34 ∷ [])))

pub OnOk-map : {A E P Q : Type 0} (r : Result A E) → (P → Q) → OnOk r P → OnOk r Q
OnOk-map (Ok x) f h = f h
OnOk-map (Err e) f h = h

-- what is left of a list of conditions from the index on
abbrev pub units_left : ℕ → Trees → List Token → List Token
units_left zero xs rest = units_text xs rest
units_left (suc i) xs rest = more_units_text xs rest

abbrev pub conjunctions_left : ℕ → Trees → List Token → List Token
conjunctions_left zero xs rest = conjunctions_text xs rest
conjunctions_left (suc i) xs rest = more_conjunctions_text xs rest
