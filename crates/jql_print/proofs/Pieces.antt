-- Each token is read as it is spelled.
use Rattle.std.proofs.Common.{◌≡◌, ℕ, ◌+◌, ◌%◌, ◌/◌, ◌^◌, ◌≤◌, ◌<◌, ◌==◌, true, false, ◌||◌, if◌then◌else◌, List, [], ◌∷◌, ◌++◌, length, fold, Some, None, Ok, refl, ap, sym, ◌∙◌, inl, inr, arith, append_assoc, length-append}
use Rattle.std.proofs.lemmas.Bool.Decides.{nat_tests}
use Rattle.std.proofs.lemmas.List.Sums.{fold_push}
use Rattle.std.proofs.lemmas.List.Folds.{list_all-append}
use Rattle.std.proofs.lemmas.Fmt.{decimal_by_steps}
use Rattle.std.proofs.lemmas.Str.{encodes-chars, chars-encodes}
use Rattle.std.specs.Prelude.{encode_utf8_all, decimal, chars, codes}
use Rattle.std.specs.Char.{is_ascii_digit, is_ascii_alphanumeric}
use Rattle.std.specs.List.{list_all}
use Rattle.std.specs.Str.{IsUtf8}
use Rattle.jql_syntax.specs.Tokens.{is_white, is_escaped, is_word_char, sign_at, numbered, bracketed, begins_with, field_number_at, keyword_of, later_keyword_of, predicate_keyword_of, word_or, piece_at, opens_next, closed, onto, quote_at, unescaped, quoted}
use Rattle.jql_syntax.specs.declared.token.Mark.{Mark}
use Rattle.jql_syntax.specs.declared.token.Mark.TheVariants.{Equals, NotEquals, Greater, GreaterOrEqual, Less, LessOrEqual, Contains, Lacks, Open, Close, Comma, And, Or, Not, Empty, In, Is, Was, Changed, Order, By, Ascending, Descending, After, Before, On, During, From, To}
use Rattle.jql_syntax.specs.declared.token.Token.{Token}
use Rattle.jql_syntax.specs.declared.token.Token.TheVariants.{Marked, Word, Name, Quoted, Custom}
use Rattle.jql_syntax.proofs.Apart.{differ, true_or_false, and_cases, and_both}
use Rattle.jql_syntax.proofs.Scanning.{after_step, quote_step, number_is_fold, with_digit}
use Rattle.jql_print.specs.Spelling.{mark_spelling, escaped, spelling, is_tight}
use Rattle.jql_print.proofs.Spells.{IsName}
use Rattle.jql_print.proofs.Words.{Ends, at_end, at_space, at_open, at_close, at_comma, front_all, past_all, word_piece, word_not_white, words_from, bytes_from}

-- the token is read from its spelling, and what is behind is left
pub record Piece (t : Token) (rest : List ℕ) : Type 0 where
  pub first : ℕ
  pub more : List ℕ
  pub splits : spelling t ++ rest ≡ first ∷ more
  pub shows : is_white first ≡ false
  pub reads : piece_at first more ≡ (t, rest)
  pub shorter : length rest ≤ length more

-- ---- keywords and signs

keyword_piece : (m : Mark) (c : ℕ) (cs rest : List ℕ) → mark_spelling m ≡ c ∷ cs → list_all is_ascii_alphanumeric (c ∷ cs) ≡ true → keyword_of (c ∷ cs) ≡ Some m → Ends rest → Piece (Marked m) rest
keyword_piece m c cs rest s a k e = let h = words_from (c ∷ cs) a in record {
  first = c;
  more = cs ++ rest;
  splits = ap (λ v. v ++ rest) s;
  shows = word_not_white c (and_cases (is_word_char c) (list_all is_word_char cs) h).0;
  reads = word_piece c cs rest h e ∙ ap (λ v. (word_or (encode_utf8_all (c ∷ cs)) rest v, rest)) (ap keyword_of (bytes_from (c ∷ cs) a) ∙ k);
  shorter = omega (arith, length-append cs rest);
}

-- a sign of one character, and of two
sign_piece : (m : Mark) (c : ℕ) (rest : List ℕ) → mark_spelling m ≡ c ∷ [] → is_white c ≡ false → piece_at c rest ≡ (Marked m, rest) → Piece (Marked m) rest
sign_piece m c rest s w p = record { first = c; more = rest; splits = ap (λ v. v ++ rest) s; shows = w; reads = p; shorter = omega arith }

long_sign_piece : (m : Mark) (c d : ℕ) (rest : List ℕ) → mark_spelling m ≡ c ∷ d ∷ [] → is_white c ≡ false → piece_at c (d ∷ rest) ≡ (Marked m, rest) → Piece (Marked m) rest
long_sign_piece m c d rest s w p = record { first = c; more = d ∷ rest; splits = ap (λ v. v ++ rest) s; shows = w; reads = p; shorter = omega arith }

greater_reads : {rest : List ℕ} → Ends rest → piece_at 62 rest ≡ (Marked Greater, rest)
unfolding piece_at sign_at
greater_reads at_end = refl
greater_reads at_space = refl
greater_reads at_open = refl
greater_reads at_close = refl
greater_reads at_comma = refl

less_reads : {rest : List ℕ} → Ends rest → piece_at 60 rest ≡ (Marked Less, rest)
unfolding piece_at sign_at
less_reads at_end = refl
less_reads at_space = refl
less_reads at_open = refl
less_reads at_close = refl
less_reads at_comma = refl

pub mark_piece : (m : Mark) (rest : List ℕ) → (is_tight (Marked m) ≡ false → Ends rest) → Piece (Marked m) rest
unfolding piece_at sign_at keyword_of later_keyword_of predicate_keyword_of
mark_piece Equals rest e = sign_piece Equals 61 rest refl refl refl
mark_piece NotEquals rest e = long_sign_piece NotEquals 33 61 rest refl refl refl
mark_piece Greater rest e = sign_piece Greater 62 rest refl refl (greater_reads (e refl))
mark_piece GreaterOrEqual rest e = long_sign_piece GreaterOrEqual 62 61 rest refl refl refl
mark_piece Less rest e = sign_piece Less 60 rest refl refl (less_reads (e refl))
mark_piece LessOrEqual rest e = long_sign_piece LessOrEqual 60 61 rest refl refl refl
mark_piece Contains rest e = sign_piece Contains 126 rest refl refl refl
mark_piece Lacks rest e = long_sign_piece Lacks 33 126 rest refl refl refl
mark_piece Open rest e = sign_piece Open 40 rest refl refl refl
mark_piece Close rest e = sign_piece Close 41 rest refl refl refl
mark_piece Comma rest e = sign_piece Comma 44 rest refl refl refl
mark_piece And rest e = keyword_piece And 65 (codes "ND") rest refl refl refl (e refl)
mark_piece Or rest e = keyword_piece Or 79 (codes "R") rest refl refl refl (e refl)
mark_piece Not rest e = keyword_piece Not 78 (codes "OT") rest refl refl refl (e refl)
mark_piece Empty rest e = keyword_piece Empty 69 (codes "MPTY") rest refl refl refl (e refl)
mark_piece In rest e = keyword_piece In 73 (codes "N") rest refl refl refl (e refl)
mark_piece Is rest e = keyword_piece Is 73 (codes "S") rest refl refl refl (e refl)
mark_piece Was rest e = keyword_piece Was 87 (codes "AS") rest refl refl refl (e refl)
mark_piece Changed rest e = keyword_piece Changed 67 (codes "HANGED") rest refl refl refl (e refl)
mark_piece Order rest e = keyword_piece Order 79 (codes "RDER") rest refl refl refl (e refl)
mark_piece By rest e = keyword_piece By 66 (codes "Y") rest refl refl refl (e refl)
mark_piece Ascending rest e = keyword_piece Ascending 65 (codes "SC") rest refl refl refl (e refl)
mark_piece Descending rest e = keyword_piece Descending 68 (codes "ESC") rest refl refl refl (e refl)
mark_piece After rest e = keyword_piece After 65 (codes "FTER") rest refl refl refl (e refl)
mark_piece Before rest e = keyword_piece Before 66 (codes "EFORE") rest refl refl refl (e refl)
mark_piece On rest e = keyword_piece On 79 (codes "N") rest refl refl refl (e refl)
mark_piece During rest e = keyword_piece During 68 (codes "URING") rest refl refl refl (e refl)
mark_piece From rest e = keyword_piece From 70 (codes "ROM") rest refl refl refl (e refl)
mark_piece To rest e = keyword_piece To 84 (codes "O") rest refl refl refl (e refl)

-- ---- words and names

-- its characters
name_chars : {w : List ℕ} → (n : IsName w) → chars w ≡ n.first ∷ n.more
name_chars n = ap chars (sym n.spelled) ∙ chars-encodes (n.first ∷ n.more) n.are_scalars

name_reads : {w : List ℕ} (rest : List ℕ) (n : IsName w) → Ends rest → piece_at n.first (n.more ++ rest) ≡ (word_or w rest None, rest)
name_reads {w = w} rest n e =
    word_piece n.first n.more rest n.word_chars e
    ∙ ap (λ v. (word_or v rest (keyword_of v), rest)) n.spelled
    ∙ ap (λ v. (word_or w rest v, rest)) n.no_keyword

pub name_piece : (w rest : List ℕ) → IsName w → Ends rest → opens_next rest ≡ true → Piece (Name w) rest
name_piece w rest n e o = record {
  first = n.first;
  more = n.more ++ rest;
  splits = ap (λ v. v ++ rest) (name_chars n);
  shows = word_not_white n.first (and_cases (is_word_char n.first) (list_all is_word_char n.more) n.word_chars).0;
  reads = name_reads rest n e ∙ ap (λ v. ((if v then Name w else Word w), rest)) o;
  shorter = omega (arith, length-append n.more rest);
}

pub bare_piece : (w rest : List ℕ) → IsName w → Ends rest → opens_next rest ≡ false → Piece (Word w) rest
bare_piece w rest n e o = record {
  first = n.first;
  more = n.more ++ rest;
  splits = ap (λ v. v ++ rest) (name_chars n);
  shows = word_not_white n.first (and_cases (is_word_char n.first) (list_all is_word_char n.more) n.word_chars).0;
  reads = name_reads rest n e ∙ ap (λ v. ((if v then Name w else Word w), rest)) o;
  shorter = omega (arith, length-append n.more rest);
}

-- ---- quoted texts

plain_step : (c : ℕ) (cs : List ℕ) → (c == 92) ≡ false → unescaped c cs ≡ Ok (c, cs)
plain_step c [] h = rw h refl
plain_step c (d ∷ cs) h = rw h refl

escape_step : (c : ℕ) (cs : List ℕ) → is_escaped c ≡ true → unescaped 92 (c ∷ cs) ≡ Ok (c, cs)
escape_step c cs h = rw h refl

either_escaped : (c : ℕ) → ((c == 34) || (c == 92)) ≡ true → is_escaped c ≡ true
either_escaped c h = grind (arith, nat_tests)

neither_quote : (c : ℕ) → ((c == 34) || (c == 92)) ≡ false → (c == 34) ≡ false
neither_quote c h = grind (arith, nat_tests)

neither_slash : (c : ℕ) → ((c == 34) || (c == 92)) ≡ false → (c == 92) ≡ false
neither_slash c h = grind (arith, nat_tests)

quote_ends : (rest : List ℕ) → quote_at 34 (34 ∷ rest) ≡ closed [] rest
quote_ends [] = refl
quote_ends (c ∷ rest) = refl

quote_reads : (cs rest : List ℕ) → quote_at 34 (escaped cs ++ 34 ∷ rest) ≡ closed cs rest
quote_reads [] rest = quote_ends rest
quote_reads (c ∷ cs) rest = elim (true_or_false ((c == 34) || (c == 92))) [
  | inl h ↦ rw h (
      quote_step 34 92 (c ∷ escaped cs ++ 34 ∷ rest) refl
      ∙ ap (after_step 34) (escape_step c (escaped cs ++ 34 ∷ rest) (either_escaped c h))
      ∙ ap (onto c) (quote_reads cs rest)
      )
  | inr h ↦ rw h (
      quote_step 34 c (escaped cs ++ 34 ∷ rest) (neither_quote c h)
      ∙ ap (after_step 34) (plain_step c (escaped cs ++ 34 ∷ rest) (neither_slash c h))
      ∙ ap (onto c) (quote_reads cs rest)
      )
]

quote_piece : (cs : List ℕ) → piece_at 34 cs ≡ quoted (quote_at 34 cs)
unfolding piece_at sign_at
quote_piece cs = refl

pub quoted_piece : (w rest : List ℕ) → IsUtf8 w → Piece (Quoted w) rest
quoted_piece w rest u = record {
  first = 34;
  more = (escaped (chars w) ++ 34 ∷ []) ++ rest;
  splits = refl;
  shows = refl;
  reads = quote_piece ((escaped (chars w) ++ 34 ∷ []) ++ rest)
      ∙ ap (λ v. quoted (quote_at 34 v)) (append_assoc (escaped (chars w)) (34 ∷ []) rest)
      ∙ ap quoted (quote_reads (chars w) rest)
      ∙ ap (λ v. (Quoted v, rest)) (encodes-chars w u);
  shorter = omega (arith, length-append (escaped (chars w) ++ 34 ∷ []) rest);
}

-- ---- fields by number

-- digits of a number
pub record AreDigitsOf (n : ℕ) (ds : List ℕ) : Type 0 where
  pub starts : begins_with is_ascii_digit ds ≡ true
  pub digits : list_all is_ascii_digit ds ≡ true
  pub means : fold with_digit 0 ds ≡ n

digit_is : (d : ℕ) → d < 10 → is_ascii_digit (48 + d) ≡ true
digit_is d h = grind (arith, nat_tests)

one_digit : (n : ℕ) → n < 10 → AreDigitsOf n ((48 + n) ∷ [])
one_digit n h = record { starts = digit_is n h; digits = rw (digit_is n h) refl; means = omega arith }

begins_longer : (ds es : List ℕ) → begins_with is_ascii_digit ds ≡ true → begins_with is_ascii_digit (ds ++ es) ≡ true
begins_longer [] es h = absurd (differ (sym h))
begins_longer (d ∷ ds) es h = h

more_digits : (n : ℕ) (ds : List ℕ) → 10 ≤ n → AreDigitsOf (n / 10) ds → AreDigitsOf n (ds ++ ((48 + n % 10) ∷ []))
more_digits n ds h a =
    let small : n % 10 < 10 = omega arith in
    record {
      starts = begins_longer ds ((48 + n % 10) ∷ []) a.starts;
      digits = list_all-append is_ascii_digit ds ((48 + n % 10) ∷ []) ∙ and_both _ _ a.digits (rw (digit_is (n % 10) small) refl);
      means = fold_push with_digit 0 ds (48 + n % 10) ∙ ap (λ v. with_digit v (48 + n % 10)) a.means ∙ omega arith;
    }

pub decimal_digits : (n : ℕ) → n < 2 ^ 64 → AreDigitsOf n (decimal n)
decimal_digits = decimal_by_steps AreDigitsOf one_digit more_digits

begins_append : (ds es : List ℕ) → begins_with is_ascii_digit ds ≡ true → begins_with is_ascii_digit (ds ++ es) ≡ true
begins_append [] es h = absurd (differ (sym h))
begins_append (d ∷ ds) es h = h

in_range : (n : ℕ) → 10_000 ≤ n → n ≤ 19_999 → numbered n ≡ Custom n
in_range n h k = grind (arith, nat_tests)

bracket_reads : (n : ℕ) (ds rest : List ℕ) → 10_000 ≤ n → n ≤ 19_999 → AreDigitsOf n ds → bracketed (ds ++ 93 ∷ rest) ≡ Some (Custom n, rest)
bracket_reads n ds rest h k a =
    let f = front_all is_ascii_digit ds (93 ∷ rest) a.digits refl in
    let p = past_all is_ascii_digit ds (93 ∷ rest) a.digits refl in
    rw (begins_append ds (93 ∷ rest) a.starts, f, p, number_is_fold ds, a.means, in_range n h k) refl

number_piece : (cs : List ℕ) (t : Token) (rest : List ℕ) → bracketed cs ≡ Some (t, rest) → piece_at 99 (102 ∷ 91 ∷ cs) ≡ (t, rest)
unfolding piece_at sign_at field_number_at
number_piece cs t rest h = rw h refl

pub custom_piece : (n : ℕ) (rest : List ℕ) → 10_000 ≤ n → n ≤ 19_999 → Piece (Custom n) rest
custom_piece n rest h k = record {
  first = 99;
  more = 102 ∷ 91 ∷ (decimal n ++ 93 ∷ []) ++ rest;
  splits = refl;
  shows = refl;
  reads = number_piece ((decimal n ++ 93 ∷ []) ++ rest) (Custom n) rest
      (ap bracketed (append_assoc (decimal n) (93 ∷ []) rest) ∙ bracket_reads n (decimal n) rest h k (decimal_digits n (omega arith)));
  shorter = omega (arith, length-append (decimal n ++ 93 ∷ []) rest);
}
