-- The tokens of a text are spelled as texts may be.
use Rattle.std.proofs.Common.{◌≡◌, ℕ, zero, suc, ◌≤◌, ◌==◌, Bool, true, false, not, ◌&&◌, if◌then◌else◌, List, [], ◌∷◌, Option, Some, None, refl, sym, inl, inr, arith, subst}
use Rattle.std.proofs.lemmas.Bool.Decides.{nat_tests}
use Rattle.std.proofs.lemmas.Str.{scalars-chars}
use Rattle.std.specs.Prelude.{nat_le, chars, option_and_then, option_map}
use Rattle.std.specs.Char.{is_ascii_digit}
use Rattle.std.specs.List.{list_all}
use Rattle.std.specs.Str.{IsUtf8, all_scalars}
use Rattle.relative_dates.specs.Reading.{number_of}
use Rattle.jql_syntax.specs.Tokens.{is_white, is_quote, is_sign, is_banned, is_word_char, is_escaped, front, past, after_char, begins_with, Piece, longer_or, or_longer, or_lacks, sign_at, Quote, closed, refused, onto, quote_at, quoted, numbered, bracketed, field_number_at, keyword_of, opens_next, word_or, run_of, word_at, number_or_word, signed_or, piece_at, rest_of, tokens_of, tokens, words}
use Rattle.jql_syntax.specs.declared.token.Mark.{Mark}
use Rattle.jql_syntax.specs.declared.token.Mark.TheVariants.{Greater, GreaterOrEqual, Less, LessOrEqual, Lacks, Comma, And, Or, Not}
use Rattle.jql_syntax.specs.declared.token.Kind.TheVariants.{Character, Unclosed, BadNumber}
use Rattle.jql_syntax.specs.declared.token.Token.TheVariants.{Marked, Word, Name, Quoted, Custom, Bad}
use Rattle.jql_syntax.proofs.Apart.{true_or_false, and_cases, and_both}
use Rattle.jql_print.proofs.Spells.{IsName, IsGood, AreGood}

abbrev Good : List ℕ → Type 0
Good cs = all_scalars cs ≡ true

head_good : (c : ℕ) (cs : List ℕ) → Good (c ∷ cs) → Good (c ∷ [])
head_good c cs h = let a = and_cases _ (all_scalars cs) h in and_both _ _ a.0 refl

tail_good : (c : ℕ) (cs : List ℕ) → Good (c ∷ cs) → Good cs
tail_good c cs h = (and_cases _ (all_scalars cs) h).1

cons_good : (c : ℕ) (cs ds : List ℕ) → Good (c ∷ cs) → Good ds → Good (c ∷ ds)
cons_good c cs ds h k = and_both _ _ (and_cases _ (all_scalars cs) h).0 k

-- ---- what is left of good characters

abbrev GoodRest : Option (List ℕ) → Type 0
GoodRest None = Unit {0}
GoodRest (Some rest) = Good rest

after_good : (k : ℕ) (cs : List ℕ) → Good cs → GoodRest (after_char k cs)
after_good k [] h = tt
after_good k (c ∷ cs) h = let P : Bool → Type 0 = λ b. GoodRest (if b then Some cs else None) in elim (true_or_false (c == k)) [
  | inl e ↦ subst P (sym e) (tail_good c cs h)
  | inr e ↦ subst P (sym e) tt
]

front_good : (p : ℕ → Bool) (cs : List ℕ) → Good cs → Good (front p cs)
front_good p [] h = refl
front_good p (c ∷ cs) h = let P : Bool → Type 0 = λ b. Good (if b then c ∷ front p cs else []) in elim (true_or_false (p c)) [
  | inl e ↦ subst P (sym e) (cons_good c cs (front p cs) h (front_good p cs (tail_good c cs h)))
  | inr e ↦ subst P (sym e) refl
]

past_good : (p : ℕ → Bool) (cs : List ℕ) → Good cs → Good (past p cs)
past_good p [] h = refl
past_good p (c ∷ cs) h = let P : Bool → Type 0 = λ b. Good (if b then past p cs else c ∷ cs) in elim (true_or_false (p c)) [
  | inl e ↦ subst P (sym e) (past_good p cs (tail_good c cs h))
  | inr e ↦ subst P (sym e) h
]

front_passes : (p : ℕ → Bool) (cs : List ℕ) → list_all p (front p cs) ≡ true
front_passes p [] = refl
front_passes p (c ∷ cs) = let P : Bool → Type 0 = λ b. list_all p (if b then c ∷ front p cs else []) ≡ true in elim (true_or_false (p c)) [
  | inl e ↦ subst P (sym e) (and_both _ _ e (front_passes p cs))
  | inr e ↦ subst P (sym e) refl
]

-- ---- a token and what is left

abbrev GoodPiece : Piece → Type 0
GoodPiece p = IsGood p.0 × Good p.1

abbrev GoodSign : Option (Mark × List ℕ) → Type 0
GoodSign None = Unit {0}
GoodSign (Some s) = Good s.1

if_sign : (b : Bool) (x y : Option (Mark × List ℕ)) → GoodSign x → GoodSign y → GoodSign (if b then x else y)
if_sign true x y h k = h
if_sign false x y h k = k

longer_good : (m j : Mark) (cs : List ℕ) (o : Option (List ℕ)) → Good cs → GoodRest o → Good (longer_or m j cs o).1
longer_good m j cs None h k = h
longer_good m j cs (Some rest) h k = k

or_longer_good : (d : ℕ) (m j : Mark) (cs : List ℕ) → Good cs → Good (or_longer d m j cs).1
or_longer_good d m j cs h = longer_good m j cs (after_char d cs) h (after_good d cs h)

lacks_good : (cs : List ℕ) (o : Option (List ℕ)) → Good cs → GoodRest o → Good (or_lacks cs o).1
lacks_good cs None h k = or_longer_good 126 Lacks Not cs h
lacks_good cs (Some rest) h k = k

sign_good : (c : ℕ) (cs : List ℕ) → Good cs → GoodSign (sign_at c cs)
unfolding sign_at
sign_good c cs h =
    if_sign (c == 61) _ _ h
    (if_sign (c == 33) _ _ (lacks_good cs (after_char 61 cs) h (after_good 61 cs h))
    (if_sign (c == 60) _ _ (or_longer_good 61 LessOrEqual Less cs h)
    (if_sign (c == 62) _ _ (or_longer_good 61 GreaterOrEqual Greater cs h)
    (if_sign (c == 126) _ _ h
    (if_sign (c == 38) _ _ (or_longer_good 38 And And cs h)
    (if_sign (c == 124) _ _ (or_longer_good 124 Or Or cs h)
    (if_sign (c == 40) _ _ h
    (if_sign (c == 41) _ _ h
    (if_sign (c == 44) (Some (Comma, cs)) None h tt)))))))))

abbrev GoodQuote : Quote → Type 0
GoodQuote (closed text rest) = Good text × Good rest
GoodQuote (refused k) = Unit {0}

onto_good : (c : ℕ) (q : Quote) → Good (c ∷ []) → GoodQuote q → GoodQuote (onto c q)
onto_good c (closed text rest) h k = (cons_good c [] text h k.0, k.1)
onto_good c (refused j) h k = tt

if_quote : (b : Bool) (x y : Quote) → GoodQuote x → GoodQuote y → GoodQuote (if b then x else y)
if_quote true x y h k = h
if_quote false x y h k = k

quote_good : (q : ℕ) (cs : List ℕ) → Good cs → GoodQuote (quote_at q cs)
quote_good q [] h = tt
quote_good q (c ∷ []) h = if_quote (c == q) (closed [] []) (refused Unclosed) (refl, refl) tt
quote_good q (c ∷ d ∷ cs) h =
    let t = tail_good c (d ∷ cs) h in
    if_quote (c == q) (closed [] (d ∷ cs)) _ (refl, t)
    (if_quote (c == 92) _ _
    (if_quote (is_escaped d) (onto d (quote_at q cs)) (refused Character) (onto_good d (quote_at q cs) (head_good d cs t) (quote_good q cs (tail_good d cs t))) tt)
    (onto_good c (quote_at q (d ∷ cs)) (head_good c (d ∷ cs) h) (quote_good q (d ∷ cs) t)))

quoted_good : (q : Quote) → GoodQuote q → GoodPiece (quoted q)
quoted_good (closed text rest) h = ((text, (h.0, refl)), h.1)
quoted_good (refused k) h = (tt, refl)

abbrev GoodOptional : Option Piece → Type 0
GoodOptional None = Unit {0}
GoodOptional (Some p) = GoodPiece p

le_from : (m n : ℕ) → nat_le m n ≡ true → m ≤ n
le_from m n h = grind (arith, nat_tests)

numbered_by : (n : ℕ) (b : Bool) → (nat_le 10_000 n && nat_le n 19_999) ≡ b → IsGood (if b then Custom n else Bad BadNumber)
numbered_by n true h = let a = and_cases (nat_le 10_000 n) (nat_le n 19_999) h in (le_from 10_000 n a.0, le_from n 19_999 a.1)
numbered_by n false h = tt

numbered_good : (n : ℕ) → IsGood (numbered n)
numbered_good n = numbered_by n (nat_le 10_000 n && nat_le n 19_999) refl

number_good : (n : ℕ) (o : Option (List ℕ)) → GoodRest o → GoodOptional (option_map (λ rest. (numbered n, rest)) o)
number_good n None h = tt
number_good n (Some rest) h = (numbered_good n, h)

if_optional : (b : Bool) (x y : Option Piece) → GoodOptional x → GoodOptional y → GoodOptional (if b then x else y)
if_optional true x y h k = h
if_optional false x y h k = k

bracketed_good : (cs : List ℕ) → Good cs → GoodOptional (bracketed cs)
bracketed_good cs h =
    if_optional (not (begins_with is_ascii_digit cs)) None _ tt
    (number_good (number_of (front is_ascii_digit cs)) (after_char 93 (past is_ascii_digit cs)) (after_good 93 (past is_ascii_digit cs) (past_good is_ascii_digit cs h)))

then_bracketed : (o : Option (List ℕ)) → GoodRest o → GoodOptional (option_and_then bracketed o)
then_bracketed None h = tt
then_bracketed (Some cs) h = bracketed_good cs h

then_after : (k : ℕ) (o : Option (List ℕ)) → GoodRest o → GoodRest (option_and_then (after_char k) o)
then_after k None h = tt
then_after k (Some cs) h = after_good k cs h

field_number_good : (c : ℕ) (cs : List ℕ) → Good cs → GoodOptional (field_number_at c cs)
unfolding field_number_at
field_number_good c cs h = if_optional (c == 99) _ None (then_bracketed _ (then_after 91 (after_char 102 cs) (after_good 102 cs h))) tt

-- ---- words

word_token : (w : List ℕ) (rest : List ℕ) (o : Option Mark) → (o ≡ None → IsName w) → IsGood (word_or w rest o)
word_token w rest (Some m) h = tt
word_token w rest None h = let P : Bool → Type 0 = λ b. IsGood (if b then Name w else Word w) in elim (true_or_false (opens_next rest)) [
  | inl e ↦ subst P (sym e) (h refl)
  | inr e ↦ subst P (sym e) (h refl)
]

word_good : (c : ℕ) (cs : List ℕ) → Good (c ∷ cs) → is_word_char c ≡ true → GoodPiece (word_at c cs)
word_good c cs h w =
    let f = front_good is_word_char cs (tail_good c cs h) in (
      word_token (run_of c cs) (past is_word_char cs) (keyword_of (run_of c cs)) (λ n. record {
        first = c;
        more = front is_word_char cs;
        are_scalars = cons_good c cs (front is_word_char cs) h f;
        spelled = refl;
        word_chars = and_both _ _ w (front_passes is_word_char cs);
        no_keyword = n;
      }),
      past_good is_word_char cs (tail_good c cs h),
    )

number_or_good : (c : ℕ) (cs : List ℕ) (o : Option Piece) → GoodOptional o → GoodPiece (word_at c cs) → GoodPiece (number_or_word c cs o)
number_or_good c cs None h k = k
number_or_good c cs (Some p) h k = h

none_is_word : (c : ℕ) → is_white c ≡ false → is_quote c ≡ false → is_sign c ≡ false → is_banned c ≡ false → is_word_char c ≡ true
none_is_word c w q s b = rw (w, q, s, b) refl

if_piece : (b : Bool) (x y : Piece) → (b ≡ true → GoodPiece x) → (b ≡ false → GoodPiece y) → GoodPiece (if b then x else y)
if_piece true x y h k = h refl
if_piece false x y h k = k refl

if_none : {A : Type 0} (b : Bool) (x : A) (o : Option A) → (if b then Some x else o) ≡ None → (b ≡ false) × (o ≡ None)
if_none true x o h = absurd cc
if_none false x o h = (refl, h)

-- a character with which no sign begins
no_sign : (c : ℕ) (cs : List ℕ) → sign_at c cs ≡ None → is_sign c ≡ false
unfolding sign_at
no_sign c cs h =
    let a = if_none (c == 61) _ _ h in
    let b = if_none (c == 33) _ _ a.1 in
    let d = if_none (c == 60) _ _ b.1 in
    let e = if_none (c == 62) _ _ d.1 in
    let f = if_none (c == 126) _ _ e.1 in
    let g = if_none (c == 38) _ _ f.1 in
    let i = if_none (c == 124) _ _ g.1 in
    let j = if_none (c == 40) _ _ i.1 in
    let k = if_none (c == 41) _ _ j.1 in
    let l = if_none (c == 44) _ _ k.1 in
    rw (a.0, b.0, d.0, e.0, f.0, g.0, i.0, j.0, k.0, l.0) refl

signed_good : (c : ℕ) (cs : List ℕ) (o : Option (Mark × List ℕ)) → Good (c ∷ cs) → is_white c ≡ false → GoodSign o → (o ≡ None → is_sign c ≡ false) → GoodPiece (signed_or c cs o)
signed_good c cs (Some s) h w g n = (tt, g)
signed_good c cs None h w g n =
    let t = tail_good c cs h in
    if_piece (is_quote c) _ _ (λ e. quoted_good (quote_at c cs) (quote_good c cs t))
    (λ q. if_piece (is_banned c) (Bad Character, []) _ (λ e. (tt, refl))
    (λ b. number_or_good c cs (field_number_at c cs) (field_number_good c cs t) (word_good c cs h (none_is_word c w q (n refl) b))))

piece_good : (c : ℕ) (cs : List ℕ) → Good (c ∷ cs) → is_white c ≡ false → GoodPiece (piece_at c cs)
unfolding piece_at
piece_good c cs h w = signed_good c cs (sign_at c cs) h w (sign_good c cs (tail_good c cs h)) (no_sign c cs)

-- ---- the tokens of a text

rest_good : (p : Piece) → GoodPiece p → Good (rest_of p)
rest_good (Marked m, rest) h = h.1
rest_good (Word w, rest) h = h.1
rest_good (Name w, rest) h = h.1
rest_good (Quoted w, rest) h = h.1
rest_good (Custom n, rest) h = h.1
rest_good (Bad k, rest) h = refl

white_step : (most total c : ℕ) (cs : List ℕ) → is_white c ≡ true → words (tokens_of (suc most) total (c ∷ cs)) ≡ words (tokens_of most total cs)
unfolding tokens_of
white_step most total c cs h = rw h refl

token_step : (most total c : ℕ) (cs : List ℕ) → is_white c ≡ false → words (tokens_of (suc most) total (c ∷ cs)) ≡ (piece_at c cs).0 ∷ words (tokens_of most total (rest_of (piece_at c cs)))
unfolding tokens_of
token_step most total c cs h = rw h refl

none_left : (total : ℕ) (cs : List ℕ) → words (tokens_of zero total cs) ≡ []
unfolding tokens_of
none_left total cs = refl

end_left : (most total : ℕ) → words (tokens_of (suc most) total []) ≡ []
unfolding tokens_of
end_left most total = refl

all_good : (most total : ℕ) (cs : List ℕ) → Good cs → AreGood (words (tokens_of most total cs))
all_good zero total cs h = subst AreGood (sym (none_left total cs)) tt
all_good (suc most) total [] h = subst AreGood (sym (end_left most total)) tt
all_good (suc most) total (c ∷ cs) h = elim (true_or_false (is_white c)) [
  | inl w ↦ subst AreGood (sym (white_step most total c cs w)) (all_good most total cs (tail_good c cs h))
  | inr w ↦
      let p = piece_good c cs h w in
      subst AreGood (sym (token_step most total c cs w)) (p.0, all_good most total (rest_of (piece_at c cs)) (rest_good (piece_at c cs) p))
]

pub tokens_good : (text : List ℕ) → IsUtf8 text → AreGood (words (tokens text))
tokens_good text u = all_good _ _ (chars text) (scalars-chars text u)
