-- A spelling has the tokens that it spells.
use Rattle.std.proofs.Common.{◌≡◌, ℕ, zero, suc, ◌+◌, ◌≤◌, ◌<◌, ◌^◌, ◌%◌, ◌==◌, Bool, true, false, ◌||◌, if◌then◌else◌, List, [], ◌∷◌, ◌++◌, length, refl, ap, sym, ◌∙◌, inl, inr, arith, subst}
use Rattle.std.proofs.lemmas.Bool.Decides.{nat_tests}
use Rattle.std.proofs.lemmas.Str.{scalars-chars, chars-encodes, length-le-encodes}
use Rattle.std.proofs.lemmas.Fmt.{decimal_by_steps}
use Rattle.std.specs.Prelude.{decimal, chars}
use Rattle.std.specs.Str.{all_scalars}
use Rattle.jql_syntax.specs.Tokens.{is_white, piece_at, opens_next, sign_at, rest_of, tokens_of, tokens, words}
use Rattle.jql_syntax.specs.declared.token.Mark.{Mark}
use Rattle.jql_syntax.specs.declared.token.Mark.TheVariants.{Equals, NotEquals, Greater, GreaterOrEqual, Less, LessOrEqual, Contains, Lacks, Open, Close, Comma, And, Or, Not, Empty, In, Is, Was, Changed, Order, By, Ascending, Descending, After, Before, On, During, From, To}
use Rattle.jql_syntax.specs.declared.token.Token.{Token}
use Rattle.jql_syntax.specs.declared.token.Token.TheVariants.{Marked, Word, Name, Quoted, Custom, Bad}
use Rattle.jql_syntax.proofs.Apart.{differ, true_or_false, and_cases, and_both}
use Rattle.jql_print.specs.Spelling.{mark_spelling, escaped, spelling, is_tight, closes, gap, spellings, text_of}
use Rattle.jql_print.proofs.Spells.{IsName, OpensNext, Spells}
use Rattle.jql_print.proofs.Words.{Ends, at_end, at_space, at_open, at_close, at_comma}
use Rattle.jql_print.proofs.Pieces.{Piece, mark_piece, name_piece, bare_piece, quoted_piece, custom_piece}

-- ---- what stands behind a token

closing_ends : (t : Token) (rest : List ℕ) → closes t ≡ true → Ends (spelling t ++ rest)
closing_ends (Marked Close) rest h = at_close
closing_ends (Marked Comma) rest h = at_comma
closing_ends _ rest h = absurd (differ (sym h))

pub behind_ends : (ts : List Token) → Ends (spellings false ts)
behind_ends [] = at_end
behind_ends (t ∷ ts) = elim (true_or_false (closes t)) [
  | inl h ↦ rw h (closing_ends t (spellings (is_tight t) ts) h)
  | inr h ↦ rw h at_space
]

pub name_ends : (ts : List Token) → OpensNext ts → Ends (spellings true ts)
name_ends (Marked Open ∷ ts) h = at_open
name_ends [] h = absurd h
name_ends (_ ∷ ts) h = absurd h

name_opens : (ts : List Token) → OpensNext ts → opens_next (spellings true ts) ≡ true
name_opens (Marked Open ∷ ts) h = refl
name_opens [] h = absurd h
name_opens (_ ∷ ts) h = absurd h

eq_from : (c k : ℕ) → (c == k) ≡ true → c ≡ k
eq_from c k h = grind (arith, nat_tests)

open_reads : (cs : List ℕ) → piece_at 40 cs ≡ (Marked Open, cs)
unfolding piece_at sign_at
open_reads cs = refl

opens_first : (c : ℕ) (cs : List ℕ) → is_white c ≡ false → (c == 40) ≡ false → opens_next (c ∷ cs) ≡ false
opens_first c cs w h = rw (w, h) refl

-- a token that is no parenthesis doesn't begin like one
not_open : {t : Token} {rest : List ℕ} → Piece t rest → (t ≡ Marked Open → ⊥) → opens_next (spelling t ++ rest) ≡ false
not_open {t = t} {rest = rest} p n = ap opens_next p.splits ∙ opens_first p.first p.more p.shows (elim (true_or_false (p.first == 40)) [
  | inl h ↦
      let e : piece_at p.first p.more ≡ piece_at 40 p.more = ap (λ v. piece_at v p.more) (eq_from p.first 40 h) in
      let k : t ≡ Marked Open = ap (λ v. v.0) (sym p.reads ∙ e ∙ open_reads p.more) in
      absurd (n k)
  | inr h ↦ h
])

gap_not_open : (t : Token) (rest : List ℕ) → Piece t rest → (t ≡ Marked Open → ⊥) → opens_next (gap false t ++ (spelling t ++ rest)) ≡ false
gap_not_open t rest p n = elim (true_or_false (closes t)) [
  | inl h ↦ rw h (not_open p n)
  | inr h ↦ rw h (not_open p n)
]

opens_is : (t : Token) (ts : List Token) → t ≡ Marked Open → OpensNext (t ∷ ts)
opens_is t ts e = let P : Token → Type 0 = λ v. OpensNext (v ∷ ts) in subst P (sym e) tt

-- each token is read from its spelling
pub piece_of : (t : Token) (ts : List Token) → Spells (t ∷ ts) → Piece t (spellings (is_tight t) ts)
piece_of (Marked m) ts s = mark_piece m (spellings (is_tight (Marked m)) ts) (λ e. let P : Bool → Type 0 = λ v. Ends (spellings v ts) in subst P (sym e) (behind_ends ts))
piece_of (Word w) [] s = bare_piece w [] s.0 at_end refl
piece_of (Word w) (t ∷ ts) s = bare_piece w (spellings false (t ∷ ts)) s.0 (behind_ends (t ∷ ts)) (gap_not_open t (spellings (is_tight t) ts) (piece_of t ts s.2) (λ e. s.1 (opens_is t ts e)))
piece_of (Name w) ts s = name_piece w (spellings true ts) s.0 (name_ends ts s.1) (name_opens ts s.1)
piece_of (Quoted w) ts s = quoted_piece w (spellings false ts) s.0
piece_of (Custom n) ts s = custom_piece n (spellings false ts) s.0 s.1
piece_of (Bad k) ts s = absurd s

later : (t : Token) (ts : List Token) → Spells (t ∷ ts) → Spells ts
later (Marked m) ts s = s
later (Word w) ts s = s.2
later (Name w) ts s = s.2
later (Quoted w) ts s = s.1
later (Custom n) ts s = s.2
later (Bad k) ts s = absurd s

-- ---- the tokens of a spelling

end_step : (most total : ℕ) → tokens_of most total [] ≡ []
unfolding tokens_of
end_step zero total = refl
end_step (suc most) total = refl

white_step : (most total c : ℕ) (cs : List ℕ) → is_white c ≡ true → tokens_of (suc most) total (c ∷ cs) ≡ tokens_of most total cs
unfolding tokens_of
white_step most total c cs h = rw h refl

token_step : (most total c : ℕ) (cs : List ℕ) → is_white c ≡ false → words (tokens_of (suc most) total (c ∷ cs)) ≡ (piece_at c cs).0 ∷ words (tokens_of most total (rest_of (piece_at c cs)))
unfolding tokens_of
token_step most total c cs h = rw h refl

kept_rest : (t : Token) (ts : List Token) (rest : List ℕ) → Spells (t ∷ ts) → rest_of (t, rest) ≡ rest
kept_rest (Marked m) ts rest s = refl
kept_rest (Word w) ts rest s = refl
kept_rest (Name w) ts rest s = refl
kept_rest (Quoted w) ts rest s = refl
kept_rest (Custom n) ts rest s = refl
kept_rest (Bad k) ts rest s = absurd s

abbrev LexesTo : ℕ → List ℕ → List Token → Type 0
LexesTo most cs ts = (total : ℕ) → words (tokens_of most total cs) ≡ ts

-- tokens of what is behind, and so of the whole
behind_token : (most : ℕ) (t : Token) (ts : List Token) (rest cs : List ℕ) (c : ℕ) → Spells (t ∷ ts) → is_white c ≡ false → piece_at c cs ≡ (t, rest) → LexesTo most rest ts → LexesTo (suc most) (c ∷ cs) (t ∷ ts)
behind_token most t ts rest cs c s w p h =
    λ total. token_step most total c cs w
    ∙ ap (λ v. v.0 ∷ words (tokens_of most total (rest_of v))) p
    ∙ ap (λ v. t ∷ words (tokens_of most total v)) (kept_rest t ts rest s)
    ∙ ap (λ v. t ∷ v) (h total)

at_token : (most : ℕ) (t : Token) (ts : List Token) (rest : List ℕ) → Spells (t ∷ ts) → Piece t rest → length (spelling t ++ rest) ≤ most → ((m : ℕ) → length rest ≤ m → LexesTo m rest ts) → LexesTo most (spelling t ++ rest) (t ∷ ts)
at_token zero t ts rest s p l h = let e = ap length p.splits in absurd (omega arith)
at_token (suc most) t ts rest s p l h =
    let e = ap length p.splits in
    let k = p.shorter in
    let r = behind_token most t ts rest p.more p.first s p.shows p.reads (h most (omega arith)) in
    λ total. ap (λ v. words (tokens_of (suc most) total v)) p.splits ∙ r total

at_space_first : (most : ℕ) (cs : List ℕ) (ts : List Token) → length (32 ∷ cs) ≤ most → ((m : ℕ) → length cs ≤ m → LexesTo m cs ts) → LexesTo most (32 ∷ cs) ts
at_space_first zero cs ts l h = absurd (omega arith)
at_space_first (suc most) cs ts l h = λ total. ap words (white_step most total 32 cs refl) ∙ h most (omega arith) total

at_gap : (b : Bool) (most : ℕ) (cs : List ℕ) (ts : List Token) → length ((if b then [] else 32 ∷ []) ++ cs) ≤ most → ((m : ℕ) → length cs ≤ m → LexesTo m cs ts) → LexesTo most ((if b then [] else 32 ∷ []) ++ cs) ts
at_gap true most cs ts l h = h most l
at_gap false most cs ts l h = at_space_first most cs ts l h

pub lexes : (tight : Bool) (ts : List Token) (most : ℕ) → Spells ts → length (spellings tight ts) ≤ most → LexesTo most (spellings tight ts) ts
lexes tight [] most s l = λ total. ap words (end_step most total)
lexes tight (t ∷ ts) most s l =
    let rest = spellings (is_tight t) ts in
    at_gap (tight || closes t) most (spelling t ++ rest) (t ∷ ts) l
    (λ m k. at_token m t ts rest s (piece_of t ts s) k (λ n j. lexes (is_tight t) ts n (later t ts s) j))

-- ---- its characters

scalars_append : (xs ys : List ℕ) → all_scalars xs ≡ true → all_scalars ys ≡ true → all_scalars (xs ++ ys) ≡ true
scalars_append [] ys h k = k
scalars_append (x ∷ xs) ys h k = let a = and_cases _ (all_scalars xs) h in and_both _ _ a.0 (scalars_append xs ys a.1 k)

escaped_scalars : (cs : List ℕ) → all_scalars cs ≡ true → all_scalars (escaped cs) ≡ true
escaped_scalars [] h = refl
escaped_scalars (c ∷ cs) h = let a = and_cases _ (all_scalars cs) h in elim (true_or_false ((c == 34) || (c == 92))) [
  | inl k ↦ rw k (and_both _ _ a.0 (escaped_scalars cs a.1))
  | inr k ↦ rw k (and_both _ _ a.0 (escaped_scalars cs a.1))
]

digit_scalar : (d : ℕ) → d < 10 → all_scalars ((48 + d) ∷ []) ≡ true
digit_scalar d h = grind (arith, nat_tests)

decimal_scalars : (n : ℕ) → n < 2 ^ 64 → all_scalars (decimal n) ≡ true
decimal_scalars = decimal_by_steps (λ n ds. all_scalars ds ≡ true) (λ n h. digit_scalar n h) (λ n ds h k. scalars_append ds _ k (digit_scalar (n % 10) (omega arith)))

mark_scalars : (m : Mark) → all_scalars (mark_spelling m) ≡ true
mark_scalars Equals = refl
mark_scalars NotEquals = refl
mark_scalars Greater = refl
mark_scalars GreaterOrEqual = refl
mark_scalars Less = refl
mark_scalars LessOrEqual = refl
mark_scalars Contains = refl
mark_scalars Lacks = refl
mark_scalars Open = refl
mark_scalars Close = refl
mark_scalars Comma = refl
mark_scalars And = refl
mark_scalars Or = refl
mark_scalars Not = refl
mark_scalars Empty = refl
mark_scalars In = refl
mark_scalars Is = refl
mark_scalars Was = refl
mark_scalars Changed = refl
mark_scalars Order = refl
mark_scalars By = refl
mark_scalars Ascending = refl
mark_scalars Descending = refl
mark_scalars After = refl
mark_scalars Before = refl
mark_scalars On = refl
mark_scalars During = refl
mark_scalars From = refl
mark_scalars To = refl

name_scalars : {w : List ℕ} → IsName w → all_scalars (chars w) ≡ true
name_scalars n = scalars-chars _ (n.first ∷ n.more, (n.are_scalars, n.spelled))

token_scalars : (t : Token) (ts : List Token) → Spells (t ∷ ts) → all_scalars (spelling t) ≡ true
token_scalars (Marked m) ts s = mark_scalars m
token_scalars (Word w) ts s = name_scalars s.0
token_scalars (Name w) ts s = name_scalars s.0
token_scalars (Quoted w) ts s = scalars_append (escaped (chars w)) (34 ∷ []) (escaped_scalars (chars w) (scalars-chars w s.0)) refl
token_scalars (Custom n) ts s = let small = s.1 in scalars_append (decimal n) (93 ∷ []) (decimal_scalars n (omega arith)) refl
token_scalars (Bad k) ts s = absurd s

gap_scalars : (b : Bool) → all_scalars (if b then [] else 32 ∷ []) ≡ true
gap_scalars true = refl
gap_scalars false = refl

spelled_scalars : (tight : Bool) (ts : List Token) → Spells ts → all_scalars (spellings tight ts) ≡ true
spelled_scalars tight [] s = refl
spelled_scalars tight (t ∷ ts) s =
    scalars_append (gap tight t) _ (gap_scalars (tight || closes t))
    (scalars_append (spelling t) _ (token_scalars t ts s) (spelled_scalars (is_tight t) ts (later t ts s)))

-- the tokens of the text are these
pub tokens_back : (ts : List Token) → Spells ts → words (tokens (text_of ts)) ≡ ts
tokens_back ts s =
    let cs = spellings true ts in
    ap (λ v. words (tokens_of (length (text_of ts)) (length (text_of ts)) v)) (chars-encodes cs (spelled_scalars true ts s))
    ∙ lexes true ts (length (text_of ts)) s (length-le-encodes cs) (length (text_of ts))
