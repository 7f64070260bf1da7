-- How the characters of tokens are read, one by one.
use Rattle.std.proofs.Common.{◌≡◌, ℕ, zero, suc, ◌+◌, ◌-◌, ◌*◌, ◌≤◌, ◌<◌, ◌==◌, Bool, true, false, not, if◌then◌else◌, List, [], ◌∷◌, ◌++◌, length, fold, None, Result, Ok, Err, refl, ap, sym, ◌∙◌, arith, append_assoc, append-nil, encode_utf8_all, encode_utf8}
use Rattle.std.proofs.lemmas.Bool.Decides.{nat_tests}
use Rattle.relative_dates.specs.Reading.{number_of}
use Rattle.jql_syntax.specs.declared.token.Kind.{Kind}
use Rattle.jql_syntax.specs.declared.token.Kind.TheVariants.{Character, Unclosed, BadNumber}
use Rattle.jql_syntax.specs.declared.token.Token.{Token}
use Rattle.jql_syntax.specs.declared.token.Token.TheVariants.{Quoted, Bad}
use Rattle.jql_syntax.specs.Tokens.{front, past, numbered, Quote, closed, refused, onto, quote_at, quoted, unescaped, is_escaped, Piece, sign_at, is_quote, is_banned, piece_at, is_white, size, rest_of, tokens_of}
use Rattle.jql_syntax.specs.declared.token.Placed.{Placed}
use Rattle.std.specs.Str.{chars, IsUtf8}
use Rattle.std.proofs.lemmas.Str.{encodes-chars}
use Rattle.jql_syntax.proofs.Apart.{differ}

abbrev pub with_digit : ℕ → ℕ → ℕ
with_digit number digit = 10 * number + (digit - 48)

pub number_is_fold : (ds : List ℕ) → number_of ds ≡ fold with_digit 0 ds
unfolding number_of
number_is_fold ds = refl

stays_large : (ds : List ℕ) (n : ℕ) → 19_999 < n → 19_999 < fold with_digit n ds
stays_large [] n h = h
stays_large (d ∷ ds) n h = stays_large ds (with_digit n d) (omega arith)

large_is_bad : (n : ℕ) → 19_999 < n → numbered n ≡ Bad BadNumber
large_is_bad n h = grind (arith, nat_tests)

-- past the greatest number further digits don't count
pub large_stays : (n d : ℕ) (ds : List ℕ) → 19_999 < n → numbered (fold with_digit n (d ∷ ds)) ≡ numbered (fold with_digit n ds)
large_stays n d ds h = large_is_bad _ (stays_large (d ∷ ds) n h) ∙ sym (large_is_bad _ (stays_large ds n h))

-- what a quoted text is, behind what was read of it
abbrev pub quoted_on : List ℕ → Quote → Piece
quoted_on front (closed text rest) = (Quoted (front ++ encode_utf8_all text), rest)
quoted_on front (refused k) = (Bad k, [])

-- a character in quotes, and what follows
abbrev pub after_step : ℕ → Result (ℕ × List ℕ) Kind → Quote
after_step q (Ok x) = onto x.0 (quote_at q x.1)
after_step q (Err k) = refused k

alone : (q c : ℕ) (b : Bool) → refused Unclosed ≡ after_step q (if b then Err Unclosed else Ok (c, []))
alone q c true = refl
alone q c false = refl

followed : (q c d : ℕ) (cs : List ℕ) (b e : Bool) → (if b then (if e then onto d (quote_at q cs) else refused Character) else onto c (quote_at q (d ∷ cs))) ≡ after_step q (if b then (if e then Ok (d, cs) else Err Character) else Ok (c, d ∷ cs))
followed q c d cs true true = refl
followed q c d cs true false = refl
followed q c d cs false e = refl

pub quote_step : (q c : ℕ) (cs : List ℕ) → (c == q) ≡ false → quote_at q (c ∷ cs) ≡ after_step q (unescaped c cs)
quote_step q c [] h = rw h (alone q c (c == 92))
quote_step q c (d ∷ cs) h = rw h (followed q c d cs (c == 92) (is_escaped d))

pub quoted_onto : (front : List ℕ) (c : ℕ) (x : Quote) → quoted_on front (onto c x) ≡ quoted_on (front ++ encode_utf8 c) x
quoted_onto front c (closed text rest) = ap (λ v. (Quoted v, rest)) (sym (append_assoc front (encode_utf8 c) (encode_utf8_all text)))
quoted_onto front c (refused k) = refl

pub quoted_is : (x : Quote) → quoted_on [] x ≡ quoted x
quoted_is (closed text rest) = refl
quoted_is (refused k) = refl

pub front_next : (p : ℕ → Bool) (all : List ℕ) (c : ℕ) (cs : List ℕ) → all ≡ c ∷ cs → p c ≡ true → front p all ≡ c ∷ front p cs
front_next p all c cs e h = rw (e, h) refl

pub past_next : (p : ℕ → Bool) (all : List ℕ) (c : ℕ) (cs : List ℕ) → all ≡ c ∷ cs → p c ≡ true → past p all ≡ past p cs
past_next p all c cs e h = rw (e, h) refl

pub not_false : (b : Bool) → not b ≡ false → b ≡ true
not_false true h = refl
not_false false h = absurd (differ h)

pub not_same : (c q : ℕ) → (c ≡ q → ⊥) → (c == q) ≡ false
not_same c q h = grind (arith, nat_tests)

-- one character more of a quoted text
pub quoted_next : (front : List ℕ) (q c d : ℕ) (all cs ds : List ℕ) → all ≡ c ∷ cs → (c ≡ q → ⊥) → Ok (d, ds) ≡ unescaped c cs → quoted_on (front ++ encode_utf8 d) (quote_at q ds) ≡ quoted_on front (quote_at q all)
quoted_next front q c d all cs ds e n v =
    let a : quote_at q all ≡ after_step q (Ok (d, ds)) = ap (quote_at q) e ∙ quote_step q c cs (not_same c q n) ∙ ap (after_step q) (sym v) in
    sym (ap (quoted_on front) a ∙ quoted_onto front d (quote_at q ds))

-- a character that can't be read in quotes
pub quoted_refused : (front : List ℕ) (q c : ℕ) (k : Kind) (all cs : List ℕ) → all ≡ c ∷ cs → (c ≡ q → ⊥) → Err k ≡ unescaped c cs → quoted_on front (quote_at q all) ≡ (Bad k, [])
quoted_refused front q c k all cs e n v =
    ap (quoted_on front) (ap (quote_at q) e ∙ quote_step q c cs (not_same c q n) ∙ ap (after_step q) (sym v))

pub banned_piece : (c : ℕ) (cs : List ℕ) → None ≡ sign_at c cs → false ≡ is_quote c → true ≡ is_banned c → (Bad Character, []) ≡ piece_at c cs
unfolding piece_at
banned_piece c cs s q b = rw (← s, ← q, ← b) refl

-- The tokens up to here, and those of what is left: it has so many bytes.
pub record Upto (items : List Placed) (total left : ℕ) (cs : List ℕ) (all : List Placed) : Type 0 where
  pub most : ℕ
  pub enough : left ≤ most
  pub cut : items ++ tokens_of most total cs ≡ all

white_step : (most total c : ℕ) (cs : List ℕ) → is_white c ≡ true → tokens_of (suc most) total (c ∷ cs) ≡ tokens_of most total cs
unfolding tokens_of
white_step most total c cs h = rw h refl

token_step : (most total c : ℕ) (cs : List ℕ) → is_white c ≡ false → tokens_of (suc most) total (c ∷ cs) ≡ record { place = total - size (c ∷ cs); token = (piece_at c cs).0 } ∷ tokens_of most total (rest_of (piece_at c cs))
unfolding tokens_of
token_step most total c cs h = rw h refl

end_step : (most total : ℕ) → tokens_of most total [] ≡ []
unfolding tokens_of
end_step zero total = refl
end_step (suc most) total = refl

white_at : (most : ℕ) (items all : List Placed) (total left more c : ℕ) (cs : List ℕ) → left ≤ most → more < left → items ++ tokens_of most total (c ∷ cs) ≡ all → is_white c ≡ true → Upto items total more cs all
white_at zero items all total left more c cs l m e h = absurd (omega arith)
white_at (suc most) items all total left more c cs l m e h = record { most = most; enough = omega arith; cut = ap (λ v. items ++ v) (sym (white_step most total c cs h)) ∙ e }

pub upto_white : {items all : List Placed} {total left more c : ℕ} {xs cs : List ℕ} → Upto items total left xs all → xs ≡ c ∷ cs → is_white c ≡ true → more < left → Upto items total more cs all
upto_white {items = items} {all = all} {total = total} {left = left} {more = more} {c = c} {cs = cs} u e h m = white_at u.most items all total left more c cs u.enough m (rw e at u.cut) h

pub upto_end : {items all : List Placed} {total left : ℕ} {xs : List ℕ} → Upto items total left xs all → xs ≡ [] → items ≡ all
upto_end {items = items} {total = total} u e = sym (append-nil items) ∙ ap (λ v. items ++ v) (sym (end_step u.most total)) ∙ rw e at u.cut

token_at : (most : ℕ) (items all : List Placed) (total left more c : ℕ) (cs : List ℕ) → left ≤ most → more < left → items ++ tokens_of most total (c ∷ cs) ≡ all → is_white c ≡ false → Upto (items ++ record { place = total - size (c ∷ cs); token = (piece_at c cs).0 } ∷ []) total more (rest_of (piece_at c cs)) all
token_at zero items all total left more c cs l m e h = absurd (omega arith)
token_at (suc most) items all total left more c cs l m e h = record {
  most = most;
  enough = omega arith;
  cut = append_assoc items (record { place = total - size (c ∷ cs); token = (piece_at c cs).0 } ∷ []) (tokens_of most total (rest_of (piece_at c cs))) ∙ ap (λ v. items ++ v) (sym (token_step most total c cs h)) ∙ e;
}

pub upto_token : {items done all : List Placed} {total more c : ℕ} {text cs rs bs : List ℕ} {t : Token} → IsUtf8 text → Upto items total (length text) (chars text) all → chars text ≡ c ∷ cs → is_white c ≡ false → (t, rs) ≡ piece_at c cs → bs ≡ rest_of (t, rs) → done ≡ items ++ record { place = total - length text; token = t } ∷ [] → more < length text → Upto done total more bs all
upto_token {items = items} {all = all} {total = total} {more = more} {c = c} {text = text} {cs = cs} u p e h v b d l =
    let k = token_at p.most items all total (length text) more c cs p.enough l (rw e at p.cut) h in
    let n : size (c ∷ cs) ≡ length text = ap size (sym e) ∙ ap length (encodes-chars text u) in
    let k2 = rw n at k in
    let k3 = rw (sym v) at k2 in
    rw (d, b) k3
