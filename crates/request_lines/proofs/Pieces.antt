-- The bytes at hand, and the part of a line that they begin with.
use Rattle.std.proofs.Common.{◌≡◌, ◌≢◌, ℕ, zero, suc, ◌+◌, ◌-◌, ◌<◌, ◌≤◌, ◌==◌, List, [], ◌∷◌, ◌++◌, length, drop, take, Bool, true, false, arith, refl, ap, sym, ◌∙◌, subst, Option, Some, None, eqb-true, length-append, append_assoc}
use Rattle.std.proofs.lemmas.List.{take-append-drop, drop-take, drop-drop}
use Rattle.memchr.specs.Find.{IsFirstByte, is_byte, Passes}
use Rattle.std.specs.Io.KnownBytes.{Consumes, prepend_known}
use Rattle.request_lines.specs.Bytes.{IsLineEnd, TakesPiece}
use Rattle.request_lines.specs.declared.reader.Piece.TheVariants as piece
use Rattle.request_lines.proofs.Known.{Consumes-trans}
use Rattle.request_lines.specs.Lines.{IsOneLine, IsLine}

length-take_at_most : (n : ℕ) (xs : List ℕ) → length (take n xs) ≤ n
length-take_at_most zero [] = omega arith
length-take_at_most zero (x ∷ xs) = omega arith
length-take_at_most (suc n) [] = omega arith
length-take_at_most (suc n) (x ∷ xs) = omega (arith, length-take_at_most n xs)

-- what is left at hand after the first k bytes
pub rest_at_hand : (held room : List ℕ) (from to k : ℕ) → take (to - from) (drop from room) ≡ held → from ≤ to → k ≤ length held
    → take (to - (from + k)) (drop (from + k) room) ≡ drop k held
rest_at_hand held room from to k is order within =
    let m = to - (from + k) in
    let short : length held ≤ to - from = subst (λ l. length l ≤ to - from) is (length-take_at_most (to - from) (drop from room)) in
    let count : to - from ≡ k + m = omega arith in
    let cut : drop k held ≡ drop k (take (k + m) (drop from room)) = ap (drop k) (sym is ∙ ap (λ n. take n (drop from room)) count) in
    sym (cut ∙ drop-take k m (drop from room) ∙ ap (take m) (drop-drop k from room))

-- a byte that no test finds is no line feed
not_feed : (x : ℕ) (b : Bool) → (x == 10) ≡ b → ((x == 10) ≡ true → ⊥) → x ≢ 10
not_feed x true e never = absurd (never e)
not_feed x false e never = λ is. cc (ap (λ y. y == 10) is)

-- no line feed stands among the first n bytes
pub one_line : (h : List ℕ) (n : ℕ) → n ≤ length h → ((k : ℕ) → k < n → Passes (is_byte 10) h k → ⊥) → IsOneLine (take n h)
one_line [] zero within never = tt
one_line [] (suc n) within never = absurd (omega arith)
one_line (x ∷ xs) zero within never = tt
one_line (x ∷ xs) (suc n) within never =
    (not_feed x (x == 10) refl (never 0 (omega arith)), one_line xs n (omega arith) (λ k below. never (suc k) (omega arith)))

-- the line feed and what follows it
feed_here : (h : List ℕ) (k n : ℕ) → n ≡ suc k → k < length h → Passes (is_byte 10) h k → drop k h ≡ 10 ∷ drop n h
feed_here [] k n next below is = absurd (omega arith)
feed_here (x ∷ xs) zero n next below is = ap (λ y. y ∷ xs) (eqb-true x 10 is) ∙ ap (λ m. 10 ∷ drop m (x ∷ xs)) (sym next)
feed_here (x ∷ xs) (suc k) n next below is = feed_here xs k (suc k) refl (omega arith) is ∙ ap (λ m. 10 ∷ drop m (x ∷ xs)) (sym next)

feed_at : (h : List ℕ) (k : ℕ) → k < length h → Passes (is_byte 10) h k → drop k h ≡ 10 ∷ drop (k + 1) h
feed_at h k below is = feed_here h k (k + 1) (omega arith) below is

pub take-all : (h : List ℕ) → take (length h) h ≡ h
take-all [] = refl
take-all (x ∷ xs) = ap (λ l. x ∷ l) (take-all xs)

pub IsOneLine-append : (xs ys : List ℕ) → IsOneLine xs → IsOneLine ys → IsOneLine (xs ++ ys)
IsOneLine-append [] ys one two = two
IsOneLine-append (x ∷ xs) ys one two = (one.0, IsOneLine-append xs ys one.1 two)

-- what a search for a line feed tells
pub IsLineEnd-found : (h : List ℕ) (r : Option ℕ) → IsFirstByte (is_byte 10) h r → IsLineEnd h r
IsLineEnd-found h None never = subst IsOneLine (take-all h) (one_line h (length h) (omega arith) (λ k below. never k (omega arith) below))
IsLineEnd-found h (Some k) (first, is) = ((first.high), one_line h k (omega (arith, first.high)) (λ j below. first.before j (omega arith) below), feed_at h k first.high is)

pub taken_to_end : (h : List ℕ) (k : ℕ) → drop k h ≡ 10 ∷ drop (k + 1) h → h ≡ take k h ++ 10 ∷ drop (k + 1) h
taken_to_end h k is = sym (take-append-drop k h) ∙ ap (λ l. take k h ++ l) is

pub taken_whole : (h : List ℕ) → h ≡ h ++ drop (length h) h
taken_whole [] = refl
taken_whole (x ∷ xs) = ap (λ l. x ∷ l) (taken_whole xs)

-- ---- a line grows by the bytes at hand

Consumes-held : (held held' taken : List ℕ) (known : Option (List ℕ)) → held ≡ taken ++ held' → Consumes (prepend_known held known) (prepend_known held' known) taken
Consumes-held held held' taken None is = tt
Consumes-held held held' taken (Some rest) is = ap (λ l. l ++ rest) is ∙ append_assoc taken held' rest

-- what the line has is taken, then nothing, then some more
grown : (a b c : Option (List ℕ)) (held held' line taken : List ℕ) → Consumes a b line → Consumes b (prepend_known held c) [] → held ≡ taken ++ held'
    → Consumes a (prepend_known held' c) (line ++ taken)
grown a b c held held' line taken so_far same is =
    Consumes-trans a b (prepend_known held' c) line taken so_far (Consumes-trans b (prepend_known held c) (prepend_known held' c) [] taken same (Consumes-held held held' taken c is))

pub ends_line : (a b c : Option (List ℕ)) (held held' line line' : List ℕ) → IsLine line → Consumes a b line → Consumes b (prepend_known held c) []
    → TakesPiece held held' line line' piece.Ended → IsLine line' × Consumes a (prepend_known held' c) (line' ++ 10 ∷ [])
ends_line a b c held held' line line' is_line so_far same (taken, is, line_is, one, short) = (
  record { one = subst IsOneLine (sym line_is) (IsOneLine-append line taken is_line.one one); short = short },
  subst (λ l. Consumes a (prepend_known held' c) l) (sym (append_assoc line taken (10 ∷ [])) ∙ ap (λ l. l ++ 10 ∷ []) (sym line_is))
      (grown a b c held held' line (taken ++ 10 ∷ []) so_far same (is ∙ sym (append_assoc taken (10 ∷ []) held'))),
)

pub goes_on_line : (a b c : Option (List ℕ)) (held held' line line' : List ℕ) → IsLine line → Consumes a b line → Consumes b (prepend_known held c) []
    → TakesPiece held held' line line' piece.Open → IsLine line' × Consumes a (prepend_known held' c) line' × (length line + 1 ≤ length line')
goes_on_line a b c held held' line line' is_line so_far same (taken, is, line_is, one, short, some) = (
  record { one = subst IsOneLine (sym line_is) (IsOneLine-append line taken is_line.one one); short = short },
  subst (λ l. Consumes a (prepend_known held' c) l) (sym line_is) (grown a b c held held' line taken so_far same is),
  omega (arith, ap length line_is, length-append line taken),
)

pub too_long_line : (a b c : Option (List ℕ)) (held held' line line' : List ℕ) → IsLine line → Consumes a b line → Consumes b (prepend_known held c) []
    → TakesPiece held held' line line' piece.TooLong → (front : List ℕ) × IsOneLine front × (65536 < length front) × Consumes a (prepend_known held' c) front
too_long_line a b c held held' line line' is_line so_far same (taken, is, line_is, one, long) = (
  line ++ taken,
  IsOneLine-append line taken is_line.one one,
  omega (arith, length-append line taken),
  grown a b c held held' line taken so_far same is,
)
