-- The lines of an input that comes line by line.
use Rattle.std.proofs.Common.{◌≡◌, ◌≢◌, ◌==◌, ℕ, ◌<◌, ◌≤◌, List, [], ◌∷◌, ◌++◌, length, zero, suc, drop, refl, sym, ap, ◌∙◌, append_assoc, append-nil, arith, Bool, true, false, eqb-true}
use Rattle.request_lines.specs.Lines.{IsOneLine, IsLine}
use Rattle.request_lines.specs.Lines.{lines, onto, whole_lines, AreShort}

-- lines with their line feeds
abbrev pub joined : List (List ℕ) → List ℕ
joined [] = []
joined (line ∷ more) = (line ++ 10 ∷ []) ++ joined more

abbrev pub AreLines : List (List ℕ) → Type 0
AreLines [] = Unit {0}
AreLines (line ∷ more) = IsLine line × AreLines more

other_test : (x : ℕ) (b : Bool) → (x == 10) ≡ b → x ≢ 10 → b ≡ false
other_test x true e other = absurd (other (eqb-true x 10 e))
other_test x false e other = refl

pub is_other : (x : ℕ) → x ≢ 10 → (x == 10) ≡ false
is_other x other = other_test x (x == 10) refl other

pub lines-cut : (line rest : List ℕ) → IsOneLine line → lines (line ++ 10 ∷ rest) ≡ line ∷ lines rest
lines-cut [] rest one = refl
lines-cut (x ∷ xs) rest one = rw (is_other x one.0, lines-cut xs rest one.1)

pub lines-last : (line : List ℕ) → IsOneLine line → 0 < length line → lines line ≡ line ∷ []
lines-last [] one some = absurd (omega arith)
lines-last (x ∷ []) one some = rw (is_other x one.0)
lines-last (x ∷ y ∷ ys) one some = rw (is_other x one.0, lines-last (y ∷ ys) one.1 (omega arith))

pub whole_lines-cut : (line rest : List ℕ) → IsOneLine line → whole_lines (line ++ 10 ∷ rest) ≡ line ∷ whole_lines rest
whole_lines-cut [] rest one = refl
whole_lines-cut (x ∷ xs) rest one = rw (is_other x one.0, whole_lines-cut xs rest one.1)

pub whole_lines-part : (line : List ℕ) → IsOneLine line → whole_lines line ≡ []
whole_lines-part [] one = refl
whole_lines-part (x ∷ xs) one = rw (is_other x one.0, whole_lines-part xs one.1)

again : (line more rest : List ℕ) → ((line ++ 10 ∷ []) ++ more) ++ rest ≡ line ++ 10 ∷ (more ++ rest)
again line more rest = ap (λ l. l ++ rest) (append_assoc line (10 ∷ []) more) ∙ append_assoc line (10 ∷ more) rest

pub lines-joined : (done : List (List ℕ)) (rest : List ℕ) → AreLines done → lines (joined done ++ rest) ≡ done ++ lines rest
lines-joined [] rest are = refl
lines-joined (line ∷ more) rest are = ap lines (again line (joined more) rest) ∙ lines-cut line (joined more ++ rest) (are.0).one ∙ ap (λ l. line ∷ l) (lines-joined more rest are.1)

pub whole_lines-joined : (done : List (List ℕ)) (part : List ℕ) → AreLines done → IsOneLine part → whole_lines (joined done ++ part) ≡ done
whole_lines-joined [] part are one = whole_lines-part part one
whole_lines-joined (line ∷ more) part are one = ap whole_lines (again line (joined more) part) ∙ whole_lines-cut line (joined more ++ part) (are.0).one ∙ ap (λ l. line ∷ l) (whole_lines-joined more part are.1 one)

pub record BeginsLong (all : List (List ℕ)) (n : ℕ) : Type 0 where
  pub first : List ℕ
  pub rest : List (List ℕ)
  pub is : all ≡ first ∷ rest
  pub long : n ≤ length first

onto_begins : (x : ℕ) (all : List (List ℕ)) → BeginsLong (onto x all) 1
onto_begins x [] = record { first = x ∷ []; rest = []; is = refl; long = omega arith }
onto_begins x (line ∷ more) = record { first = x ∷ line; rest = more; is = refl; long = omega arith }

-- the line of a front is at least as long
pub lines-long : (front rest : List ℕ) → IsOneLine front → 0 < length front → BeginsLong (lines (front ++ rest)) (length front)
lines-long [] rest one some = absurd (omega arith)
lines-long (x ∷ []) rest one some = rw (is_other x one.0) (onto_begins x (lines rest))
lines-long (x ∷ y ∷ ys) rest one some =
    let later = lines-long (y ∷ ys) rest one.1 (omega arith) in
    record { first = x ∷ later.first; rest = later.rest; is = rw (is_other x one.0, later.is); long = omega (arith, later.long) }

pub AreShort-lines : (done : List (List ℕ)) → AreLines done → AreShort done
AreShort-lines [] are = tt
AreShort-lines (line ∷ more) are = ((are.0).short, AreShort-lines more are.1)

pub joined-push : (done : List (List ℕ)) (line : List ℕ) → joined (done ++ line ∷ []) ≡ joined done ++ (line ++ 10 ∷ [])
joined-push [] line = append-nil (line ++ 10 ∷ [])
joined-push (first ∷ more) line = ap (λ l. (first ++ 10 ∷ []) ++ l) (joined-push more line) ∙ sym (append_assoc (first ++ 10 ∷ []) (joined more) (line ++ 10 ∷ []))

pub AreLines-push : (done : List (List ℕ)) (line : List ℕ) → AreLines done → IsLine line → AreLines (done ++ line ∷ [])
AreLines-push [] line are now = (now, tt)
AreLines-push (first ∷ more) line are now = (are.0, AreLines-push more line are.1 now)

-- where a line feed stands, there is more than a line
pub not_one_line : (held rest : List ℕ) (count : ℕ) → drop count held ≡ 10 ∷ rest → IsOneLine held → ⊥
not_one_line [] rest zero e one = absurd (cc e)
not_one_line [] rest (suc n) e one = absurd (cc e)
not_one_line (x ∷ xs) rest zero e one = one.0 (cc e)
not_one_line (x ∷ xs) rest (suc n) e one = not_one_line xs rest n e one.1
