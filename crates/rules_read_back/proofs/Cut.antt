-- A text that is put together at a byte is cut there again.
use Rattle.std.proofs.Common.{◌≡◌, ℕ, zero, suc, ◌+◌, ◌<◌, ◌==◌, List, [], ◌∷◌, ◌++◌, length, Bool, true, false, Option, Some, None, option_and_then, refl, ap, sym, ◌∙◌, arith, subst, inl, inr, take, drop, nat_lt, lt-ltb, ap₂, if◌then◌else◌}
use Rattle.std.specs.Prelude.{IfSome}
use Rattle.std.specs.List.{list_any, position_or_len, before_first, after_first}
use Rattle.std.specs.Str.{str_eq_ignore_ascii_case, str_to_ascii_lowercase}
use Rattle.std.specs.Char.{to_ascii_lowercase}
use Rattle.std.proofs.lemmas.Bool.{cases_Bool}
use Rattle.std.proofs.lemmas.Grind.{common_steps}
use Rattle.std.proofs.lemmas.Slice.Eq.{bytes_eq-Decides}
use Rattle.field_forms.specs.Cuts.{cut_at}
use Rattle.field_forms.specs.Rules.{after_colon}

-- the byte stands in the text
abbrev pub has_byte : ℕ → List ℕ → Bool
has_byte mark text = list_any (λ b. b == mark) text

position_behind : (mark : ℕ) (word rest : List ℕ) → has_byte mark word ≡ false → position_or_len (λ b. b == mark) (word ++ mark ∷ rest) ≡ length word
position_behind mark [] rest none = grind (arith, common_steps)
position_behind mark (b ∷ word) rest none = elim (cases_Bool (b == mark)) [
  | inl here ↦ absurd (grind (arith, here, none))
  | inr other ↦
      let more : has_byte mark word ≡ false = grind (arith, other, none) in
      let later : position_or_len (λ c. c == mark) (word ++ mark ∷ rest) ≡ length word = position_behind mark word rest more in
      grind (arith, common_steps, other, later)
]

front_taken : (word rest : List ℕ) → take (length word) (word ++ rest) ≡ word
front_taken [] rest = refl
front_taken (b ∷ word) rest = ap (λ (bs : List ℕ). b ∷ bs) (front_taken word rest)

front_dropped : (word rest : List ℕ) (mark : ℕ) → drop (suc (length word)) (word ++ mark ∷ rest) ≡ rest
front_dropped [] rest mark = refl
front_dropped (b ∷ word) rest mark = front_dropped word rest mark

front_inside : (word rest : List ℕ) (mark : ℕ) → length word < length (word ++ mark ∷ rest)
front_inside [] rest mark = omega arith
front_inside (b ∷ word) rest mark = let inside = front_inside word rest mark in omega (arith, inside)

-- the parts of a text at a place
abbrev cut_from : List ℕ → ℕ → Option (List ℕ × List ℕ)
cut_from text n = if nat_lt n (length text) then Some (take n text, drop (n + 1) text) else None

-- where the byte isn't in the front it is cut behind it
pub cut_behind : (mark : ℕ) (word rest : List ℕ) → has_byte mark word ≡ false → cut_at mark (word ++ mark ∷ rest) ≡ Some (word, rest)
cut_behind mark word rest none =
    let at : position_or_len (λ b. b == mark) (word ++ mark ∷ rest) ≡ length word = position_behind mark word rest none in
    let inside : nat_lt (length word) (length (word ++ mark ∷ rest)) ≡ true = lt-ltb (length word) (length (word ++ mark ∷ rest)) (front_inside word rest mark) in
    let one_more : length word + 1 ≡ suc (length word) = omega arith in
    let front : take (length word) (word ++ mark ∷ rest) ≡ word = front_taken word (mark ∷ rest) in
    let behind : drop (length word + 1) (word ++ mark ∷ rest) ≡ rest = ap (λ (n : ℕ). drop n (word ++ mark ∷ rest)) one_more ∙ front_dropped word rest mark in
    ap (cut_from (word ++ mark ∷ rest)) at
    ∙ ap (λ (test : Bool). if test then Some (take (length word) (word ++ mark ∷ rest), drop (length word + 1) (word ++ mark ∷ rest)) else None) inside
    ∙ ap₂ (λ (one other : List ℕ). Some (one, other)) front behind

-- ---- bytes that are no letters

-- small and capital letters are told apart from it
abbrev pub IsNoLetter : ℕ → Type 0
IsNoLetter mark = (b : ℕ) → (to_ascii_lowercase b == mark) ≡ (b == mark)

pub bar_is_no_letter : IsNoLetter 124
bar_is_no_letter b = elim (cases_Bool (nat_lt b 65)) [
  | inl low ↦ rw low refl
  | inr high ↦ elim (cases_Bool (nat_lt b 91)) [
    | inl letter ↦
        let one : (b + 32 == 124) ≡ false = grind (arith, letter) in
        let other : (b == 124) ≡ false = grind (arith, letter) in
        rw (high, letter, one, other) refl
    | inr more ↦ rw (high, more) refl
  ]
]

pub equals_is_no_letter : IsNoLetter 61
equals_is_no_letter b = elim (cases_Bool (nat_lt b 65)) [
  | inl low ↦ rw low refl
  | inr high ↦ elim (cases_Bool (nat_lt b 91)) [
    | inl letter ↦
        let one : (b + 32 == 61) ≡ false = grind (arith, high) in
        let other : (b == 61) ≡ false = grind (arith, high) in
        rw (high, letter, one, other) refl
    | inr more ↦ rw (high, more) refl
  ]
]

lowered : (mark : ℕ) → IsNoLetter mark → (text : List ℕ) → has_byte mark (str_to_ascii_lowercase text) ≡ has_byte mark text
lowered mark apart [] = refl
lowered mark apart (b ∷ text) = rw (apart b, lowered mark apart text) refl

-- where two texts are the same but for letters, one has it where the other has
pub same_bytes : (mark : ℕ) → IsNoLetter mark → (one other : List ℕ) → str_eq_ignore_ascii_case one other ≡ true → has_byte mark other ≡ false → has_byte mark one ≡ false
same_bytes mark apart one other same none =
    let is : str_to_ascii_lowercase one ≡ str_to_ascii_lowercase other = (bytes_eq-Decides (str_to_ascii_lowercase one) (str_to_ascii_lowercase other)).0 same in
    sym (lowered mark apart one) ∙ ap (has_byte mark) is ∙ lowered mark apart other ∙ none

-- ---- the parts of a cut

-- there is none before the first
pub none_before : (mark : ℕ) (text : List ℕ) → has_byte mark (before_first (λ b. b == mark) text) ≡ false
none_before mark [] = refl
none_before mark (b ∷ text) = elim (cases_Bool (b == mark)) [
  | inl here ↦ rw here refl
  | inr other ↦
      let one : 1 + position_or_len (λ c. c == mark) text ≡ suc (position_or_len (λ c. c == mark) text) = omega arith in
      let later : has_byte mark (take (suc (position_or_len (λ c. c == mark) text)) (b ∷ text)) ≡ false = rw other (none_before mark text) in
      rw other (ap (λ (k : ℕ). has_byte mark (take k (b ∷ text))) one ∙ later)
]

none_dropped : (mark n : ℕ) (text : List ℕ) → has_byte mark text ≡ false → has_byte mark (drop n text) ≡ false
none_dropped mark zero text none = none
none_dropped mark (suc n) [] none = refl
none_dropped mark (suc n) (b ∷ text) none = elim (cases_Bool (b == mark)) [
  | inl here ↦ absurd (grind (arith, here, none))
  | inr other ↦ none_dropped mark n text (grind (arith, other, none))
]

-- the parts of a text before and behind the first such byte, where there is one
pub parts_are : (mark : ℕ) (text : List ℕ) (parts : List ℕ × List ℕ) → cut_at mark text ≡ Some parts
    → (before_first (λ b. b == mark) text ≡ parts.0) × (after_first (λ b. b == mark) text ≡ parts.1)
parts_are mark text parts is = by (nat_lt (position_or_len (λ b. b == mark) text) (length text)) is where
  by : (test : Bool) → (if test then Some (before_first (λ b. b == mark) text, after_first (λ b. b == mark) text) else None) ≡ Some parts
      → (before_first (λ b. b == mark) text ≡ parts.0) × (after_first (λ b. b == mark) text ≡ parts.1)
  by true e = (cc, cc)
  by false e = absurd (cc)

-- a byte that isn't in the text isn't in what is behind the cut
pub none_behind : (other mark : ℕ) (text : List ℕ) (parts : List ℕ × List ℕ) → has_byte other text ≡ false → cut_at mark text ≡ Some parts → has_byte other parts.1 ≡ false
none_behind other mark text parts none is =
    ap (has_byte other) (sym (parts_are mark text parts is).1) ∙ none_dropped other (position_or_len (λ b. b == mark) text + 1) text none

-- the byte of the cut isn't before it
pub none_in_front : (mark : ℕ) (text : List ℕ) (parts : List ℕ × List ℕ) → cut_at mark text ≡ Some parts → has_byte mark parts.0 ≡ false
none_in_front mark text parts is = ap (has_byte mark) (sym (parts_are mark text parts is).0) ∙ none_before mark text

-- ---- what is made of a word and of what is behind the colon

pub after_holds : {Y : Type 0} (meaning : List ℕ → List ℕ → Option Y) (P : Y → Type 0) (text : List ℕ)
    → ((parts : List ℕ × List ℕ) → cut_at 58 text ≡ Some parts → IfSome (meaning parts.0 parts.1) P) → IfSome (after_colon meaning text) P
after_holds meaning P text holds = by (cut_at 58 text) refl where
  by : (parts : Option (List ℕ × List ℕ)) → cut_at 58 text ≡ parts → IfSome (option_and_then (λ p. meaning p.0 p.1) parts) P
  by None is = tt
  by (Some parts) is = holds parts is

-- what holds of the thing that is there
pub holds_of : {Y : Type 0} (P : Y → Type 0) (found : Option Y) (y : Y) → IfSome found P → found ≡ Some y → P y
holds_of P None y h is = absurd (cc)
holds_of P (Some x) y h is = let same : x ≡ y = cc in subst P same h

-- a word, a colon and what is behind it
pub word_means : {Y : Type 0} (meaning : List ℕ → List ℕ → Option Y) (word rest : List ℕ) → has_byte 58 word ≡ false → after_colon meaning (word ++ 58 ∷ rest) ≡ meaning word rest
word_means meaning word rest none = ap (option_and_then (λ p. meaning p.0 p.1)) (cut_behind 58 word rest none)
