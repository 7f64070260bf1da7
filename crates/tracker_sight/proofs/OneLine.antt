-- The text of a reply has no line feed, so that the lines of an output are its replies.
use Rattle.std.proofs.Common.{◌≡◌, ◌≢◌, ℕ, zero, suc, ◌+◌, ◌/◌, ◌%◌, ◌==◌, Bool, true, false, cond, List, [], ◌∷◌, ◌++◌, inl, inr, refl, sym, ◌∙◌, ap, subst, arith, eqb-true}
use Rattle.std.specs.Prelude.{nat_lt, decimal, pos, negsuc, if◌then◌else◌}
use Rattle.std.specs.Fmt.{digits, digits_onto, digit_glyph}
use Rattle.std.specs.Char.{digit_char}
use Rattle.std.proofs.lemmas.Bool.{cases_Bool}
use Rattle.json.specs.Token.{Token}
use Rattle.json.specs.Print.{escape_letter, escape_byte, escape, quoted, token_text}
use Rattle.serde_json.specs.Data.{Num, unsigned, negative, float, Data, null, boolean, number, string, array, object, Items, no_items, item, Members, no_members, member}
use Rattle.serde_json.specs.Written.{number_text, comma_if, compact_text, items_text, members_text}
use Rattle.request_lines.specs.Lines.{IsOneLine}
use Rattle.request_lines.proofs.Pieces.{IsOneLine-append}
use Rattle.tracker_calls.specs.declared.reply.Reply.{Reply}
use Rattle.reply_texts.specs.Reply.{reply_data, reply_text}

-- ---- bytes

either_not : (b : Bool) (p q : ℕ) → p ≢ 10 → q ≢ 10 → cond b p q ≢ 10
either_not true p q one other = one
either_not false p q one other = other

either_line : (b : Bool) (p q : List ℕ) → IsOneLine p → IsOneLine q → IsOneLine (cond b p q)
either_line true p q one other = one
either_line false p q one other = other

other_than : (k : ℕ) → (k == 10) ≡ false → k ≢ 10
other_than k is = λ same. cc (sym is ∙ ap (λ n. n == 10) same)

letter_not : (x : ℕ) → x ≢ 10 → escape_letter x ≢ 10
letter_not x other =
    either_not _ x _ other (either_not _ 98 _ (other_than 98 refl) (either_not _ 102 _ (other_than 102 refl) (either_not _ 110 _ (other_than 110 refl)
    (either_not _ 114 _ (other_than 114 refl) (either_not _ 116 0 (other_than 116 refl) (other_than 0 refl))))))

digit_not : (d : ℕ) → digit_char d ≢ 10
digit_not d = either_not (nat_lt d 10) (48 + d) (87 + d) (λ same. omega (arith, same)) (λ same. omega (arith, same))

feed_line : (x : ℕ) → x ≡ 10 → IsOneLine (escape_byte x)
unfolding escape_byte
feed_line x same = subst (λ n. IsOneLine (escape_byte n)) (sym same) (other_than 92 refl, (other_than 110 refl, tt))

other_line : (x : ℕ) → x ≢ 10 → IsOneLine (escape_byte x)
unfolding escape_byte
other_line x not =
    either_line (nat_lt 0 (escape_letter x)) (92 ∷ escape_letter x ∷ [])
    (cond (nat_lt x 32) (92 ∷ 117 ∷ 48 ∷ 48 ∷ digit_char (x / 16) ∷ digit_char (x % 16) ∷ []) (x ∷ []))
    (other_than 92 refl, (letter_not x not, tt))
    (either_line (nat_lt x 32) (92 ∷ 117 ∷ 48 ∷ 48 ∷ digit_char (x / 16) ∷ digit_char (x % 16) ∷ []) (x ∷ [])
    (other_than 92 refl, (other_than 117 refl, (other_than 48 refl, (other_than 48 refl, (digit_not (x / 16), (digit_not (x % 16), tt))))))
    (not, tt))

escaped_line : (x : ℕ) → IsOneLine (escape_byte x)
escaped_line x = elim (cases_Bool (x == 10)) [
  | inl same ↦ feed_line x (eqb-true x 10 same)
  | inr other ↦ other_line x (other_than x other)
]

escape_line : (s : List ℕ) → IsOneLine (escape s)
escape_line [] = tt
escape_line (x ∷ xs) = IsOneLine-append (escape_byte x) (escape xs) (escaped_line x) (escape_line xs)

quoted_line : (s : List ℕ) → IsOneLine (quoted s)
quoted_line s = (other_than 34 refl, IsOneLine-append (escape s) (34 ∷ []) (escape_line s) (other_than 34 refl, tt))

-- ---- numbers

glyph_not : (d : ℕ) → digit_glyph false d ≢ 10
glyph_not d = by (nat_lt d 10)
  where
    by : (b : Bool) → (if b then 48 + d else 87 + d) ≢ 10
    by true = λ same. omega (arith, same)
    by false = λ same. omega (arith, same)

digits_line : (k n : ℕ) (rest : List ℕ) → IsOneLine rest → IsOneLine (digits_onto k 10 false n rest)
digits_line zero n rest one = one
digits_line (suc k) n rest one = by (n / 10 == 0) (digits_line k (n / 10) next (glyph_not (n % 10), one))
  where
    next : List ℕ
    next = digit_glyph false (n % 10) ∷ rest

    by : (b : Bool) → IsOneLine (digits_onto k 10 false (n / 10) next) → IsOneLine (if b then next else digits_onto k 10 false (n / 10) next)
    by true more = (glyph_not (n % 10), one)
    by false more = more

decimal_line : (n : ℕ) → IsOneLine (decimal n)
unfolding digits
decimal_line n = digits_line 64 n [] tt

number_line : (n : Num) → IsOneLine (number_text n)
number_line (unsigned n) = decimal_line n
number_line (negative (pos n)) = decimal_line n
number_line (negative (negsuc n)) = (other_than 45 refl, decimal_line (suc n))
number_line (float x) = tt

-- ---- a value

boolean_line : (b : Bool) → IsOneLine (token_text (Token.boolean b))
boolean_line true = (other_than 116 refl, (other_than 114 refl, (other_than 117 refl, (other_than 101 refl, tt))))
boolean_line false = (other_than 102 refl, (other_than 97 refl, (other_than 108 refl, (other_than 115 refl, (other_than 101 refl, tt)))))

comma_line : (later : Bool) → IsOneLine (comma_if later)
comma_line true = (other_than 44 refl, tt)
comma_line false = tt

mutual
  value_line : (d : Data) → IsOneLine (compact_text d)
  value_line null = (other_than 110 refl, (other_than 117 refl, (other_than 108 refl, (other_than 108 refl, tt))))
  value_line (boolean b) = boolean_line b
  value_line (number n) = number_line n
  value_line (string s) = quoted_line s
  value_line (array ds) = (other_than 91 refl, items_line false ds)
  value_line (object ms) = (other_than 123 refl, members_line false ms)

  items_line : (later : Bool) (ds : Items) → IsOneLine (items_text later ds)
  items_line later no_items = (other_than 93 refl, tt)
  items_line later (item d ds) =
      IsOneLine-append (comma_if later) (compact_text d ++ items_text true ds) (comma_line later)
      (IsOneLine-append (compact_text d) (items_text true ds) (value_line d) (items_line true ds))

  members_line : (later : Bool) (ms : Members) → IsOneLine (members_text later ms)
  members_line later no_members = (other_than 125 refl, tt)
  members_line later (member k d ms) =
      IsOneLine-append (comma_if later) (quoted k ++ 58 ∷ (compact_text d ++ members_text true ms)) (comma_line later)
      (IsOneLine-append (quoted k) (58 ∷ (compact_text d ++ members_text true ms)) (quoted_line k)
      (other_than 58 refl, IsOneLine-append (compact_text d) (members_text true ms) (value_line d) (members_line true ms)))

pub reply_line_is_one : (r : Reply) → IsOneLine (reply_text r)
unfolding reply_text
reply_line_is_one r = value_line (reply_data r)
