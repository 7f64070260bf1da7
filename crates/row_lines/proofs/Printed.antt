-- The text of a row's line: UTF-8 without a line feed, which is read as its JSON.
use Rattle.std.proofs.Common.{◌≡◌, ◌≢◌, ℕ, zero, suc, ◌<◌, ◌≤◌, ◌^◌, ◌==◌, ◌&&◌, nat_lt, Bool, true, false, not, cond, List, [], ◌∷◌, ◌++◌, IsUtf8, inl, inr, refl, sym, ap, ◌∙◌, subst, arith, ltb-true, codes, decimal}
use Rattle.std.proofs.lemmas.Bool.{and_parts, cases_lt, cases_eq}
use Rattle.std.proofs.lemmas.Str.{IsUtf8-append, IsUtf8-nil, IsUtf8-from_ascii}
use Rattle.std.proofs.lemmas.Str.Parse.{digit_from_value}
use Rattle.std.proofs.lemmas.Fmt.{decimal_is_IsNumeral, IsAscii-decimal}
use Rattle.std.specs.Str.Parse.{AllDigits}
use Rattle.json.specs.Token.{Token}
use Rattle.json.specs.Tree.{json_tokens}
use Rattle.json.specs.Print.{escape_byte, escape, quoted, token_text, begins, ends, print, print_from}
use Rattle.json.proofs.Printed.Strings.{escape_byte_plain}
use Rattle.json.proofs.Printed.Utf8.{IsUtf8-are_ascii, IsUtf8-quoted, IsUtf8-key}
use Rattle.json.proofs.Printed.Decimals.{IsNumber-decimal}
use Rattle.json.proofs.Printed.Trees.{document-print}
use Rattle.request_lines.specs.Lines.{IsOneLine}
use Rattle.tracker_keeper.specs.declared.row.Row.{Row}
use Rattle.row_lines.specs.RowText.{IsLineOf, SaysRow, row_json, row_line}
use Rattle.row_lines.specs.Telling.{CanTell}

-- ---- what holds of each part of a text

module _ (P : List ℕ → Type 0) (nil : P []) (join : (xs ys : List ℕ) → P xs → P ys → P (xs ++ ys)) (comma : P (44 ∷ [])) where
  abbrev AreSo : List Token → Type 0
  AreSo [] = Unit {0}
  AreSo (t ∷ ts) = P (token_text t) × AreSo ts

  separated : (b : Bool) → P (cond b (44 ∷ []) [])
  separated true = comma
  separated false = nil

  printed : (b : Bool) (ts : List Token) → AreSo ts → P (print_from b ts)
  unfolding print_from
  printed b [] h = nil
  printed b (t ∷ ts) h = join _ _ (separated (b && begins t)) (join _ _ h.0 (printed (ends t) ts h.1))

-- ---- no line feed

pub one_append : (xs ys : List ℕ) → IsOneLine xs → IsOneLine ys → IsOneLine (xs ++ ys)
one_append [] ys one two = two
one_append (x ∷ xs) ys one two = (one.0, one_append xs ys one.1 two)

abbrev is_one : List ℕ → Bool
is_one [] = true
is_one (x ∷ xs) = not (x == 10) && is_one xs

other : (x : ℕ) (b : Bool) → (x == 10) ≡ b → not b ≡ true → x ≢ 10
other x true is h e = absurd (cc h)
other x false is h e = let same : (x == 10) ≡ true = rw e refl in absurd (cc (is, same))

one_by : (xs : List ℕ) → is_one xs ≡ true → IsOneLine xs
one_by [] h = tt
one_by (x ∷ xs) h = let parts = and_parts (not (x == 10)) (is_one xs) h in (other x (x == 10) refl parts.0, one_by xs parts.1)

-- the escapes of the bytes below n have none
abbrev escapes_below : ℕ → Bool
escapes_below zero = true
escapes_below (suc n) = is_one (escape_byte n) && escapes_below n

escape_below : (n : ℕ) → escapes_below n ≡ true → (x : ℕ) → x < n → is_one (escape_byte x) ≡ true
escape_below zero e x h = absurd (omega arith)
escape_below (suc n) e x h =
    let p = and_parts _ _ e in
    elim (cases_eq x n) [ inl same ↦ rw same p.0 | inr apart ↦ escape_below n p.1 x (omega arith) ]

all_escapes : escapes_below 128 ≡ true
unfolding escape_byte
all_escapes = refl

one_byte : (x : ℕ) → IsOneLine (escape_byte x)
one_byte x = elim (cases_lt x 128) [
  | inl small ↦ one_by (escape_byte x) (escape_below 128 all_escapes x small)
  | inr big ↦
      subst IsOneLine (sym (escape_byte_plain x (λ e. omega (arith, big, e)) (λ e. omega (arith, big, e)) (omega (arith, big))))
      ((λ e. omega (arith, big, e)), tt)
]

one_escape : (s : List ℕ) → IsOneLine (escape s)
one_escape [] = tt
one_escape (x ∷ s) = one_append (escape_byte x) (escape s) (one_byte x) (one_escape s)

one_quoted : (s : List ℕ) → IsOneLine (quoted s)
one_quoted s = ((λ e. omega (arith, e)), one_append (escape s) (34 ∷ []) (one_escape s) (one_by (34 ∷ []) refl))

one_key : (s : List ℕ) → IsOneLine (quoted s ++ 58 ∷ [])
one_key s = one_append (quoted s) (58 ∷ []) (one_quoted s) (one_by (58 ∷ []) refl)

one_digits : (ds : List ℕ) → AllDigits 10 ds → IsOneLine ds
one_digits [] h = tt
one_digits (d ∷ ds) h = ((λ e. omega (arith, e, digit_from_value d h.0)), one_digits ds h.1)

one_decimal : (n : ℕ) → n < 2 ^ 64 → IsOneLine (decimal n)
one_decimal n h = one_digits (decimal n) (decimal_is_IsNumeral n h).0.1

-- ---- the line of a row

kind_wide : (row : Row) → CanTell row → row.kind < 2 ^ 64
kind_wide row can = omega (arith, can.kind_small)

number_wide : (row : Row) → CanTell row → row.no < 2 ^ 64
number_wide row can = omega (arith, can.number_small)

pub one_line : (row : Row) → CanTell row → IsOneLine (row_line row)
unfolding row_json
one_line row can =
    printed IsOneLine tt one_append (one_by (44 ∷ []) refl) false (json_tokens (row_json row)) (
      one_by (123 ∷ []) refl,
      (
        one_key (codes "body"),
        (
          one_quoted row.body,
          (
            one_key (codes "kind"),
            (
              one_decimal row.kind (kind_wide row can),
              (
                one_key (codes "no"),
                (
                  one_decimal row.no (number_wide row can),
                  (one_by (125 ∷ []) refl, tt),
                ),
              ),
            ),
          ),
        ),
      ),
    )

utf8_decimal : (n : ℕ) → n < 2 ^ 64 → IsUtf8 (decimal n)
utf8_decimal n h = IsUtf8-from_ascii (decimal n) (IsAscii-decimal n h)

utf8_line : (row : Row) → CanTell row → IsUtf8 (row_line row)
unfolding row_json
utf8_line row can =
    printed IsUtf8 IsUtf8-nil IsUtf8-append (IsUtf8-are_ascii (44 ∷ []) refl) false (json_tokens (row_json row)) (
      IsUtf8-are_ascii (123 ∷ []) refl,
      (
        IsUtf8-key (codes "body") (IsUtf8-are_ascii (codes "body") refl),
        (
          IsUtf8-quoted row.body can.utf8,
          (
            IsUtf8-key (codes "kind") (IsUtf8-are_ascii (codes "kind") refl),
            (
              utf8_decimal row.kind (kind_wide row can),
              (
                IsUtf8-key (codes "no") (IsUtf8-are_ascii (codes "no") refl),
                (
                  utf8_decimal row.no (number_wide row can),
                  (IsUtf8-are_ascii (125 ∷ []) refl, tt),
                ),
              ),
            ),
          ),
        ),
      ),
    )

says : (row : Row) → CanTell row → SaysRow row (row_json row)
unfolding row_json
says row can = record {
  three = refl;
  body_is = refl;
  kind_is = refl;
  number_is = refl;
  kind_small = can.kind_small;
  number_small = can.number_small;
}

-- the line of a row is that row's
pub is_line : (row : Row) → CanTell row → IsLineOf row (row_line row)
unfolding row_json
is_line row can = record {
  utf8 = utf8_line row can;
  json = row_json row;
  document_is = document-print (row_json row)
      (tt, (IsNumber-decimal row.kind (kind_wide row can), (IsNumber-decimal row.no (number_wide row can), tt))) (omega arith);
  says = says row can;
}
