-- Numbers that are read no further than they matter.
use Rattle.std.proofs.Common.{◌≡◌, ℕ, ◌+◌, ◌-◌, ◌*◌, ◌<◌, List, length, get_or, drop, min, ap, sym, ◌∙◌, arith, inl, inr}
use Rattle.std.proofs.lemmas.Bool.{cases_lt}
use Rattle.field_values.specs.Digits.{read_on}
use Rattle.field_values.proofs.Numerals.{read_next, read_grows}
use Rattle.tracker_http.specs.Numbers.{within}

-- what is past the bound before a digit is past it after it
cut_early : (bound n : ℕ) (ds : List ℕ) → min (read_on (min n bound) ds) bound ≡ min (read_on n ds) bound
cut_early bound n ds = elim (cases_lt n bound) [
  | inl below ↦ let same : min n bound ≡ n = omega arith in ap (λ m. min (read_on m ds) bound) same
  | inr above ↦ omega (arith, read_grows n ds, read_grows (min n bound) ds)
]

-- one digit more
pub written_next : (bound value : ℕ) (ds : List ℕ) (i : ℕ) → i < length ds
    → min (read_on value (drop i ds)) bound ≡ min (read_on (min (10 * value + (get_or ds i 0 - 48)) bound) (drop (i + 1) ds)) bound
written_next bound value ds i inside =
    ap (λ n. min n bound) (read_next value ds i inside) ∙ sym (cut_early bound (10 * value + (get_or ds i 0 - 48)) (drop (i + 1) ds))

-- what is past all bounds is within none
pub within_written : (least most n : ℕ) → most < 4294967296 → within least most (min n 4294967296) ≡ within least most n
within_written least most n small = elim (cases_lt n 4294967296) [
  | inl below ↦ let same : min n 4294967296 ≡ n = omega arith in ap (within least most) same
  | inr above ↦ grind arith
]
