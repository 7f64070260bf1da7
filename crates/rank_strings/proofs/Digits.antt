-- Digits and the characters that they are written as.
use Rattle.std.proofs.Common.{◌≡◌, ◌≢◌, ℕ, suc, ◌-◌, ◌<◌, List, [], ◌∷◌, length, map, get_or, refl, sym, ap, ◌∙◌, arith}
use Rattle.std.proofs.lemmas.List.{length-map, get_or-map}
use Rattle.rank_strings.specs.Rank.{AreDigits, last_or}
use Rattle.rank_strings.specs.Text.{digit_code}

-- bytes with one that is no digit's character are not written digits
pub not_digits : (bytes : List ℕ) (i byte : ℕ) → i < length bytes → byte ≡ get_or bytes i 0 →
    ((d : ℕ) → d < 36 → digit_code d ≢ byte) → (ds : List ℕ) → AreDigits ds → map digit_code ds ≢ bytes
not_digits bytes i byte h is none ds digits same =
    let lengths : length ds ≡ length bytes = sym (length-map ds digit_code) ∙ ap length same in
    let place : i < length ds = omega arith in
    none (get_or ds i 0) (digits i 0 place)
    (sym (get_or-map digit_code ds i 0 0 place) ∙ ap (λ bs. get_or bs i 0) same ∙ sym is)

-- the last digit by its place
pub last_or-last : (none : ℕ) (xs : List ℕ) (d : ℕ) → 0 < length xs → last_or none xs ≡ get_or xs (length xs - 1) d
last_or-last none [] d h = absurd (omega arith)
last_or-last none (x ∷ []) d h = refl
last_or-last none (x ∷ y ∷ ys) d h =
    let place : length (x ∷ y ∷ ys) - 1 ≡ suc (length (y ∷ ys) - 1) = omega arith in
    rw place (last_or-last x (y ∷ ys) d (omega arith))
