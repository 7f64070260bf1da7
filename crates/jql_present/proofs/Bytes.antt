-- Bytes of a word of a text beside those of the one that is looked for.
use Rattle.std.proofs.Common.{◌≡◌, ◌≢◌, ℕ, suc, ◌<◌, ◌≤◌, Bool, true, false, List, [], ◌∷◌, ◌++◌, length, length-append, below_more, take, get_or, map, if◌then◌else◌, arith, refl, sym, ◌∙◌, ap}
use Rattle.std.specs.Char.{to_ascii_lowercase}
use Rattle.std.specs.Str.{str_eq_ignore_ascii_case}
use Rattle.std.proofs.lemmas.Bool.{false_from_ne_true}
use Rattle.std.proofs.lemmas.List.{length-map, length-take, get_or-take, take_all}
use Rattle.std.proofs.Math.ListN.{get_or-map}
use Rattle.std.proofs.lemmas.Slice.Eq.{bytes_eq-Decides}
use Rattle.jql_bound.specs.declared.leaf.Word.{Word}
use Rattle.jql_meaning.specs.Words.{is_word}

-- two texts have the same byte at a place, ASCII case ignored
abbrev pub IsSameAt : List ℕ → List ℕ → ℕ → Type 0
IsSameAt text word k = to_ascii_lowercase (get_or text k 0) ≡ to_ascii_lowercase (get_or word k 0)

other_length : (compared text : List ℕ) → length compared ≢ length text → str_eq_ignore_ascii_case compared text ≡ false
other_length compared text other =
    false_from_ne_true (str_eq_ignore_ascii_case compared text)
    (λ same. other (sym (length-map compared to_ascii_lowercase) ∙ ap length ((bytes_eq-Decides (map to_ascii_lowercase compared) (map to_ascii_lowercase text)).0 same) ∙ length-map text to_ascii_lowercase))

other_byte : (compared text : List ℕ) (k : ℕ) → to_ascii_lowercase (get_or text k 0) ≢ to_ascii_lowercase (get_or compared k 0) → str_eq_ignore_ascii_case compared text ≡ false
other_byte compared text k other =
    false_from_ne_true (str_eq_ignore_ascii_case compared text)
    (λ same. other (sym (get_or-map to_ascii_lowercase text k 0) ∙ sym (ap (λ l. get_or l k 0) ((bytes_eq-Decides (map to_ascii_lowercase compared) (map to_ascii_lowercase text)).0 same)) ∙ get_or-map to_ascii_lowercase compared k 0))

same_small : (word text : List ℕ) → length text ≤ length word → ((k : ℕ) → k < length text → IsSameAt text word k) → map to_ascii_lowercase (take (length text) word) ≡ map to_ascii_lowercase text
same_small word [] long same = refl
same_small [] (b ∷ bs) long same = absurd (omega arith)
same_small (a ∷ others) (b ∷ bs) long same =
    let first : to_ascii_lowercase b ≡ to_ascii_lowercase a = same 0 (omega arith) in
    let rest = same_small others bs (omega arith) (λ k less. same (suc k) (omega arith)) in
    ap (λ x. x ∷ map to_ascii_lowercase (take (length bs) others)) (sym first) ∙ ap (λ l. to_ascii_lowercase b ∷ l) rest

all_same : (word text : List ℕ) → length text ≤ length word → ((k : ℕ) → k < length text → IsSameAt text word k) → str_eq_ignore_ascii_case (take (length text) word) text ≡ true
all_same word text long same = (bytes_eq-Decides (map to_ascii_lowercase (take (length text) word)) (map to_ascii_lowercase text)).1 (same_small word text long same)

short : (prefix : Bool) (word text : List ℕ) → length word < length text → str_eq_ignore_ascii_case (if prefix then take (length text) word else word) text ≡ false
short true word text less = other_length (take (length text) word) text (λ e. omega (arith, length-take (length text) word))
short false word text less = other_length word text (λ e. omega arith)

unlike : (prefix : Bool) (word text : List ℕ) (k : ℕ) → k < length text → to_ascii_lowercase (get_or text k 0) ≢ to_ascii_lowercase (get_or word k 0) → str_eq_ignore_ascii_case (if prefix then take (length text) word else word) text ≡ false
unlike true word text k within other = other_byte (take (length text) word) text k (λ e. other (e ∙ ap to_ascii_lowercase (get_or-take (length text) word k 0 within)))
unlike false word text k within other = other_byte word text k other

alike : (prefix : Bool) (word text : List ℕ) → length text ≤ length word → (prefix ≡ false → length word ≤ length text) → ((k : ℕ) → k < length text → IsSameAt text word k) → str_eq_ignore_ascii_case (if prefix then take (length text) word else word) text ≡ true
alike true word text long whole same = all_same word text long same
alike false word text long whole same = rw (take_all (length text) word (whole refl)) at (all_same word text long same)

-- a word with too few bytes is another one
pub too_short : (wanted : Word) (word : List ℕ) → length word < length wanted.text → is_word wanted word ≡ false
too_short wanted word less = short wanted.prefix word wanted.text less

-- so is one with too many, where its beginning won't do
pub too_long : (wanted : Word) (word : List ℕ) → wanted.prefix ≡ false → length wanted.text < length word → is_word wanted word ≡ false
too_long wanted word whole more = rw whole (other_length word wanted.text (λ e. omega arith))

-- so is one with another byte at some place
pub another_byte : (wanted : Word) (word : List ℕ) (k : ℕ) → k < length wanted.text → to_ascii_lowercase (get_or wanted.text k 0) ≢ to_ascii_lowercase (get_or word k 0) → is_word wanted word ≡ false
another_byte wanted word k within other = unlike wanted.prefix word wanted.text k within other

-- one with the same bytes, and no more of them unless its beginning will do, is the one
pub same_bytes : (wanted : Word) (word : List ℕ) → length wanted.text ≤ length word → (wanted.prefix ≡ false → length word ≤ length wanted.text) → ((k : ℕ) → k < length wanted.text → IsSameAt wanted.text word k) → is_word wanted word ≡ true
same_bytes wanted word long whole same = alike wanted.prefix word wanted.text long whole same

-- the step of a loop over both
pub same_so_far : {A : Type 0} (pairs : List A) (pair : A) (text word : List ℕ) → ((k : ℕ) → k < length pairs → IsSameAt text word k) → IsSameAt text word (length pairs) → (k : ℕ) → k < length (pairs ++ pair ∷ []) → IsSameAt text word k
same_so_far pairs pair text word before here k within = below_more (λ k. IsSameAt text word k) (length pairs) before here k (omega (arith, length-append pairs (pair ∷ [])))

-- a byte of the first part of a text
pub byte_in_front : (text front : List ℕ) (n k : ℕ) → front ≡ take n text → k < n → get_or front k 0 ≡ get_or text k 0
byte_in_front text front n k is within = ap (λ l. get_or l k 0) is ∙ get_or-take n text k 0 within
