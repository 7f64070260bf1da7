-- The key of an issue is read as that key, and what is read is the key of an issue of one of the projects.
use Rattle.std.proofs.Common.{◌≡◌, ℕ, zero, suc, ◌+◌, ◌-◌, ◌*◌, ◌%◌, ◌<◌, ◌≤◌, ◌^◌, ◌==◌, Bool, true, false, List, [], ◌∷◌, ◌++◌, length, drop, Option, Some, None, if◌then◌else◌, nat_lt, refl, sym, ap, subst, ◌∙◌, arith, codes, decimal, slice_get, unwrap_or, lt-ltb, length-append}
use Rattle.std.specs.List.{list_all, position_or_len}
use Rattle.std.specs.Int.{is_in_range}
use Rattle.std.proofs.lemmas.Bool.{and_parts}
use Rattle.std.proofs.lemmas.Fmt.{decimal_by_steps, length-decimal-le, decimal_nonempty}
use Rattle.std.proofs.lemmas.Grind.{common_steps}
use Rattle.std.proofs.lemmas.Option.{same_Some, option_and_then_some, slice_get-get_or}
use Rattle.std.proofs.Math.Seq.{take-append_seam}
use Rattle.field_values.specs.Digits.{is_digit, read_on}
use Rattle.field_forms.specs.Cuts.{cut_at}
use Rattle.field_forms.specs.Names.{place_named, AreDistinct, is_project_key}
use Rattle.field_forms.specs.Numbers.{is_numeral}
use Rattle.field_forms.proofs.Fits.{named_inside}
use Rattle.field_forms.proofs.RoundTrip.{place_is}
use Rattle.fields.specs.Naming.{name_at}
use Rattle.serde_json.specs.Data.{Data}
use Rattle.tracker_keeper.specs.Forms.{IsNumber, IsIssueKey}
use Rattle.tracker_keeper.specs.Looking.{number_in}
use Rattle.json_texts.specs.JsonMembers.{text_at}
use Rattle.tracker_keeper.specs.LookingAtValues.{key_number, key_like, key_at}
use Rattle.tracker_keeper.proofs.Found.{numbered}
use Rattle.tracker_keeper.proofs.Fits.{option_map_some, is_number}

-- ---- digits

read_last : (n digit : ℕ) (digits : List ℕ) → read_on n (digits ++ digit ∷ []) ≡ 10 * read_on n digits + (digit - 48)
read_last n digit [] = refl
read_last n digit (first ∷ digits) = read_last (10 * n + (first - 48)) digit digits

all_last : (digit : ℕ) (digits : List ℕ) → list_all is_digit digits ≡ true → is_digit digit ≡ true → list_all is_digit (digits ++ digit ∷ []) ≡ true
all_last digit [] all last = grind (arith, last)
all_last digit (first ∷ digits) all last =
    let parts = and_parts (is_digit first) (list_all is_digit digits) all in
    let rest : list_all is_digit (digits ++ digit ∷ []) ≡ true = all_last digit digits parts.1 last in
    grind (arith, parts.0, rest)

-- the digits of a number, which write it
record Writes (n : ℕ) (digits : List ℕ) : Type 0 where
  all : list_all is_digit digits ≡ true
  value : read_on 0 digits ≡ n

is_one_digit : (n : ℕ) → n < 10 → is_digit (48 + n) ≡ true
is_one_digit n small = grind (arith, small)

decimal_writes : (n : ℕ) → n < 2 ^ 64 → Writes n (decimal n)
decimal_writes = decimal_by_steps Writes
    (λ n small. record { all = grind (arith, is_one_digit n small); value = omega arith })
    (λ n digits more before. record {
      all = all_last (48 + n % 10) digits before.all (is_one_digit (n % 10) (omega arith));
      value = read_last 0 (48 + n % 10) digits ∙ omega (arith, before.value);
    })

numeral : (digits : List ℕ) → 0 < length digits → length digits ≤ 10 → list_all is_digit digits ≡ true → is_numeral 10 digits ≡ true
numeral digits some few all = grind (arith, some, few, all)

number_back : (n : ℕ) → IsNumber n → key_number (decimal n) ≡ Some n
number_back n h =
    let below = h.1 in
    let small : n < 2 ^ 64 = omega (arith, below) in
    let writes = decimal_writes n small in
    let formed : is_numeral 10 (decimal n) ≡ true = numeral (decimal n) (decimal_nonempty n small) (length-decimal-le 10 n (omega (arith, below)) (omega (arith, below)) (omega (arith, below))) writes.all in
    rw (formed, writes.value) (numbered n h)

-- ---- a key

-- the first hyphen after letters
hyphen_at : (letters rest : List ℕ) → list_all (λ b. is_in_range 65 90 b) letters ≡ true → position_or_len (λ b. b == 45) (letters ++ 45 ∷ rest) ≡ length letters
hyphen_at [] rest all = refl
hyphen_at (letter ∷ letters) rest all =
    let parts = and_parts (is_in_range 65 90 letter) (list_all (λ b. is_in_range 65 90 b) letters) all in
    let later : position_or_len (λ b. b == 45) (letters ++ 45 ∷ rest) ≡ length letters = hyphen_at letters rest parts.1 in
    let other : (letter == 45) ≡ false = grind (arith, parts.0) in
    grind (arith, common_steps, other, later)

-- what stands behind a byte behind others
behind : (letters : List ℕ) (b : ℕ) (rest : List ℕ) → drop (length letters + 1) (letters ++ b ∷ rest) ≡ rest
behind [] b rest = refl
behind (letter ∷ letters) b rest = let next : suc (length letters) + 1 ≡ suc (length letters + 1) = omega arith in rw next (behind letters b rest)

cut_back : (letters rest : List ℕ) → list_all (λ b. is_in_range 65 90 b) letters ≡ true → cut_at 45 (letters ++ 45 ∷ rest) ≡ Some (letters, rest)
cut_back letters rest all =
    let here = hyphen_at letters rest all in
    let longer = length-append letters (45 ∷ rest) in
    let inside : nat_lt (length letters) (length (letters ++ 45 ∷ rest)) ≡ true = lt-ltb _ _ (omega (arith, longer)) in
    rw here (rw inside (rw (take-append_seam letters (45 ∷ rest), behind letters 45 rest) refl))

name_is : (names : List (List ℕ)) (place : ℕ) (name : List ℕ) → slice_get names place ≡ Some name → name_at names place ≡ name
name_is names place name e = ap (λ o. unwrap_or o []) e

-- what holds of all names holds of the one at a place
formed_at : (names : List (List ℕ)) (place : ℕ) (name : List ℕ) → slice_get names place ≡ Some name → list_all is_project_key names ≡ true → is_project_key name ≡ true
formed_at [] place name e all = absurd (cc)
formed_at (first ∷ names) zero name e all = subst (λ (x : List ℕ). is_project_key x ≡ true) (same_Some first name e) (and_parts (is_project_key first) (list_all is_project_key names) all).0
formed_at (first ∷ names) (suc place) name e all = formed_at names place name e (and_parts (is_project_key first) (list_all is_project_key names) all).1

pub key_found : (projects : List (List ℕ)) (key : List ℕ) → AreDistinct projects → list_all is_project_key projects ≡ true → IsIssueKey projects key → key_like projects key ≡ Some key
key_found projects key distinct formed h =
    let formed_here = formed_at projects h.place h.project h.there formed in
    let letters = (and_parts _ (list_all (λ b. is_in_range 65 90 b) h.project) formed_here).1 in
    let place = place_is projects h.place h.project distinct (sym h.there) in
    rw h.key_is (rw (cut_back h.project (decimal h.number) letters) (rw (place, number_back h.number h.is_number, name_is projects h.place h.project h.there) refl))

-- ---- what is read

number_tells : (digits : List ℕ) (n : ℕ) → key_number digits ≡ Some n → IsNumber n
number_tells digits n e = let c = if_some_of (is_numeral 10 digits) (number_in (read_on 0 digits)) n e in is_number (read_on 0 digits) n c where
  if_some_of : (b : Bool) (o : Option ℕ) (m : ℕ) → (if b then o else None) ≡ Some m → o ≡ Some m
  if_some_of true o m h = h
  if_some_of false o m h = absurd (cc)

key_tells : (projects : List (List ℕ)) (text key : List ℕ) → key_like projects text ≡ Some key → IsIssueKey projects key
key_tells projects text key e =
    option_and_then_some _ (cut_at 45 text) key e (λ parts parts_is e1.
    option_and_then_some _ (place_named parts.0 projects) key e1 (λ place place_is e2.
    option_map_some _ (key_number parts.1) key e2 (λ n n_is key_is.
    let inside = named_inside projects parts.0 place place_is in
    let there = slice_get-get_or projects place [] inside in
    record {
      place = place;
      project = name_at projects place;
      there = there ∙ ap (λ o. Some (unwrap_or o [])) (sym there);
      number = n;
      is_number = number_tells parts.1 n n_is;
      key_is = sym key_is;
    })))

pub key_at_tells : (projects : List (List ℕ)) (d : Data) (key : List ℕ) → key_at projects d ≡ Some key → IsIssueKey projects key
key_at_tells projects d key e = option_and_then_some (key_like projects) (text_at (codes "key") d) key e (λ text text_is h. key_tells projects text key h)
