-- What the one set has and the other hasn't, issue by issue.
use Rattle.std.proofs.Common.{◌≡◌, ℕ, zero, suc, ◌+◌, ◌<◌, ◌≤◌, Bool, true, false, not, ◌&&◌, List, [], ◌∷◌, ◌++◌, get_or, length, map, take, if◌then◌else◌, refl, sym, ◌∙◌, ap, arith, append-nil, append_assoc, length-append}
use Rattle.std.proofs.lemmas.List.{length-map, length-take, map-append}
use Rattle.field_values.specs.declared.numbers.IssueNo.{IssueNo}
use Rattle.move_feeds.specs.declared.moves.Change.{Change}
use Rattle.move_feeds.specs.Changes.{change, changes, entry, exit, lacking, lacking_from, lacks_at}

abbrev pub here : ℕ → Bool → List IssueNo
here m b = if b then record { 0 = m } ∷ [] else []

and_true : (b : Bool) → b && true ≡ b
and_true true = refl
and_true false = refl

first_here : (m n : ℕ) (b : Bool) → m ≡ n → (if b then record { 0 = n } ∷ [] else []) ≡ here m b
first_here m n b e = ap (λ k. here k b) (sym e)

behind : (n : ℕ) (b : Bool) (xs ys zs : List IssueNo) → xs ≡ ys ++ zs
    → (if b then record { 0 = n } ∷ xs else xs) ≡ (if b then record { 0 = n } ∷ ys else ys) ++ zs
behind n true xs ys zs e = ap (λ l. record { 0 = n } ∷ l) e
behind n false xs ys zs e = e

lacking_suc : (n : ℕ) (these those : List Bool) (k : ℕ) → k < length these
    → lacking_from n (take (suc k) these) those ≡ lacking_from n (take k these) those ++ here (n + k) (lacks_at these those k)
lacking_suc n [] those k lt = absurd (omega (arith, lt))
lacking_suc n (this ∷ these) [] zero lt = first_here (n + 0) n this (omega arith) ∙ ap (here (n + 0)) (sym (and_true this))
lacking_suc n (this ∷ these) [] (suc k) lt =
    behind n this _ _ _ (lacking_suc (n + 1) these [] k (omega (arith, lt)) ∙ ap (λ m. lacking_from (n + 1) (take k these) [] ++ here m (lacks_at these [] k)) (omega arith))
lacking_suc n (this ∷ these) (that ∷ those) zero lt = first_here (n + 0) n (this && not that) (omega arith)
lacking_suc n (this ∷ these) (that ∷ those) (suc k) lt =
    behind n (this && not that) _ _ _ (lacking_suc (n + 1) these those k (omega (arith, lt)) ∙ ap (λ m. lacking_from (n + 1) (take k these) those ++ here m (lacks_at these those k)) (omega arith))

-- one issue more
pub lacking_more : (n : ℕ) (these those : List Bool) (k : ℕ) → k < length these
    → lacking_from n (take (k + 1) these) those ≡ lacking_from n (take k these) those ++ here (n + k) (lacks_at these those k)
lacking_more n these those k lt =
    let e : k + 1 ≡ suc k = omega arith in
    ap (λ j. lacking_from n (take j these) those) e ∙ lacking_suc n these those k lt

-- so one more is counted where there is one
pub lacking_step : (these those : List Bool) (k : ℕ) → k < length these
    → lacking (take (k + 1) these) those ≡ lacking (take k these) those ++ here (k + 1) (lacks_at these those k)
lacking_step these those k lt =
    let e : 1 + k ≡ k + 1 = omega arith in
    lacking_more 1 these those k lt ∙ ap (λ (m : ℕ). lacking (take k these) those ++ here m (lacks_at these those k)) e

length_here : (m : ℕ) (b : Bool) → length (here m b) ≡ (if b then 1 else 0)
length_here m true = refl
length_here m false = refl

pub count_step : (these those : List Bool) (k : ℕ) → k < length these
    → length (lacking (take (k + 1) these) those) ≡ length (lacking (take k these) those) + (if lacks_at these those k then 1 else 0)
count_step these those k lt =
    ap length (lacking_step these those k lt)
    ∙ (length-append (lacking (take k these) those) (here (k + 1) (lacks_at these those k))
    ∙ ap (λ (n : ℕ). length (lacking (take k these) those) + n) (length_here (k + 1) (lacks_at these those k)))

mapped_here : (entered : Bool) (m : ℕ) (b : Bool) → map (change entered) (here m b) ≡ (if b then change entered (record { 0 = m }) ∷ [] else [])
mapped_here entered m true = refl
mapped_here entered m false = refl

pub mapped_step : (entered : Bool) (these those : List Bool) (k : ℕ) → k < length these
    → map (change entered) (lacking (take (k + 1) these) those)
    ≡ map (change entered) (lacking (take k these) those) ++ (if lacks_at these those k then change entered (record { 0 = k + 1 }) ∷ [] else [])
mapped_step entered these those k lt =
    ap (map (change entered)) (lacking_step these those k lt)
    ∙ (map-append (change entered) (lacking (take k these) those) (here (k + 1) (lacks_at these those k))
    ∙ ap (λ l. map (change entered) (lacking (take k these) those) ++ l) (mapped_here entered (k + 1) (lacks_at these those k)))

-- there are no more of them than issues
pub length-lacking : (n : ℕ) (these those : List Bool) → length (lacking_from n these those) ≤ length these
length-lacking n [] those = omega arith
length-lacking n (this ∷ these) [] = by this (length-lacking (n + 1) these [])
  where
    by : (b : Bool) → length (lacking_from (n + 1) these []) ≤ length these → length (if b then record { 0 = n } ∷ lacking_from (n + 1) these [] else lacking_from (n + 1) these []) ≤ suc (length these)
    by true le = omega (arith, le)
    by false le = omega (arith, le)
length-lacking n (this ∷ these) (that ∷ those) = by (this && not that) (length-lacking (n + 1) these those)
  where
    by : (b : Bool) → length (lacking_from (n + 1) these those) ≤ length these → length (if b then record { 0 = n } ∷ lacking_from (n + 1) these those else lacking_from (n + 1) these those) ≤ suc (length these)
    by true le = omega (arith, le)
    by false le = omega (arith, le)

-- no more are counted than were looked at
pub count_small : (these those : List Bool) (k : ℕ) → length (lacking (take k these) those) ≤ k
count_small these those k = omega (arith, length-lacking 1 (take k these) those, length-take k these)

-- a part of them is no longer
pub length-lacking_part : (n : ℕ) (these those : List Bool) (k : ℕ) → length (lacking_from n (take k these) those) ≤ length (lacking_from n these those)
length-lacking_part n these those zero = omega arith
length-lacking_part n [] those (suc k) = omega arith
length-lacking_part n (this ∷ these) [] (suc k) = by this (length-lacking_part (n + 1) these [] k)
  where
    by : (b : Bool) → length (lacking_from (n + 1) (take k these) []) ≤ length (lacking_from (n + 1) these []) → length (if b then record { 0 = n } ∷ lacking_from (n + 1) (take k these) [] else lacking_from (n + 1) (take k these) []) ≤ length (if b then record { 0 = n } ∷ lacking_from (n + 1) these [] else lacking_from (n + 1) these [])
    by true le = omega (arith, le)
    by false le = le
length-lacking_part n (this ∷ these) (that ∷ those) (suc k) = by (this && not that) (length-lacking_part (n + 1) these those k)
  where
    by : (b : Bool) → length (lacking_from (n + 1) (take k these) those) ≤ length (lacking_from (n + 1) these those) → length (if b then record { 0 = n } ∷ lacking_from (n + 1) (take k these) those else lacking_from (n + 1) (take k these) those) ≤ length (if b then record { 0 = n } ∷ lacking_from (n + 1) these those else lacking_from (n + 1) these those)
    by true le = omega (arith, le)
    by false le = le

pub length-changes : (before now : List Bool) → length (changes before now) ≡ length (lacking before now) + length (lacking now before)
length-changes before now =
    length-append (map exit (lacking before now)) (map entry (lacking now before))
    ∙ (ap (λ n. n + length (map entry (lacking now before))) (length-map (lacking before now) exit)
    ∙ ap (λ n. length (lacking before now) + n) (length-map (lacking now before) entry))

-- one that isn't looked at yet may still wait
pub room_step : (these those : List Bool) (k : ℕ) → k < length these → lacks_at these those k ≡ true
    → length (lacking (take k these) those) < length (lacking these those)
room_step these those k lt is =
    let step : length (lacking (take (k + 1) these) those) ≡ length (lacking (take k these) those) + 1 =
    count_step these those k lt ∙ ap (λ (b : Bool). length (lacking (take k these) those) + (if b then 1 else 0)) is in
    omega (arith, step, length-lacking_part 1 these those (k + 1))

-- a set that stays puts out nothing
pub lacking_none : (n : ℕ) (these : List Bool) → lacking_from n these these ≡ []
lacking_none n [] = refl
lacking_none n (true ∷ these) = lacking_none (n + 1) these
lacking_none n (false ∷ these) = lacking_none (n + 1) these

pub changes_none : (set : List Bool) → changes set set ≡ []
changes_none set = ap (λ l. map exit l ++ map entry l) (lacking_none 1 set)

-- as many wait at most as there are issues more
pub waits_few : (before now : List Change) (these those : List Bool) (entered : Bool) → now ≡ before ++ map (change entered) (lacking these those)
    → length now ≤ length before + length these
waits_few before now these those entered is =
    omega (arith, ap length is, length-append before (map (change entered) (lacking these those)), length-map (lacking these those) (change entered), length-lacking 1 these those)

-- what goes out and then what comes in
pub both_put : (before between now : List Change) (listed next one two three four : List Bool) → one ≡ listed → two ≡ next → three ≡ next → four ≡ listed
    → between ≡ before ++ map (change false) (lacking one two) → now ≡ between ++ map (change true) (lacking three four)
    → now ≡ before ++ changes listed next
both_put before between now listed next one two three four is_one is_two is_three is_four out come =
    come ∙ (ap (λ l. l ++ map (change true) (lacking three four)) out
    ∙ (append_assoc before (map (change false) (lacking one two)) (map (change true) (lacking three four))
    ∙ (ap (λ l. before ++ (map (change false) (lacking l two) ++ map (change true) (lacking three four))) is_one
    ∙ (ap (λ l. before ++ (map (change false) (lacking listed l) ++ map (change true) (lacking three four))) is_two
    ∙ (ap (λ l. before ++ (map (change false) (lacking listed next) ++ map (change true) (lacking l four))) is_three
    ∙ ap (λ l. before ++ (map (change false) (lacking listed next) ++ map (change true) (lacking next l))) is_four)))))
