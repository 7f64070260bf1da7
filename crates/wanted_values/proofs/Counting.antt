-- A net difference has at most one change for each field.
use Rattle.std.proofs.Common.{◌≡◌, ◌==◌, ℕ, suc, ◌+◌, ◌≤◌, List, [], ◌∷◌, ◌||◌, length, map, Bool, true, false, true≢false, None, refl, sym, ap, arith, ◌∙◌}
use Rattle.std.specs.Prelude.{if◌then◌else◌, nat_le}
use Rattle.std.specs.List.{list_any}
use Rattle.std.proofs.lemmas.Bool.{eqb-true}
use Rattle.std.proofs.lemmas.List.{length-append, length-map}
use Rattle.field_values.specs.declared.field.Field.{Field}
use Rattle.field_values.specs.declared.numbers.FieldNo.{FieldNo}
use Rattle.field_values.specs.declared.value.Value.{Value}
use Rattle.field_forms.specs.Known.{Names, fits, form_of, own_field}
use Rattle.change_history.specs.declared.change.Change.{Change}
use Rattle.workflow.specs.Difference.{AreNews}
use Rattle.workflow.specs.Laws.{AllFit}
use Rattle.fields.specs.Naming.{built_in_numbers, field_numbers}

-- how many of some numbers aren't below another
abbrev from_on : ℕ → List ℕ → ℕ
from_on low [] = 0
from_on low (n ∷ ns) = if nat_le low n then suc (from_on low ns) else from_on low ns

kept_most : (b : Bool) (m n : ℕ) → m ≤ n → (if b then suc m else m) ≤ suc n
kept_most true m n le = omega (arith, le)
kept_most false m n le = omega (arith, le)

at_most_all : (low : ℕ) (ns : List ℕ) → from_on low ns ≤ length ns
at_most_all low [] = omega arith
at_most_all low (n ∷ ns) = kept_most (nat_le low n) (from_on low ns) (length ns) (at_most_all low ns)

fewer_above : (low n : ℕ) (ns : List ℕ) → low ≤ n → from_on (n + 1) ns ≤ from_on low ns
fewer_above low n [] le = nothing (from_on (n + 1) []) refl where
  nothing : (m : ℕ) → m ≡ 0 → m ≤ 0
  nothing m e = omega (arith, e)
fewer_above low n (m ∷ ns) le = grind (arith, fewer_above low n ns le)

-- one that is among them counts no more above it
-- one of them is that number, or it is among those behind
one_less_at : (low n m : ℕ) (ns : List ℕ) (b : Bool) → (m == n) ≡ b → low ≤ n → from_on (n + 1) ns ≤ from_on low ns
    → (list_any (λ k. k == n) ns ≡ true → suc (from_on (n + 1) ns) ≤ from_on low ns) → (b || list_any (λ k. k == n) ns) ≡ true
    → suc (from_on (n + 1) (m ∷ ns)) ≤ from_on low (m ∷ ns)
one_less_at low n m ns true e le fewer later there = grind (arith, eqb-true m n e, fewer)
one_less_at low n m ns false e le fewer later there = grind (arith, later there)

one_less : (low n : ℕ) (ns : List ℕ) → low ≤ n → list_any (λ k. k == n) ns ≡ true → suc (from_on (n + 1) ns) ≤ from_on low ns
one_less low n [] le there = absurd (cc)
one_less low n (m ∷ ns) le there = one_less_at low n m ns (m == n) refl le (fewer_above low n ns le) (λ rest. one_less low n ns le rest) there

-- the fields of the changes are among these
abbrev AllAmong : List ℕ → List Change → Type 0
AllAmong ns [] = Unit {0}
AllAmong ns (c ∷ cs) = (list_any (λ k. k == c.field.0) ns ≡ true) × AllAmong ns cs

few_news : (before : FieldNo → Value) (low : ℕ) (changes : List Change) (ns : List ℕ) → AreNews before low changes → AllAmong ns changes → length changes ≤ from_on low ns
few_news before low [] ns news among = omega arith
few_news before low (c ∷ cs) ns news among = omega (arith, few_news before (c.field.0 + 1) cs ns news.2 among.1, one_less low c.field.0 ns news.0 among.0)

-- ---- a field that a value fits is one of the issue's

or_false : (a b : Bool) → (a || b) ≡ false → (a ≡ false) × (b ≡ false)
or_false true b e = cc
or_false false b e = (refl, e)

own_none : (fields : List Field) (n : ℕ) → list_any (λ k. k == n) (map (λ f. f.number.0) fields) ≡ false → own_field fields n ≡ None
own_none [] n none = refl
own_none (f ∷ fs) n none =
    let parts = or_false (f.number.0 == n) (list_any (λ k. k == n) (map (λ f. f.number.0) fs)) none in
    rw (parts.0) (own_none fs n parts.1)

form_none : (fields : List Field) (n : ℕ) → list_any (λ k. k == n) (field_numbers fields) ≡ false → form_of fields n ≡ None
unfolding form_of
form_none fields n none =
    let h1 = or_false (1 == n) _ none in
    let h2 = or_false (2 == n) _ h1.1 in
    let h3 = or_false (3 == n) _ h2.1 in
    let h4 = or_false (4 == n) _ h3.1 in
    let h5 = or_false (5 == n) _ h4.1 in
    let h6 = or_false (6 == n) _ h5.1 in
    let h7 = or_false (7 == n) _ h6.1 in
    let h8 = or_false (8 == n) _ h7.1 in
    let h9 = or_false (9 == n) _ h8.1 in
    let h10 = or_false (10 == n) _ h9.1 in
    let h11 = or_false (11 == n) _ h10.1 in
    let h12 = or_false (12 == n) _ h11.1 in
    let h13 = or_false (13 == n) _ h12.1 in
    let own : own_field fields n ≡ None = own_none fields n h13.1 in
    grind (arith, h1.0, h2.0, h3.0, h4.0, h5.0, h6.0, h7.0, h8.0, h9.0, h10.0, h11.0, h12.0, h13.0, own)

fits_none : (names : Names) (n : ℕ) (v : Value) → form_of names.fields n ≡ None → fits names n v ≡ true → ⊥
unfolding fits
fits_none names n v none fit =
    let never : fits names n v ≡ false = rw (none) refl in
    true≢false (sym fit ∙ never)

is_among : (names : Names) (n : ℕ) (v : Value) (b : Bool) → list_any (λ k. k == n) (field_numbers names.fields) ≡ b → fits names n v ≡ true → b ≡ true
is_among names n v true e fit = refl
is_among names n v false e fit = absurd (fits_none names n v (form_none names.fields n e) fit)

all_among : (names : Names) (cs : List Change) → AllFit names cs → AllAmong (field_numbers names.fields) cs
all_among names [] fit = tt
all_among names (c ∷ cs) fit = (is_among names c.field.0 c.to _ refl fit.0, all_among names cs fit.1)

-- so there are at most 43 changes
pub few_changes : (names : Names) (before : FieldNo → Value) (cs : List Change) → AreNews before 0 cs → AllFit names cs → length names.fields ≤ 30 → length cs ≤ 43
few_changes names before cs news fit few =
    let total : length (field_numbers names.fields) ≡ 13 + length names.fields = length-append built_in_numbers (map (λ f. f.number.0) names.fields) ∙ ap (λ n. 13 + n) (length-map names.fields (λ (f : Field). f.number.0)) in
    omega (arith, few_news before 0 cs (field_numbers names.fields) news (all_among names cs fit), at_most_all 0 (field_numbers names.fields), total)
