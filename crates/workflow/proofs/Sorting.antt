-- Changes that are sorted by field, and the values after them.
use Rattle.std.proofs.Common.{◌≡◌, ◌==◌, ℕ, ◌+◌, ◌<◌, ◌≤◌, List, [], ◌∷◌, Bool, true, false, refl, ap, ◌∙◌, arith, nat_lt}
use Rattle.std.specs.Prelude.{if◌then◌else◌}
use Rattle.std.proofs.lemmas.Bool.{eqb-true, eqb-false, ne_eqb, ltb-true, ltb-false}
use Rattle.field_values.specs.declared.numbers.FieldNo.{FieldNo}
use Rattle.field_values.specs.declared.value.Value.{Value}
use Rattle.change_history.specs.declared.change.Change.{Change}
use Rattle.workflow.specs.Net.{last_value, put_change, put_changes}

-- by rising field number, from `low` on
abbrev pub AreRising : ℕ → List Change → Type 0
AreRising low [] = Unit {0}
AreRising low (c ∷ cs) = (low ≤ c.field.0) × AreRising (c.field.0 + 1) cs

pub rising_from : (low less : ℕ) (cs : List Change) → less ≤ low → AreRising low cs → AreRising less cs
rising_from low less [] le rising = tt
rising_from low less (c ∷ cs) le rising = (omega (arith, rising.0), rising.1)

-- a field below them all keeps its value
pub last_value-other : (low : ℕ) (cs : List Change) (f : FieldNo) (v : Value) → AreRising low cs → f.0 < low → last_value v cs f ≡ v
last_value-other low [] f v rising below = refl
last_value-other low (c ∷ cs) f v rising below =
    let apart : (c.field.0 == f.0) ≡ false = ne_eqb c.field.0 f.0 (λ e. absurd (omega (arith, rising.0, e))) in
    ap (λ (b : Bool). last_value (if b then c.to else v) cs f) apart
    ∙ last_value-other (c.field.0 + 1) cs f v rising.1 (omega (arith, rising.0))

-- ---- one change is put among sorted ones

rising_step : (low : ℕ) (d : Change) (ds : List Change) (c : Change) (below same : Bool) → nat_lt d.field.0 c.field.0 ≡ below → (d.field.0 == c.field.0) ≡ same
    → low ≤ c.field.0 → AreRising low (d ∷ ds) → (d.field.0 + 1 ≤ c.field.0 → AreRising (d.field.0 + 1) (put_change ds c))
    → AreRising low (if below then d ∷ put_change ds c else if same then c ∷ ds else c ∷ d ∷ ds)
rising_step low d ds c true same is_below is_same from rising more = (rising.0, more (omega (arith, ltb-true d.field.0 c.field.0 is_below)))
rising_step low d ds c false true is_below is_same from rising more =
    (from, rising_from (d.field.0 + 1) (c.field.0 + 1) ds (omega (arith, eqb-true d.field.0 c.field.0 is_same)) rising.1)
rising_step low d ds c false false is_below is_same from rising more =
    let apart = eqb-false d.field.0 c.field.0 is_same in
    (from, (omega (arith, ltb-false d.field.0 c.field.0 is_below, apart), rising.1))

pub rising-put : (low : ℕ) (cs : List Change) (c : Change) → low ≤ c.field.0 → AreRising low cs → AreRising low (put_change cs c)
rising-put low [] c from rising = (from, tt)
rising-put low (d ∷ ds) c from rising =
    rising_step low d ds c (nat_lt d.field.0 c.field.0) (d.field.0 == c.field.0) refl refl from rising
    (λ le. rising-put (d.field.0 + 1) ds c le rising.1)

same_field : (v : Value) (d : Change) (ds : List Change) (c : Change) (f : FieldNo) (hits was : Bool) → (c.field.0 == f.0) ≡ hits → (d.field.0 == f.0) ≡ was
    → d.field.0 ≡ c.field.0 → AreRising (d.field.0 + 1) ds
    → last_value (if hits then c.to else v) ds f ≡ (if hits then c.to else last_value (if was then d.to else v) ds f)
same_field v d ds c f true was is_hit is_was same rising =
    last_value-other (d.field.0 + 1) ds f c.to rising (omega (arith, eqb-true c.field.0 f.0 is_hit))
same_field v d ds c f false true is_hit is_was same rising =
    absurd (eqb-false c.field.0 f.0 is_hit (omega (arith, eqb-true d.field.0 f.0 is_was)))
same_field v d ds c f false false is_hit is_was same rising = refl

higher_field : (v : Value) (d : Change) (ds : List Change) (c : Change) (f : FieldNo) (hits was : Bool) → (c.field.0 == f.0) ≡ hits → (d.field.0 == f.0) ≡ was
    → c.field.0 < d.field.0 → AreRising (d.field.0 + 1) ds
    → last_value (if was then d.to else (if hits then c.to else v)) ds f ≡ (if hits then c.to else last_value (if was then d.to else v) ds f)
higher_field v d ds c f true true is_hit is_was above rising =
    absurd (omega (arith, eqb-true c.field.0 f.0 is_hit, eqb-true d.field.0 f.0 is_was))
higher_field v d ds c f true false is_hit is_was above rising =
    last_value-other (d.field.0 + 1) ds f c.to rising (omega (arith, eqb-true c.field.0 f.0 is_hit))
higher_field v d ds c f false was is_hit is_was above rising = refl

put_step : (v : Value) (d : Change) (ds : List Change) (c : Change) (f : FieldNo) (below same : Bool) → nat_lt d.field.0 c.field.0 ≡ below → (d.field.0 == c.field.0) ≡ same
    → AreRising (d.field.0 + 1) ds
    → ((w : Value) → last_value w (put_change ds c) f ≡ (if c.field.0 == f.0 then c.to else last_value w ds f))
    → last_value v (if below then d ∷ put_change ds c else if same then c ∷ ds else c ∷ d ∷ ds) f
    ≡ (if c.field.0 == f.0 then c.to else last_value v (d ∷ ds) f)
put_step v d ds c f true same is_below is_same rising more = more (if d.field.0 == f.0 then d.to else v)
put_step v d ds c f false true is_below is_same rising more =
    same_field v d ds c f (c.field.0 == f.0) (d.field.0 == f.0) refl refl (eqb-true d.field.0 c.field.0 is_same) rising
put_step v d ds c f false false is_below is_same rising more =
    let apart = eqb-false d.field.0 c.field.0 is_same in
    higher_field v d ds c f (c.field.0 == f.0) (d.field.0 == f.0) refl refl (omega (arith, ltb-false d.field.0 c.field.0 is_below, apart)) rising

pub last_value-put : (low : ℕ) (v : Value) (cs : List Change) (c : Change) (f : FieldNo) → AreRising low cs
    → last_value v (put_change cs c) f ≡ (if c.field.0 == f.0 then c.to else last_value v cs f)
last_value-put low v [] c f rising = refl
last_value-put low v (d ∷ ds) c f rising =
    put_step v d ds c f (nat_lt d.field.0 c.field.0) (d.field.0 == c.field.0) refl refl rising.1
    (λ w. last_value-put (d.field.0 + 1) w ds c f rising.1)

-- ---- all changes are put among sorted ones

pub rising-puts : (sorted cs : List Change) → AreRising 0 sorted → AreRising 0 (put_changes sorted cs)
rising-puts sorted [] rising = rising
rising-puts sorted (c ∷ cs) rising = rising-puts (put_change sorted c) cs (rising-put 0 sorted c (omega arith) rising)

pub last_value-puts : (v : Value) (sorted cs : List Change) (f : FieldNo) → AreRising 0 sorted
    → last_value v (put_changes sorted cs) f ≡ last_value (last_value v sorted f) cs f
last_value-puts v sorted [] f rising = refl
last_value-puts v sorted (c ∷ cs) f rising =
    last_value-puts v (put_change sorted c) cs f (rising-put 0 sorted c (omega arith) rising)
    ∙ ap (λ (w : Value). last_value w cs f) (last_value-put 0 v sorted c f rising)
