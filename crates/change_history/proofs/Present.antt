-- What a field holds, by its last entry.
use Rattle.std.proofs.Common.{◌≡◌, ◌==◌, ℕ, zero, suc, ◌+◌, ◌<◌, List, [], ◌∷◌, length, take, Bool, true, false, Option, Some, None, IfSome, refl, sym, ap, subst, ◌∙◌, arith}
use Rattle.std.specs.Prelude.{if◌then◌else◌, slice_get}
use Rattle.field_values.specs.declared.numbers.FieldNo.{FieldNo}
use Rattle.field_values.specs.declared.value.Value.{Value}
use Rattle.change_history.specs.declared.entry.Entry.{Entry}
use Rattle.change_history.specs.declared.places.Bounds.{Bounds}
use Rattle.change_history.specs.History.{History, IsHistory, AreChanges, present, opening_value, value_after, values_after, put_value}
use Rattle.change_history.specs.Before.{first_from, first_of, last_from, last_of, before_of}
use Rattle.change_history.specs.Places.{number, first_in, value_at, Spots, AreSpots}
use Rattle.change_history.proofs.Adding.{values_after-value}

-- ---- the last entry of a field, by those behind the first

-- where the last one stands, of which the place among entries that begin at `place` is known, or else the one found before them
abbrev later : Option ℕ → ℕ → Option ℕ → Option ℕ
later found place None = found
later found place (Some k) = Some (place + k)

later-more : (found : Option ℕ) (place : ℕ) (b : Bool) (o : Option ℕ)
    → later (if b then Some place else found) (place + 1) o ≡ later found place (later (if b then Some 0 else None) 1 o)
later-more found place true None = ap (λ k. Some k) (omega arith)
later-more found place false None = refl
later-more found place b (Some k) = ap (λ k. Some k) (omega arith)

last_from-later : (found : Option ℕ) (place : ℕ) (es : List Entry) (f : FieldNo) → last_from found place es f ≡ later found place (last_of es f)
last_from-later found place [] f = refl
last_from-later found place (e ∷ es) f =
    last_from-later (if e.field.0 == f.0 then Some place else found) (place + 1) es f
    ∙ later-more found place (e.field.0 == f.0) (last_of es f)
    ∙ ap (later found place) (sym (last_from-later (if e.field.0 == f.0 then Some 0 else None) 1 es f))

last_of-front : (e : Entry) (es : List Entry) (f : FieldNo) → last_of (e ∷ es) f ≡ later (if e.field.0 == f.0 then Some 0 else None) 1 (last_of es f)
last_of-front e es f = last_from-later (if e.field.0 == f.0 then Some 0 else None) 1 es f

-- it is there

within_front : (n : ℕ) (b : Bool) (o : Option ℕ) (k : ℕ) → ((j : ℕ) → o ≡ Some j → j < n) → later (if b then Some 0 else None) 1 o ≡ Some k → k < suc n
within_front n true None k below is = let same : 0 ≡ k = cc in omega arith
within_front n false None k below is = cc
within_front n b (Some j) k below is = let same : 1 + j ≡ k = cc in omega (arith, below j refl)

pub last_within : (es : List Entry) (f : FieldNo) (k : ℕ) → last_of es f ≡ Some k → k < length es
last_within [] f k is = cc
last_within (e ∷ es) f k is =
    within_front (length es) (e.field.0 == f.0) (last_of es f) k (λ j at. last_within es f j at) (sym (last_of-front e es f) ∙ is)

-- ---- the value

-- what a field holds by its last entry, or else from before
abbrev value_by : Value → List Entry → Option ℕ → Value
value_by v es None = v
value_by v es (Some at) = value_at es at

value_by-front : (v : Value) (e : Entry) (es : List Entry) (b : Bool) (o : Option ℕ)
    → value_by (if b then e.to else v) es o ≡ value_by v (e ∷ es) (later (if b then Some 0 else None) 1 o)
value_by-front v e es true None = refl
value_by-front v e es false None = refl
value_by-front v e es b (Some k) = let next : suc k ≡ 1 + k = omega arith in ap (value_at (e ∷ es)) next

value_after-last : (v : Value) (es : List Entry) (f : FieldNo) → value_after v es f ≡ value_by v es (last_of es f)
value_after-last v [] f = refl
value_after-last v (e ∷ es) f =
    value_after-last (if e.field.0 == f.0 then e.to else v) es f
    ∙ value_by-front v e es (e.field.0 == f.0) (last_of es f)
    ∙ ap (value_by v (e ∷ es)) (sym (last_of-front e es f))

present-last : (h : History) (f : FieldNo) (o : Option ℕ) → last_of h.entries f ≡ o → value_by (opening_value h.opening f) h.entries o ≡ present h f
present-last h f o is =
    ap (value_by (opening_value h.opening f) h.entries) (sym is) ∙ sym (value_after-last (opening_value h.opening f) h.entries f)

pub present-changed : (h : History) (f : FieldNo) (at : ℕ) → last_of h.entries f ≡ Some at → value_at h.entries at ≡ present h f
present-changed h f at is = present-last h f (Some at) is

pub present-opened : (h : History) (f : FieldNo) → last_of h.entries f ≡ None → opening_value h.opening f ≡ present h f
present-opened h f is = present-last h f None is

-- ---- the first entry of a field

none_by : (place k : ℕ) (es : List Entry) (f : FieldNo) (b : Bool) → (if b then Some place else first_from (place + 1) es f) ≡ Some (place + suc k)
    → (first_from (place + 1) es f ≡ Some (place + 1 + k) → last_from None (place + 1) (take k es) f ≡ None)
    → last_from (if b then Some place else None) (place + 1) (take k es) f ≡ None
none_by place k es f true is more = let both : place ≡ place + suc k = cc in absurd (omega arith)
none_by place k es f false is more = more (is ∙ ap (λ j. Some j) (omega arith))

none_before : (place k : ℕ) (es : List Entry) (f : FieldNo) → first_from place es f ≡ Some (place + k) → last_from None place (take k es) f ≡ None
none_before place zero es f is = refl
none_before place (suc k) [] f is = refl
none_before place (suc k) (e ∷ es) f is = none_by place k es f (e.field.0 == f.0) is (λ later. none_before (place + 1) k es f later)

numbered : (o : Option ℕ) (k : ℕ) → number o ≡ k + 1 → o ≡ Some k
numbered None k is = absurd (omega (arith, is))
numbered (Some j) k is = ap (λ i. Some i) (omega (arith, is))

bounded : (o : Option Bounds) (k : ℕ) (P : Type 0) → first_in o ≡ k + 1 → ((b : Bounds) → o ≡ Some b → b.first ≡ k + 1 → P) → P
bounded None k P is more = absurd (omega (arith, is))
bounded (Some b) k P is more = more b refl is

-- no entry of the field comes before its first one
pub none_before-first : (es : List Entry) (spots : Spots) (k : ℕ) (o : Option Entry) → AreSpots es spots
    → IfSome o (λ (e : Entry). first_in (slice_get spots.bounds e.field.0) ≡ k + 1) → before_of es o k ≡ None
none_before-first es spots k None are first = refl
none_before-first es spots k (Some e) are first =
    bounded (slice_get spots.bounds e.field.0) k (last_of (take k es) e.field ≡ None) first
    (λ b there is. none_before 0 k es e.field (numbered (first_of es e.field) k (sym (are.first e.field b there) ∙ is) ∙ ap (λ j. Some j) (omega arith)))

from_before : (values : FieldNo → Value) (es : List Entry) (k : ℕ) (e : Entry) → AreChanges values es → slice_get es k ≡ Some e → e.from ≡ values_after values (take k es) e.field
from_before values [] k e are there = cc
from_before values (x ∷ es) zero e are there =
    let same : x ≡ e = cc in
    subst (λ (y : Entry). y.from ≡ values y.field) same are.0
from_before values (x ∷ es) (suc k) e are there = from_before (put_value values x) es k e are.2 there

-- it goes from what the field was opened with
pub from_opening : (h : History) (k : ℕ) (e : Entry) → IsHistory h → slice_get h.entries k ≡ Some e → before_of h.entries (slice_get h.entries k) k ≡ None
    → e.from ≡ opening_value h.opening e.field
from_opening h k e is there none =
    let before : last_of (take k h.entries) e.field ≡ None = ap (λ (o : Option Entry). before_of h.entries o k) (sym there) ∙ none in
    from_before (opening_value h.opening) h.entries k e is.changes there
    ∙ values_after-value (opening_value h.opening) (take k h.entries) e.field
    ∙ value_after-last (opening_value h.opening e.field) (take k h.entries) e.field
    ∙ ap (value_by (opening_value h.opening e.field) (take k h.entries)) before
