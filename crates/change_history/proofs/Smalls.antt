-- Small values, as fields are set.
use Rattle.std.proofs.Common.{◌≡◌, ◌==◌, ℕ, zero, suc, List, [], ◌∷◌, ◌++◌, replicate, Bool, true, false, Some, IfSome, refl, sym, ap, ◌∙◌}
use Rattle.std.specs.Prelude.{slice_get, if◌then◌else◌}
use Rattle.std.proofs.lemmas.Bool.{eqb-true}
use Rattle.field_values.specs.declared.numbers.FieldNo.{FieldNo}
use Rattle.field_values.specs.declared.value.Value.{Value}
use Rattle.field_values.specs.declared.value.Value.TheVariants as value
use Rattle.change_history.specs.declared.entry.Entry.{Entry}
use Rattle.change_history.specs.declared.small.Small.{Small}
use Rattle.change_history.specs.declared.small.Small.TheVariants.{Empty}
use Rattle.change_history.specs.History.{History, present, opening_value, value_after, values_after, put_value}
use Rattle.change_history.specs.Small.{small_of, small_value, small_after, set_small, AreSmall}
use Rattle.change_history.proofs.Adding.{values_after-value}
use Rattle.change_history.proofs.Cells.{set_read, set_other, apart}

-- a small value of a value is none other
pub small_value-of : (v : Value) → IfSome (small_value (small_of v)) (λ w. w ≡ v)
small_value-of value.Empty = refl
small_value-of (value.Text text) = tt
small_value-of (value.Number number) = refl
small_value-of (value.Choice place) = refl
small_value-of (value.User user) = refl
small_value-of (value.Date day) = refl
small_value-of (value.Set choices) = tt
small_value-of (value.Labels labels) = tt
small_value-of (value.Sprint sprint) = refl

set_by : (values : FieldNo → Value) (small : List Small) (f g : FieldNo) (v : Value) (s : Small) (b : Bool) → (f.0 == g.0) ≡ b
    → AreSmall values small → slice_get (set_small small f v) g.0 ≡ Some s → s ≡ small_of (if b then v else values g)
set_by values small f g v s true same are read =
    set_read small f.0 (small_of v) s (ap (slice_get (set_small small f v)) (eqb-true f.0 g.0 same) ∙ read)
set_by values small f g v s false other are read = are g s (sym (set_other small f.0 (small_of v) g.0 (apart f.0 g.0 other)) ∙ read)

pub set_small-are : (values : FieldNo → Value) (small : List Small) (f : FieldNo) (v : Value) → AreSmall values small
    → AreSmall (λ g. if f.0 == g.0 then v else values g) (set_small small f v)
set_small-are values small f v are g s read = set_by values small f g v s (f.0 == g.0) refl are read

small_after-are : (values : FieldNo → Value) (small : List Small) (es : List Entry) → AreSmall values small → AreSmall (values_after values es) (small_after small es)
small_after-are values small [] are = are
small_after-are values small (e ∷ es) are =
    small_after-are (put_value values e) (set_small small e.field e.to) es (set_small-are values small e.field e.to are)

-- those of a history with some entries more
value_after-append : (v : Value) (xs ys : List Entry) (f : FieldNo) → value_after v (xs ++ ys) f ≡ value_after (value_after v xs f) ys f
value_after-append v [] ys f = refl
value_after-append v (x ∷ xs) ys f = value_after-append (if x.field.0 == f.0 then x.to else v) xs ys f

pub small-add : (h : History) (small : List Small) (es : List Entry) → AreSmall (present h) small
    → AreSmall (present (record h { entries = h.entries ++ es })) (small_after small es)
small-add h small es are f s read =
    small_after-are (present h) small es are f s read
    ∙ ap small_of (values_after-value (present h) es f ∙ sym (value_after-append (opening_value h.opening f) h.entries es f))

-- those of no change
pub empty_small : (n : ℕ) → AreSmall (opening_value []) (replicate n Empty)
empty_small zero f s read = cc
empty_small (suc n) f s read = empty_read (suc n) f.0 s read
  where
    empty_read : (n i : ℕ) (s : Small) → slice_get (replicate n Empty) i ≡ Some s → s ≡ Empty
    empty_read zero i s read = cc
    empty_read (suc n) zero s read = cc
    empty_read (suc n) (suc i) s read = empty_read n i s read
