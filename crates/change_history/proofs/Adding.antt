-- A group that may be added keeps a history a history.
use Rattle.std.proofs.Common.{◌≡◌, ◌==◌, ℕ, ◌+◌, ◌<◌, ◌≤◌, List, [], ◌∷◌, ◌++◌, length, Bool, true, false, refl, sym, ◌∙◌, subst, arith, inl, inr}
use Rattle.std.proofs.lemmas.Bool.{eqb-true}
use Rattle.field_values.specs.declared.numbers.UserNo.{UserNo}
use Rattle.field_values.specs.declared.numbers.FieldNo.{FieldNo}
use Rattle.field_values.specs.declared.value.Value.{Value}
use Rattle.change_history.specs.declared.entry.Entry.{Entry}
use Rattle.change_history.specs.History.{History, present, value_after, opening_value, values_after, put_value, AreChanges, FollowEachOther, AreInOrder, IsHistory, AreGroupEntries, MayAdd, last_change, last_moment}

pub values_after-value : (values : FieldNo → Value) (es : List Entry) (f : FieldNo) → values_after values es f ≡ value_after (values f) es f
values_after-value values [] f = refl
values_after-value values (e ∷ es) f = values_after-value (put_value values e) es f

pub AreChanges-append : (values : FieldNo → Value) (xs ys : List Entry) → AreChanges values xs → AreChanges (values_after values xs) ys → AreChanges values (xs ++ ys)
AreChanges-append values [] ys one two = two
AreChanges-append values (x ∷ xs) ys one two = (one.0, one.1, AreChanges-append (put_value values x) xs ys one.2 two)

apart : (a b : ℕ) (t : Bool) → (a == b) ≡ t → a < b → t ≡ false
apart a b true e less = absurd (omega (arith, eqb-true a b e))
apart a b false e less = refl

pub put_value-other : (values : FieldNo → Value) (e : Entry) (f : FieldNo) → e.field.0 < f.0 → put_value values e f ≡ values f
put_value-other values e f less = rw (apart e.field.0 f.0 (e.field.0 == f.0) refl less)

-- two functions that agree from a field number on
pub AreChanges-group : (values now : FieldNo → Value) (low change at : ℕ) (author : UserNo) (es : List Entry)
    → ((f : FieldNo) → low ≤ f.0 → now f ≡ values f) → AreGroupEntries values low change at author es → AreChanges now es
AreChanges-group values now low change at author [] same group = tt
AreChanges-group values now low change at author (e ∷ es) same group = (
  group.4 ∙ sym (same e.field group.0),
  group.5,
  AreChanges-group values (put_value now e) (e.field.0 + 1) change at author es (λ f above. put_value-other now e f (omega arith) ∙ same f (omega (arith, group.0))) group.6,
)

follow_group : (values : FieldNo → Value) (low change at : ℕ) (author : UserNo) (e : Entry) (es : List Entry)
    → e.change ≡ change → e.at ≡ at → e.author ≡ author → e.field.0 < low → AreGroupEntries values low change at author es → FollowEachOther e es
follow_group values low change at author e [] c a u below group = tt
follow_group values low change at author e (f ∷ fs) c a u below group = (
  inl (group.1 ∙ sym c, group.2 ∙ sym a, group.3 ∙ sym u, omega (arith, group.0)),
  follow_group values (f.field.0 + 1) change at author f fs group.1 group.2 group.3 (omega arith) group.6,
)

follow-append : (last : Entry) (xs ys : List Entry) (values : FieldNo → Value) (change at : ℕ) (author : UserNo)
    → FollowEachOther last xs → last_change last.change xs < change → last_moment last.at xs ≤ at → AreGroupEntries values 0 change at author ys → FollowEachOther last (xs ++ ys)
follow-append last [] [] values change at author one greater later group = tt
follow-append last [] (y ∷ ys) values change at author one greater later group =
    (inr (omega (arith, group.1), omega (arith, group.2)), follow_group values (y.field.0 + 1) change at author y ys group.1 group.2 group.3 (omega arith) group.6)
follow-append last (x ∷ xs) ys values change at author one greater later group = (one.0, follow-append x xs ys values change at author one.1 greater later group)

pub AreInOrder-append : (start began : ℕ) (xs ys : List Entry) (values : FieldNo → Value) (change at : ℕ) (author : UserNo)
    → AreInOrder start began xs → last_change start xs < change → last_moment began xs ≤ at → AreGroupEntries values 0 change at author ys → AreInOrder start began (xs ++ ys)
AreInOrder-append start began [] [] values change at author one greater later group = tt
AreInOrder-append start began [] (y ∷ ys) values change at author one greater later group =
    (omega (arith, group.1), omega (arith, group.2), follow_group values (y.field.0 + 1) change at author y ys group.1 group.2 group.3 (omega arith) group.6)
AreInOrder-append start began (x ∷ xs) ys values change at author one greater later group = (one.0, one.1, follow-append x xs ys values change at author one.2 greater later group)

-- a history without entries
pub IsHistory-new : (h : History) → h.entries ≡ [] → IsHistory h
IsHistory-new h none = record {
  changes = subst (λ (es : List Entry). AreChanges (opening_value h.opening) es) (sym none) tt;
  order = subst (λ (es : List Entry). AreInOrder h.change h.at es) (sym none) tt;
}

-- the history with a group more
pub IsHistory-add : (h : History) (change at : ℕ) (author : UserNo) (entries : List Entry) → IsHistory h → MayAdd h change at author entries → IsHistory (record h { entries = h.entries ++ entries })
IsHistory-add h change at author entries is may = record {
  changes = AreChanges-append (opening_value h.opening) h.entries entries is.changes
      (AreChanges-group (present h) (values_after (opening_value h.opening) h.entries) 0 change at author entries (λ f above. values_after-value (opening_value h.opening) h.entries f) may.group);
  order = AreInOrder-append h.change h.at h.entries entries (present h) change at author is.order may.greater may.later may.group;
}

-- the moment of a group is the last one after it
pub last_moment-group : (values : FieldNo → Value) (low change at began : ℕ) (author : UserNo) (xs es : List Entry) → 0 < length es → AreGroupEntries values low change at author es
    → last_moment began (xs ++ es) ≡ at
last_moment-group values low change at began author (x ∷ xs) es some group = last_moment-group values low change at x.at author xs es some group
last_moment-group values low change at began author [] [] some group = absurd (omega arith)
last_moment-group values low change at began author [] (e ∷ []) some group = group.2
last_moment-group values low change at began author [] (e ∷ f ∷ fs) some group = last_moment-group values (e.field.0 + 1) change at e.at author [] (f ∷ fs) (omega arith) group.6
