-- The numbers of changes stay in order as a creation or a group comes.
use Rattle.std.proofs.Common.{◌≡◌, ◌==◌, ℕ, zero, suc, ◌+◌, ◌<◌, ◌≤◌, List, [], ◌∷◌, ◌++◌, length, slice_get, set, Bool, true, false, Some, unwrap_or, refl, sym, ap, ◌∙◌, subst, arith, inl, inr}
use Rattle.std.specs.Prelude.{◌⊎◌, if◌then◌else◌}
use Rattle.std.proofs.lemmas.Bool.{eqb-true}
use Rattle.std.proofs.lemmas.List.Sums.{sum_by_push, sum_by-set, sum_by-cons}
use Rattle.std.proofs.lemmas.Option.{slice_get_within, get_or_from_slice_get}
use Rattle.std.proofs.Common.{get_or}
use Rattle.field_values.specs.declared.numbers.FieldNo.{FieldNo}
use Rattle.field_values.specs.declared.numbers.UserNo.{UserNo}
use Rattle.field_values.specs.declared.value.Value.{Value}
use Rattle.change_history.specs.declared.entry.Entry.{Entry}
use Rattle.change_history.specs.History.{History, present, last_change, AreGroupEntries, MayAdd}
use Rattle.tracker_machine.specs.Checks.{entries_kept}
use Rattle.tracker_machine.specs.Chronicle.{HasEntry, IsChangeOf, IsChangeAt, IsChronicle, groups_in, groups_kept}

-- ---- what stands at a place

same_some : {A : Type 0} (x y : A) → Some x ≡ Some y → y ≡ x
same_some x y e = sym (ap (λ o. unwrap_or o x) e)

-- of a list with one more
pushed_at : {A : Type 0} (xs : List A) (x : A) (k : ℕ) (y : A) → slice_get (xs ++ x ∷ []) k ≡ Some y → (slice_get xs k ≡ Some y) ⊎ ((k ≡ length xs) × (y ≡ x))
pushed_at [] x zero y is = inr (refl, same_some x y is)
pushed_at [] x (suc k) y is = absurd (cc)
pushed_at (z ∷ xs) x zero y is = inl is
pushed_at (z ∷ xs) x (suc k) y is = elim (pushed_at xs x k y is) [ inl old ↦ inl old | inr new ↦ inr (omega (arith, new.0), new.1) ]

-- of a list with another at a place
put_at : {A : Type 0} (xs : List A) (at : ℕ) (x : A) (k : ℕ) (y : A) → slice_get (set xs at x) k ≡ Some y → (slice_get xs k ≡ Some y) ⊎ ((k ≡ at) × (y ≡ x))
put_at [] at x k y is = absurd (cc)
put_at (z ∷ xs) zero x zero y is = inr (refl, same_some x y is)
put_at (z ∷ xs) zero x (suc k) y is = inl is
put_at (z ∷ xs) (suc at) x zero y is = inl is
put_at (z ∷ xs) (suc at) x (suc k) y is = elim (put_at xs at x k y is) [ inl old ↦ inl old | inr new ↦ inr (omega (arith, new.0), new.1) ]

-- ---- one change more

module _ (old new : List History) (moment change place : ℕ) (is : IsChronicle old moment change) where
  -- it is the next one, of the issue at a place, now
  abbrev IsNext : ℕ → ℕ → ℕ → Type 0
  IsNext k n at = (k ≡ place) × (n ≡ change + 1) × (at ≡ moment)

  abbrev Was : ℕ → ℕ → ℕ → Type 0
  Was k n at = IsChangeAt old k n at ⊎ IsNext k n at

  known_of : (k n at : ℕ) → Was k n at → (1 ≤ n) × (n ≤ change + 1) × (at ≤ moment)
  known_of k n at (inl was) = let h = is.known k n at was in (h.0, omega (arith, h.1), h.2)
  known_of k n at (inr now) = (omega (arith, now.1), omega (arith, now.1), omega (arith, now.2))

  once_of : (j k n a b : ℕ) → Was j n a → Was k n b → j ≡ k
  once_of j k n a b (inl one) (inl other) = is.once j k n a b one other
  once_of j k n a b (inl one) (inr now) = absurd (omega (arith, now.1, (is.known j n a one).1))
  once_of j k n a b (inr now) (inl other) = absurd (omega (arith, now.1, (is.known k n b other).1))
  once_of j k n a b (inr now) (inr also) = now.0 ∙ sym also.0

  later_of : (j k m n a b : ℕ) → Was j m a → Was k n b → m < n → a ≤ b
  later_of j k m n a b (inl one) (inl other) less = is.later j k m n a b one other less
  later_of j k m n a b (inl one) (inr now) less = omega (arith, now.2, (is.known j m a one).2)
  later_of j k m n a b (inr now) (inl other) less = absurd (omega (arith, now.1, (is.known k n b other).1, less))
  later_of j k m n a b (inr now) (inr also) less = omega (arith, now.2, also.2)

  pub chronicle_next : ((k n at : ℕ) → IsChangeAt new k n at → Was k n at) → IsChronicle new moment (change + 1)
  chronicle_next from = record {
    known = λ k n at one. known_of k n at (from k n at one);
    once = λ j k n a b one other. once_of j k n a b (from j n a one) (from k n b other);
    later = λ j k m n a b one other less. later_of j k m n a b (from j m a one) (from k n b other) less;
  }

-- now is later
pub chronicle_later : (histories : List History) (moment now change : ℕ) → moment ≤ now → IsChronicle histories moment change → IsChronicle histories now change
chronicle_later histories moment now change later is = record {
  known = λ k n at one. let h = is.known k n at one in (h.0, h.1, omega (arith, h.2, later));
  once = is.once;
  later = is.later;
}

nothing_at : (k n at : ℕ) → IsChangeAt [] k n at → ⊥
nothing_at k n at one = cc (one.1)

pub chronicle_nil : (moment change : ℕ) → IsChronicle [] moment change
chronicle_nil moment change = record {
  known = λ k n at one. absurd (nothing_at k n at one);
  once = λ j k n a b one other. absurd (nothing_at j n a one);
  later = λ j k m n a b one other less. absurd (nothing_at j m a one);
}

-- ---- a creation

created_of : (h : History) (n at moment change : ℕ) → h.change ≡ change + 1 → h.at ≡ moment → h.entries ≡ [] → IsChangeOf h n at → (n ≡ change + 1) × (at ≡ moment)
created_of h n at moment change number now none (inl own) = (sym own.0 ∙ number, sym own.1 ∙ now)
created_of h n at moment change number now none (inr one) = absurd (subst (λ es. HasEntry es n at) none one)

pub change_pushed : (hs : List History) (h : History) (moment change : ℕ) → h.change ≡ change + 1 → h.at ≡ moment → h.entries ≡ [] → (k n at : ℕ) → IsChangeAt (hs ++ h ∷ []) k n at
    → IsChangeAt hs k n at ⊎ ((k ≡ length hs) × (n ≡ change + 1) × (at ≡ moment))
change_pushed hs h moment change number now none k n at (g, there, is) = elim (pushed_at hs h k g there) [
  | inl old ↦ inl (g, old, is)
  | inr new ↦ let own = created_of h n at moment change number now none (subst (λ i. IsChangeOf i n at) new.1 is) in inr (new.0, own.0, own.1)
]

-- ---- a group

entry_in : (xs es : List Entry) (n at : ℕ) → HasEntry (xs ++ es) n at → HasEntry xs n at ⊎ HasEntry es n at
entry_in [] es n at has = inr has
entry_in (x ∷ xs) es n at (inl here) = inl (inl here)
entry_in (x ∷ xs) es n at (inr behind) = elim (entry_in xs es n at behind) [ inl old ↦ inl (inr old) | inr new ↦ inr new ]

group_entry : (values : FieldNo → Value) (low change moment : ℕ) (author : UserNo) (es : List Entry) (n at : ℕ) → AreGroupEntries values low change moment author es → HasEntry es n at
    → (n ≡ change) × (at ≡ moment)
group_entry values low change moment author [] n at group has = absurd has
group_entry values low change moment author (e ∷ es) n at group (inl here) = (sym here.0 ∙ group.1, sym here.1 ∙ group.2)
group_entry values low change moment author (e ∷ es) n at group (inr behind) = group_entry values (e.field.0 + 1) change moment author es n at group.6 behind

added_of : (h : History) (change moment : ℕ) (author : UserNo) (es : List Entry) (n at : ℕ) → AreGroupEntries (present h) 0 change moment author es
    → IsChangeOf (record h { entries = h.entries ++ es }) n at → IsChangeOf h n at ⊎ ((n ≡ change) × (at ≡ moment))
added_of h change moment author es n at group (inl own) = inl (inl own)
added_of h change moment author es n at group (inr one) = elim (entry_in h.entries es n at one) [
  | inl old ↦ inl (inr old)
  | inr new ↦ inr (group_entry (present h) 0 change moment author es n at group new)
]

pub change_added : (hs : List History) (place : ℕ) (h : History) (moment change : ℕ) (author : UserNo) (es : List Entry) → slice_get hs place ≡ Some h
    → AreGroupEntries (present h) 0 (change + 1) moment author es → (k n at : ℕ) → IsChangeAt (set hs place (record h { entries = h.entries ++ es })) k n at
    → IsChangeAt hs k n at ⊎ ((k ≡ place) × (n ≡ change + 1) × (at ≡ moment))
change_added hs place h moment change author es here group k n at (g, there, is) = elim (put_at hs place (record h { entries = h.entries ++ es }) k g there) [
  | inl old ↦ inl (g, old, is)
  | inr new ↦ elim (added_of h (change + 1) moment author es n at group (subst (λ i. IsChangeOf i n at) new.1 is)) [
    | inl old ↦ inl (h, subst (λ j. slice_get hs j ≡ Some h) (sym new.0) here, old)
    | inr now ↦ inr (new.0, now.0, now.1)
  ]
]

-- ---- how many groups there are

groups_in-append : (last : ℕ) (xs es : List Entry) → groups_in last (xs ++ es) ≡ groups_in last xs + groups_in (last_change last xs) es
groups_in-append last [] es = omega arith
groups_in-append last (x ∷ xs) es = omega (arith, groups_in-append x.change xs es)

one_new : (b : Bool) (n last change more : ℕ) → (n == last) ≡ b → n ≡ change → last < change → 1 ≤ (if b then 0 else 1) + more
one_new true n last change more e is less = absurd (omega (arith, eqb-true n last e, is))
one_new false n last change more e is less = omega arith

-- a group is one more
group_counts : (values : FieldNo → Value) (low change moment last : ℕ) (author : UserNo) (es : List Entry) → 0 < length es → last < change → AreGroupEntries values low change moment author es → 1 ≤ groups_in last es
group_counts values low change moment last author [] some less group = absurd (omega arith)
group_counts values low change moment last author (e ∷ es) some less group = one_new (e.change == last) e.change last change (groups_in e.change es) refl group.1 less

pub groups_more : (h : History) (change moment : ℕ) (author : UserNo) (es : List Entry) → MayAdd h change moment author es → groups_in h.change h.entries + 1 ≤ groups_in h.change (h.entries ++ es)
groups_more h change moment author es may =
    omega (arith, groups_in-append h.change h.entries es, group_counts (present h) 0 change moment (last_change h.change h.entries) author es may.some may.greater may.group)

pub groups_kept-push : (hs : List History) (h : History) → groups_kept (hs ++ h ∷ []) ≡ groups_kept hs + groups_in h.change h.entries
groups_kept-push hs h = sum_by_push (λ (i : History). groups_in i.change i.entries) hs h

pub groups_kept-set : (hs : List History) (k : ℕ) (old new : History) → slice_get hs k ≡ Some old → groups_kept (set hs k new) + groups_in old.change old.entries ≡ groups_kept hs + groups_in new.change new.entries
groups_kept-set hs k old new at =
    let f : History → ℕ = λ i. groups_in i.change i.entries in
    let here : f (get_or hs k old) ≡ f old = ap f (get_or_from_slice_get hs k old old at) in
    omega (arith, sum_by-set f hs k new old (slice_get_within hs k old at), here)

few_more : (b : Bool) (m n : ℕ) → m ≤ n → (if b then 0 else 1) + m ≤ n + 1
few_more true m n le = omega (arith, le)
few_more false m n le = omega (arith, le)

few_groups_in : (last : ℕ) (es : List Entry) → groups_in last es ≤ length es
few_groups_in last [] = omega arith
few_groups_in last (e ∷ es) = omega (arith, few_more (e.change == last) (groups_in e.change es) (length es) (few_groups_in e.change es))

-- each group has an entry
pub few_groups : (hs : List History) → groups_kept hs ≤ entries_kept hs
few_groups [] = omega arith
few_groups (h ∷ hs) =
    omega (arith, sum_by-cons (λ (i : History). groups_in i.change i.entries) h hs, sum_by-cons (λ (i : History). length i.entries) h hs, few_groups_in h.change h.entries, few_groups hs)
