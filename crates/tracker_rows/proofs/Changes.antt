-- A creation or a change group that is read agrees with the changes before it.
use Rattle.std.proofs.Common.{◌≡◌, ℕ, ◌+◌, ◌-◌, ◌<◌, ◌≤◌, ◌⊎◌, inl, inr, List, [], ◌∷◌, ◌++◌, length, slice_get, set, Some, refl, sym, ◌∙◌, subst, arith}
use Rattle.field_values.specs.declared.numbers.UserNo.{UserNo}
use Rattle.change_history.specs.declared.entry.Entry.{Entry}
use Rattle.change_history.specs.History.{History, present, last_change, last_moment, updated, AreGroupEntries}
use Rattle.tracker_machine.specs.Machine.{Machine}
use Rattle.tracker_machine.specs.Chronicle.{HasEntry, IsChangeOf, IsChangeAt, IsChronicle}
use Rattle.tracker_machine.proofs.Chronicle.{change_pushed, change_added}
use Rattle.tracker_rows.specs.Rules.{IsInTurn}

module _ (m : Machine) (new : List History) (change at place : ℕ) (is : IsChronicle m.histories m.moment m.change) (turn : IsInTurn m change at) (positive : 1 ≤ change) where
  abbrev IsNew : ℕ → ℕ → ℕ → Type 0
  IsNew k n a = (k ≡ place) × (n ≡ change) × (a ≡ at)

  abbrev Was : ℕ → ℕ → ℕ → Type 0
  Was k n a = IsChangeAt m.histories k n a ⊎ IsNew k n a

  known_of : (k n a : ℕ) → Was k n a → (1 ≤ n) × (n ≤ m.change) × (a ≤ m.moment)
  known_of k n a (inl was) = is.known k n a was
  known_of k n a (inr now) = (omega (arith, now.1, positive), omega (arith, now.1, turn.counted), omega (arith, now.2, turn.timely))

  once_of : (j k n a b : ℕ) → Was j n a → Was k n b → j ≡ k
  once_of j k n a b (inl one) (inl other) = is.once j k n a b one other
  once_of j k n a b (inl one) (inr now) = absurd (turn.once j n a one now.1)
  once_of j k n a b (inr now) (inl other) = absurd (turn.once k n b other now.1)
  once_of j k n a b (inr now) (inr also) = now.0 ∙ sym also.0

  later_of : (j k m' n a b : ℕ) → Was j m' a → Was k n b → m' < n → a ≤ b
  later_of j k m' n a b (inl one) (inl other) less = is.later j k m' n a b one other less
  later_of j k m' n a b (inl one) (inr now) less =
      let early = turn.later j m' a one (omega (arith, less, now.1)) in omega (arith, early, now.2)
  later_of j k m' n a b (inr now) (inl other) less =
      let late = turn.earlier k n b other (omega (arith, less, now.1)) in omega (arith, late, now.2)
  later_of j k m' n a b (inr now) (inr also) less = absurd (omega (arith, less, now.1, also.1))

  pub chronicle_with : ((k n a : ℕ) → IsChangeAt new k n a → Was k n a) → IsChronicle new m.moment m.change
  chronicle_with from = record {
    known = λ k n a one. known_of k n a (from k n a one);
    once = λ j k n a b one other. once_of j k n a b (from j n a one) (from k n b other);
    later = λ j k m' n a b one other less. later_of j k m' n a b (from j m' a one) (from k n b other) less;
  }

-- the number before it
before_is : (change : ℕ) → 1 ≤ change → change ≡ change - 1 + 1
before_is change positive = omega (arith, positive)

-- a creation is a change more
pub creation_more : (hs : List History) (h : History) → 1 ≤ h.change → h.entries ≡ [] → (k n a : ℕ) → IsChangeAt (hs ++ h ∷ []) k n a
    → IsChangeAt hs k n a ⊎ ((k ≡ length hs) × (n ≡ h.change) × (a ≡ h.at))
creation_more hs h positive none k n a one = elim (change_pushed hs h h.at (h.change - 1) (before_is h.change positive) refl none k n a one) [
  | inl old ↦ inl old
  | inr new ↦ inr (new.0, new.1 ∙ sym (before_is h.change positive), new.2)
]

-- so is a group
pub group_more : (hs : List History) (place : ℕ) (h : History) (change at : ℕ) (author : UserNo) (es : List Entry) → 1 ≤ change → slice_get hs place ≡ Some h
    → AreGroupEntries (present h) 0 change at author es → (k n a : ℕ) → IsChangeAt (set hs place (record h { entries = h.entries ++ es })) k n a
    → IsChangeAt hs k n a ⊎ ((k ≡ place) × (n ≡ change) × (a ≡ at))
group_more hs place h change at author es positive there group k n a one =
    elim (change_added hs place h at (change - 1) author es there (subst (λ c. AreGroupEntries (present h) 0 c at author es) (before_is change positive) group) k n a one) [
      | inl old ↦ inl old
      | inr new ↦ inr (new.0, new.1 ∙ sym (before_is change positive), new.2)
    ]

-- ---- the last change of an issue

-- it is one of the entries, or the one before them all
last_is : (change at : ℕ) (es : List Entry) → ((last_change change es ≡ change) × (last_moment at es ≡ at)) ⊎ HasEntry es (last_change change es) (last_moment at es)
last_is change at [] = inl (refl, refl)
last_is change at (e ∷ es) = elim (last_is e.change e.at es) [
  | inl own ↦ inr (inl (sym own.0, sym own.1))
  | inr behind ↦ inr (inr behind)
]

pub last_of_issue : (h : History) → IsChangeOf h (last_change h.change h.entries) (updated h)
last_of_issue h = elim (last_is h.change h.at h.entries) [
  | inl own ↦ inl (sym own.0, sym own.1)
  | inr entry ↦ inr entry
]

pub last_less : (h : History) (change : ℕ) → h.change < change → ((n a : ℕ) → HasEntry h.entries n a → n < change) → last_change h.change h.entries < change
last_less h change own entries = elim (last_is h.change h.at h.entries) [
  | inl is ↦ omega (arith, is.0, own)
  | inr entry ↦ entries (last_change h.change h.entries) (updated h) entry
]
