-- Creations and change groups in turn.
use Rattle.std.proofs.Common.{◌≡◌, ◌≢◌, ℕ, zero, suc, ◌+◌, ◌-◌, ◌<◌, ◌≤◌, ◌⊎◌, inl, inr, nat_lt, true, false, List, [], ◌∷◌, ◌++◌, length, slice_get, get_or, set, map, Some, option_map, refl, sym, ◌∙◌, ap, subst, arith}
use Rattle.std.specs.List.{All}
use Rattle.std.specs.List.Sorted.{IsNonDecreasingBy, IsPartitionPoint}
use Rattle.std.proofs.lemmas.Bool.{cases_lt}
use Rattle.std.proofs.lemmas.Bool.Decides.{nat_tests}
use Rattle.std.proofs.lemmas.List.{length-map}
use Rattle.std.proofs.lemmas.Option.{none-some, same_Some, slice_get-map, slice_get-get_or, slice_get_within, slice_get_read, get_or_from_slice_get}
use Rattle.field_values.specs.declared.numbers.FieldNo.{FieldNo}
use Rattle.field_values.specs.declared.numbers.UserNo.{UserNo}
use Rattle.field_values.specs.declared.value.Value.{Value}
use Rattle.change_history.specs.declared.entry.Entry.{Entry}
use Rattle.change_history.specs.History.{History, RoomyHistory, AreGroupEntries}
use Rattle.tracker_machine.specs.Chronicle.{HasEntry, IsChangeOf}
use Rattle.tracker_loading.specs.Turns.{AreCreatedInTurn, IsBehindGroups, IsGroupMoment, IsPlaceOf, IsNotBefore, IsNotBehind, HasItsTurn}

abbrev histories_of : List RoomyHistory → List History
histories_of issues = map (λ i. i.history) issues

-- ---- what stands at a place

pub history_here : (is : List RoomyHistory) (k : ℕ) (i : RoomyHistory) → slice_get is k ≡ Some i → slice_get (histories_of is) k ≡ Some i.history
history_here is k i at = slice_get-map (λ (i : RoomyHistory). i.history) is k ∙ ap (λ o. option_map (λ (i : RoomyHistory). i.history) o) at

pub issue_here : (is : List RoomyHistory) (k : ℕ) (h : History) → slice_get (histories_of is) k ≡ Some h → (i : RoomyHistory) × (slice_get is k ≡ Some i) × (i.history ≡ h)
issue_here [] k h at = absurd (none-some h at)
issue_here (i ∷ is) zero h at = (i, refl, same_Some i.history h at)
issue_here (i ∷ is) (suc k) h at = issue_here is k h at

-- one more at the end
pub pushed : (hs : List History) (new h : History) (k : ℕ) → slice_get (hs ++ new ∷ []) k ≡ Some h → (slice_get hs k ≡ Some h) ⊎ ((h ≡ new) × (k ≡ length hs))
pushed [] new h zero at = inr (sym (same_Some new h at), refl)
pushed [] new h (suc k) at = absurd (none-some h at)
pushed (x ∷ xs) new h zero at = inl at
pushed (x ∷ xs) new h (suc k) at = elim (pushed xs new h k at) [ inl old ↦ inl old | inr is ↦ inr (is.0, ap suc is.1) ]

-- another at a place
pub replaced : (hs : List History) (j k : ℕ) (new h : History) → slice_get (set hs j new) k ≡ Some h → (slice_get hs k ≡ Some h) ⊎ ((h ≡ new) × (k ≡ j))
replaced [] j k new h at = absurd (none-some h at)
replaced (x ∷ xs) zero zero new h at = inr (sym (same_Some new h at), refl)
replaced (x ∷ xs) zero (suc k) new h at = inl at
replaced (x ∷ xs) (suc j) zero new h at = inl at
replaced (x ∷ xs) (suc j) (suc k) new h at = elim (replaced xs j k new h at) [ inl old ↦ inl old | inr is ↦ inr (is.0, ap suc is.1) ]

-- ---- the place of a change number

pub changes_rise : (is : List RoomyHistory) → AreCreatedInTurn (histories_of is) → IsNonDecreasingBy (λ i. i.history.change) is
changes_rise is turn j k d le lt = by (cases_lt j k)
  where
    by : (j < k) ⊎ (k ≤ j) → (get_or is j d).history.change ≤ (get_or is k d).history.change
    by (inl less) =
        let one = history_here is j (get_or is j d) (slice_get-get_or is j d (omega (arith, less, lt))) in
        let other = history_here is k (get_or is k d) (slice_get-get_or is k d lt) in
        let rise = (turn j k (get_or is j d).history (get_or is k d).history less one other).0 in
        omega (arith, rise)
    by (inr same) =
        let here : j ≡ k = omega (arith, same, le) in
        subst (λ n. (get_or is j d).history.change ≤ (get_or is n d).history.change) here (omega arith)

pub place_found : (is : List RoomyHistory) (change place : ℕ) → place ≤ length is
    → IsPartitionPoint (λ (i : RoomyHistory). nat_lt i.history.change change ≡ true) (λ (i : RoomyHistory). nat_lt i.history.change change ≡ false) is place
    → IsPlaceOf (histories_of is) change place
place_found is change place within point = record {
  within = omega (arith, within, length-map is (λ (i : RoomyHistory). i.history));
  before = λ k h less at.
      let found = issue_here is k h at in
      let i = found.0 in
      let test = subst (λ (x : RoomyHistory). nat_lt x.history.change change ≡ true) (get_or_from_slice_get is k i i found.1) (point.0 k i (omega arith) less) in
      let below : i.history.change < change = grind (arith, nat_tests, test) in
      subst (λ (g : History). g.change < change) found.2 below;
  behind = λ k h le at.
      let found = issue_here is k h at in
      let i = found.0 in
      let test = subst (λ (x : RoomyHistory). nat_lt x.history.change change ≡ false) (get_or_from_slice_get is k i i found.1) (point.1 k i le (slice_get_within is k i found.1)) in
      let above : change ≤ i.history.change = grind (arith, nat_tests, test) in
      subst (λ (g : History). change ≤ g.change) found.2 above;
}

-- ---- the issues before and behind a place

-- where the one before the place isn't later, none before it is
pub not_before : (hs : List History) (place at : ℕ) (last : History) → AreCreatedInTurn hs → slice_get hs place ≡ Some last → last.at ≤ at → IsNotBefore hs (suc place) at
not_before hs place at last turn there le k h less here = by (cases_lt k place)
  where
    by : (k < place) ⊎ (place ≤ k) → h.at ≤ at
    by (inl before) = let rise = (turn k place h last before here there).1 in omega (arith, rise, le)
    by (inr same) =
        let is : k ≡ place = omega (arith, same, less) in
        let own : h ≡ last = same_Some h last (sym here ∙ ap (slice_get hs) is ∙ there) in
        subst (λ (g : History). g.at ≤ at) (sym own) le

pub not_before_place : (is : List RoomyHistory) (place at : ℕ) (last : RoomyHistory) → AreCreatedInTurn (histories_of is) → 0 < place → place ≤ length is
    → last ≡ get_or is (place - 1) last → last.history.at ≤ at → IsNotBefore (histories_of is) place at
not_before_place is place at last turn some within here le =
    let found = slice_get_read is (length is) (place - 1) last refl (omega (arith, some, within)) here in
    let next : suc (place - 1) ≡ place = omega (arith, some) in
    subst (λ n. IsNotBefore (histories_of is) n at) next
    (not_before (histories_of is) (place - 1) at last.history turn (history_here is (place - 1) last found) le)

pub last_before : (is : List RoomyHistory) (place at : ℕ) (last : RoomyHistory) → 0 < place → place ≤ length is → last ≡ get_or is (place - 1) last
    → IsNotBefore (histories_of is) place at → last.history.at ≤ at
last_before is place at last some within here before =
    let found = slice_get_read is (length is) (place - 1) last refl (omega (arith, some, within)) here in
    before (place - 1) last.history (omega (arith, some)) (history_here is (place - 1) last found)

-- where the one at the place isn't earlier, none behind it is
pub not_behind : (hs : List History) (place change at : ℕ) (first : History) → AreCreatedInTurn hs → slice_get hs place ≡ Some first → change < first.change → at ≤ first.at
    → IsNotBehind hs place change at
not_behind hs place change at first turn there less le k h from here = by (cases_lt place k)
  where
    by : (place < k) ⊎ (k ≤ place) → (h.change ≢ change) × (at ≤ h.at)
    by (inl behind) =
        let rise = turn place k first h behind there here in
        (λ same. omega (arith, same, rise.0, less), omega (arith, rise.1, le))
    by (inr same) =
        let is : k ≡ place = omega (arith, same, from) in
        let own : h ≡ first = same_Some h first (sym here ∙ ap (slice_get hs) is ∙ there) in
        subst (λ (g : History). (g.change ≢ change) × (at ≤ g.at)) (sym own) (λ same. omega (arith, same, less), le)

-- none is there
pub none_behind : (hs : List History) (place change at : ℕ) → length hs ≤ place → IsNotBehind hs place change at
none_behind hs place change at past k h from here = let in' = slice_get_within hs k h here in absurd (omega (arith, in', past, from))

-- ---- a change's turn

pub turn_from : (hs : List History) (group_at change at place : ℕ) → IsGroupMoment hs group_at → IsBehindGroups hs change → IsPlaceOf hs change place
    → group_at ≤ at → IsNotBefore hs place at → IsNotBehind hs place change at → HasItsTurn hs change at
turn_from hs group_at change at place groups behind is le before after = record {
  once = λ k n a (h, here, own). once k n a h here own;
  later = λ k n a (h, here, own) less. later k n a h here own less;
  earlier = λ k n a (h, here, own) less. earlier k n a h here own less;
}
  where
    once : (k n a : ℕ) (h : History) → slice_get hs k ≡ Some h → IsChangeOf h n a → n ≢ change
    once k n a h here (inl own) = elim (cases_lt k place) [
      | inl less ↦ (let below = is.before k h less here in λ same. omega (arith, below, own.0, same))
      | inr from ↦ (let other = (after k h from here).0 in λ same. other (own.0 ∙ same))
    ]
    once k n a h here (inr entry) = let less = behind k n a h here entry in λ same. omega (arith, less, same)

    later : (k n a : ℕ) (h : History) → slice_get hs k ≡ Some h → IsChangeOf h n a → n < change → a ≤ at
    later k n a h here (inl own) less = elim (cases_lt k place) [
      | inl before_place ↦ (let early = before k h before_place here in omega (arith, early, own.1))
      | inr from ↦ (let above = is.behind k h from here in absurd (omega (arith, above, own.0, less)))
    ]
    later k n a h here (inr entry) less = let last = groups.last k n a h here entry in omega (arith, last, le)

    earlier : (k n a : ℕ) (h : History) → slice_get hs k ≡ Some h → IsChangeOf h n a → change < n → at ≤ a
    earlier k n a h here (inl own) less = elim (cases_lt k place) [
      | inl before_place ↦ (let below = is.before k h before_place here in absurd (omega (arith, below, own.0, less)))
      | inr from ↦ (let late = (after k h from here).1 in omega (arith, late, own.1))
    ]
    earlier k n a h here (inr entry) less = let below = behind k n a h here entry in absurd (omega (arith, below, less))

pub group_first : (hs : List History) (group_at change at : ℕ) → IsGroupMoment hs group_at → IsBehindGroups hs change → HasItsTurn hs change at → group_at ≤ at
group_first hs group_at change at groups behind turn = elim (cases_lt 0 group_at) [
  | inl some ↦ (let entry = groups.own some in
      turn.later entry.0 entry.1 group_at (entry.2, entry.3, inr entry.4) (behind entry.0 entry.1 group_at entry.2 entry.3 entry.4))
  | inr none ↦ omega (arith, none)
]

pub creations_before : (hs : List History) (change at place : ℕ) → IsPlaceOf hs change place → HasItsTurn hs change at → IsNotBefore hs place at
creations_before hs change at place is turn k h less here = turn.later k h.change h.at (h, here, inl (refl, refl)) (is.before k h less here)

pub creations_behind : (hs : List History) (change at place : ℕ) → IsPlaceOf hs change place → HasItsTurn hs change at → IsNotBehind hs place change at
creations_behind hs change at place is turn k h from here =
    let other : h.change ≢ change = turn.once k h.change h.at (h, here, inl (refl, refl)) in
    let above = is.behind k h from here in
    (other, turn.earlier k h.change h.at (h, here, inl (refl, refl)) (omega (arith, other, above)))

-- where the last issue has a smaller number, each has
pub last_rises : (is : List RoomyHistory) (last : RoomyHistory) (change : ℕ) → AreCreatedInTurn (histories_of is) → slice_get is (length is - 1) ≡ Some last
    → last.history.change < change → All (λ g. g.change < change) (histories_of is)
last_rises is last change turn there less k d lt = by (cases_lt k (length is - 1))
  where
    here : slice_get (histories_of is) k ≡ Some (get_or (histories_of is) k d)
    here = slice_get-get_or (histories_of is) k d lt

    own : slice_get (histories_of is) (length is - 1) ≡ Some last.history
    own = history_here is (length is - 1) last there

    by : (k < length is - 1) ⊎ (length is - 1 ≤ k) → (get_or (histories_of is) k d).change < change
    by (inl before) = let rise = (turn k (length is - 1) (get_or (histories_of is) k d) last.history before here own).0 in omega (arith, rise, less)
    by (inr from) =
        let place : k ≡ length is - 1 = omega (arith, from, lt, length-map is (λ (i : RoomyHistory). i.history)) in
        let same : get_or (histories_of is) k d ≡ last.history =
        same_Some (get_or (histories_of is) k d) last.history (sym here ∙ ap (slice_get (histories_of is)) place ∙ own) in
        subst (λ (h : History). h.change < change) (sym same) less

pub last_less : (is : List RoomyHistory) (last : RoomyHistory) (change : ℕ) → slice_get is (length is - 1) ≡ Some last
    → All (λ g. g.change < change) (histories_of is) → last.history.change < change
last_less is last change there all =
    let own : slice_get (histories_of is) (length is - 1) ≡ Some last.history = history_here is (length is - 1) last there in
    subst (λ (h : History). h.change < change) (get_or_from_slice_get (histories_of is) (length is - 1) last.history last.history own)
    (all (length is - 1) last.history (slice_get_within (histories_of is) (length is - 1) last.history own))

-- ---- one more

pub created_pushed : (hs : List History) (new : History) → AreCreatedInTurn hs → ((k : ℕ) (h : History) → slice_get hs k ≡ Some h → (h.change < new.change) × (h.at ≤ new.at))
    → AreCreatedInTurn (hs ++ new ∷ [])
created_pushed hs new turn last j k g h less one other = by (pushed hs new g j one) (pushed hs new h k other)
  where
    by : (slice_get hs j ≡ Some g) ⊎ ((g ≡ new) × (j ≡ length hs)) → (slice_get hs k ≡ Some h) ⊎ ((h ≡ new) × (k ≡ length hs)) → (g.change < h.change) × (g.at ≤ h.at)
    by (inl old) (inl also) = turn j k g h less old also
    by (inl old) (inr now) = subst (λ (i : History). (g.change < i.change) × (g.at ≤ i.at)) (sym now.0) (last j g old)
    by (inr now) (inl old) = let in' = slice_get_within hs k h old in absurd (omega (arith, in', now.1, less))
    by (inr now) (inr also) = absurd (omega (arith, now.1, also.1, less))

pub created_set : (hs : List History) (place : ℕ) (old new : History) → slice_get hs place ≡ Some old → new.change ≡ old.change → new.at ≡ old.at → AreCreatedInTurn hs
    → AreCreatedInTurn (set hs place new)
created_set hs place old new there change at turn j k g h less one other = by (replaced hs place j new g one) (replaced hs place k new h other)
  where
    by : (slice_get hs j ≡ Some g) ⊎ ((g ≡ new) × (j ≡ place)) → (slice_get hs k ≡ Some h) ⊎ ((h ≡ new) × (k ≡ place)) → (g.change < h.change) × (g.at ≤ h.at)
    by (inl was) (inl also) = turn j k g h less was also
    by (inl was) (inr now) =
        let rise = turn j place g old (omega (arith, less, now.1)) was there in
        subst (λ (i : History). (g.change < i.change) × (g.at ≤ i.at)) (sym now.0) (omega (arith, rise.0, change), omega (arith, rise.1, at))
    by (inr now) (inl was) =
        let rise = turn place k old h (omega (arith, less, now.1)) there was in
        subst (λ (i : History). (i.change < h.change) × (i.at ≤ h.at)) (sym now.0) (omega (arith, rise.0, change), omega (arith, rise.1, at))
    by (inr now) (inr also) = absurd (omega (arith, now.1, also.1, less))

pub moment_pushed : (hs : List History) (new : History) (at : ℕ) → new.entries ≡ [] → IsGroupMoment hs at → IsGroupMoment (hs ++ new ∷ []) at
moment_pushed hs new at none is = record {
  last = λ k n a h here has. elim (pushed hs new h k here) [
    | inl old ↦ is.last k n a h old has
    | inr now ↦ absurd (subst (λ es. HasEntry es n a) (ap (λ (g : History). g.entries) now.0 ∙ none) has)
  ];
  own = λ some. let entry = is.own some in (entry.0, entry.1, entry.2, kept hs entry.0 entry.2 entry.3, entry.4);
}
  where
    kept : (xs : List History) (k : ℕ) (h : History) → slice_get xs k ≡ Some h → slice_get (xs ++ new ∷ []) k ≡ Some h
    kept [] k h there = absurd (none-some h there)
    kept (x ∷ xs) zero h there = there
    kept (x ∷ xs) (suc k) h there = kept xs k h there

-- ---- a group more

entry_more : (xs es : List Entry) (n a : ℕ) → HasEntry (xs ++ es) n a → HasEntry xs n a ⊎ HasEntry es n a
entry_more [] es n a has = inr has
entry_more (x ∷ xs) es n a (inl here) = inl (inl here)
entry_more (x ∷ xs) es n a (inr behind) = elim (entry_more xs es n a behind) [ inl old ↦ inl (inr old) | inr new ↦ inr new ]

entry_behind : (xs es : List Entry) (n a : ℕ) → HasEntry es n a → HasEntry (xs ++ es) n a
entry_behind [] es n a has = has
entry_behind (x ∷ xs) es n a has = inr (entry_behind xs es n a has)

own_moment : (values : FieldNo → Value) (low change at : ℕ) (author : UserNo) (es : List Entry) (n a : ℕ) → AreGroupEntries values low change at author es → HasEntry es n a → a ≡ at
own_moment values low change at author [] n a are has = absurd has
own_moment values low change at author (e ∷ es) n a are (inl here) = sym here.1 ∙ are.2
own_moment values low change at author (e ∷ es) n a are (inr behind) = own_moment values (e.field.0 + 1) change at author es n a are.6 behind

first_entry : (values : FieldNo → Value) (low change at : ℕ) (author : UserNo) (es : List Entry) → 0 < length es → AreGroupEntries values low change at author es → HasEntry es change at
first_entry values low change at author [] some are = absurd (omega (arith, some))
first_entry values low change at author (e ∷ es) some are = inl (are.1, are.2)

get_set : (hs : List History) (place : ℕ) (old new : History) → slice_get hs place ≡ Some old → slice_get (set hs place new) place ≡ Some new
get_set [] place old new there = absurd (none-some old there)
get_set (x ∷ xs) zero old new there = refl
get_set (x ∷ xs) (suc k) old new there = get_set xs k old new there

pub moment_grown : (hs : List History) (place : ℕ) (h new : History) (values : FieldNo → Value) (change at last : ℕ) (author : UserNo) (es : List Entry) → slice_get hs place ≡ Some h
    → new.entries ≡ h.entries ++ es → AreGroupEntries values 0 change at author es → 0 < length es → last ≤ at → IsGroupMoment hs last → IsGroupMoment (set hs place new) at
moment_grown hs place h new values change at last author es there more are some le is = record {
  last = λ k n a g here has. elim (replaced hs place k new g here) [
    | inl old ↦ (let before = is.last k n a g old has in omega (arith, before, le))
    | inr now ↦ elim (entry_more h.entries es n a (subst (λ xs. HasEntry xs n a) (ap (λ (i : History). i.entries) now.0 ∙ more) has)) [
      | inl was ↦ (let before = is.last place n a h there was in omega (arith, before, le))
      | inr own ↦ (let same = own_moment values 0 change at author es n a are own in omega (arith, same))
    ]
  ];
  own = λ positive. (
    place,
    change,
    new,
    get_set hs place h new there,
    subst (λ xs. HasEntry xs change at) (sym more) (entry_behind h.entries es change at (first_entry values 0 change at author es some are)),
  );
}
