-- Events that change nothing of a subscription.
use Rattle.std.proofs.Common.{◌≡◌, ◌≢◌, ℕ, zero, suc, ◌+◌, ◌<◌, ◌==◌, Bool, true, false, List, [], ◌∷◌, ◌++◌, length, map, nat_lt, Option, Some, None, if◌then◌else◌, refl, sym, ◌∙◌, ap, arith, append-nil}
use Rattle.std.specs.List.{All}
use Rattle.std.proofs.lemmas.Bool.Decides.{nat_tests}
use Rattle.std.proofs.lemmas.Bool.{eq-eqb}
use Rattle.field_values.specs.declared.numbers.FilterNo.{FilterNo}
use Rattle.list_changes.specs.declared.changed.Changed.{Changed}
use Rattle.list_changes.specs.declared.changed.Changed.TheVariants as changed
use Rattle.move_feeds.specs.Changed.{MayAllList, MayList}
use Rattle.move_feeds.specs.Changes.{changes}
use Rattle.move_feeds.specs.Feed.{Feed, IsFeed, after_event, most_waiting, unless_too_many, with_listed}
use Rattle.move_feeds.specs.Held.{is_concerned, taken_in}
use Rattle.move_feeds.proofs.Lacking.{changes_none}

-- what is listed stays, and few enough wait
listed_none : (f : Feed) → IsFeed f → with_listed f.listed f ≡ f
listed_none f is =
    let few : nat_lt most_waiting (length f.waiting) ≡ false = grind (arith, nat_tests, is.few) in
    let same : f.waiting ++ changes f.listed f.listed ≡ f.waiting = ap (λ cs. f.waiting ++ cs) (changes_none f.listed) ∙ append-nil f.waiting in
    ap (λ ws. unless_too_many (record f { waiting = ws })) same ∙ ap (λ (t : Bool). if t then record f { acked = f.acked + length f.waiting; waiting = []; lapsed = true } else f) few

pub event_none : (now : List Bool) (f : Feed) → IsFeed f → (f.lapsed ≡ false → now ≡ f.listed) → after_event now f ≡ f
event_none now f is same = by f.lapsed refl
  where
    by : (b : Bool) → f.lapsed ≡ b → (if b then f else with_listed now f) ≡ f
    by true lapsed = refl
    by false lapsed = ap (λ l. with_listed l f) (same lapsed) ∙ listed_none f is

all_head : (P : Feed → Type 0) (f : Feed) (fs : List Feed) → All P (f ∷ fs) → P f
all_head P f fs all = all 0 f (omega arith)

all_tail : (P : Feed → Type 0) (f : Feed) (fs : List Feed) → All P (f ∷ fs) → All P fs
all_tail P f fs all = λ k d lt. all (suc k) d (omega (arith, lt))

module _ (lists : ℕ → ℕ → List Bool) where
  -- what may have changed of a subscription's list
  abbrev May : Changed → Feed → Type 0
  May what f = f.lapsed ≡ false → MayList what f (lists f.user.0 f.filter.0)

  abbrev event : Feed → Feed
  event f = after_event (lists f.user.0 f.filter.0) f

  pub nothing_changes : (fs : List Feed) → All IsFeed fs → MayAllList changed.Nothing lists fs → map (λ f. after_event (lists f.user.0 f.filter.0) f) fs ≡ fs
  nothing_changes [] are same = refl
  nothing_changes (f ∷ fs) are same =
      ap (λ g. g ∷ map event fs) (event_none (lists f.user.0 f.filter.0) f (all_head IsFeed f fs are) (all_head (May changed.Nothing) f fs same))
      ∙ ap (λ gs. f ∷ gs) (nothing_changes fs (all_tail IsFeed f fs are) (all_tail (May changed.Nothing) f fs same))

  taken_one : (number : FilterNo) (f : Feed) → IsFeed f → (f.lapsed ≡ false → f.filter.0 ≢ number.0 → lists f.user.0 f.filter.0 ≡ f.listed) → taken_in (Some number) lists f ≡ event f
  taken_one number f is same = by (f.filter.0 == number.0) refl
    where
      by : (b : Bool) → (f.filter.0 == number.0) ≡ b → (if b then after_event (lists f.user.0 f.filter.0) f else f) ≡ event f
      by true own = refl
      by false other =
          let differs : f.filter.0 ≢ number.0 = λ e. absurd (grind (arith, nat_tests, other, e)) in
          sym (event_none (lists f.user.0 f.filter.0) f is (λ lapsed. same lapsed differs))

  -- where only one filter's list may have changed, it is enough to look at that one
  pub filter_changes : (number : FilterNo) (fs : List Feed) → All IsFeed fs → MayAllList (changed.Filter number) lists fs
      → map (taken_in (Some number) lists) fs ≡ map (λ f. after_event (lists f.user.0 f.filter.0) f) fs
  filter_changes number [] are same = refl
  filter_changes number (f ∷ fs) are same =
      ap (λ g. g ∷ map (taken_in (Some number) lists) fs) (taken_one number f (all_head IsFeed f fs are) (all_head (May (changed.Filter number)) f fs same))
      ∙ ap (λ gs. event f ∷ gs) (filter_changes number fs (all_tail IsFeed f fs are) (all_tail (May (changed.Filter number)) f fs same))
