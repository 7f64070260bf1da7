-- Rows between two numbers of changes add up to what is left after the second one.
use Rattle.std.proofs.Common.{◌≡◌, ℕ, zero, suc, ◌-◌, ◌==◌, ◌≤◌, ℤ, ◌+ℤ◌, ◌-ℤ◌, Bool, true, false, List, [], ◌∷◌, ◌++◌, Option, Some, None, slice_get, refl, ap, subst, arith}
use Rattle.std.specs.Prelude.{nat_lt, if◌then◌else◌}
use Rattle.std.specs.List.{All}
use Rattle.std.specs.Ordering.{int_eq}
use Rattle.std.specs.Cmp.{signed_Decides}
use Rattle.std.proofs.lemmas.Bool.Decides.{nat_tests}
use Rattle.std.proofs.lemmas.Int.{ints}
use Rattle.std.proofs.lemmas.List.Elements.{All-head, All-tail}
use Rattle.std.proofs.lemmas.Option.{same_Some, none-some}
use Rattle.field_values.specs.declared.numbers.FieldNo.{FieldNo}
use Rattle.field_values.specs.declared.numbers.IssueNo.{IssueNo}
use Rattle.field_values.specs.declared.value.Value.{Value}
use Rattle.change_history.specs.History.{History}
use Rattle.sprints.specs.declared.sprint.Sprint.{Sprint}
use Rattle.sprints.specs.declared.state.SprintState.{SprintState}
use Rattle.sprints.specs.declared.state.SprintState.TheVariants.{Future, Active, Closed}
use Rattle.burndown.specs.declared.share.Share.{Share}
use Rattle.burndown.specs.declared.share.BurnRow.{BurnRow}
use Rattle.burndown.specs.AfterGroup.{remaining_then, group_numbered}
use Rattle.burndown.specs.Chart.{row_of_group, rows_between, first_number, last_number}
use Rattle.tracker_work.specs.Seen.{state_in, reading_of}
use Rattle.tracker_machine.specs.SprintRules.{IsTimely, IsSprint}
use Rattle.tracker_machine.specs.Sprints.{work_of}
use Rattle.tracker_sight.specs.Remains.{AddUp, BurndownsAddUp}
use Rattle.tracker_sight.proofs.Unchanged.{nobodys, remaining_stays}

-- rows, and rows behind them
add_more : (was middle left : ℤ) (xs ys : List BurnRow) → AddUp was xs middle → AddUp middle ys left → AddUp was (xs ++ ys) left
add_more was middle left [] ys first second = subst (λ n. AddUp n ys left) first second
add_more was middle left (x ∷ xs) ys first second = (first.0, add_more x.left middle left xs ys first.1 second)

adds : (was left : ℤ) → left ≡ was +ℤ (left -ℤ was)
adds was left = omega (arith, ints)

module _ (reading : (FieldNo → Value) → Share) (hs : List History) (s : ℕ) where
  abbrev remains : ℕ → ℤ
  remains n = remaining_then reading hs s n

  group_adds : (n : ℕ) (group : Option (ℕ × IssueNo)) → group_numbered hs (suc n) ≡ group
      → AddUp (remains n) (row_of_group group (suc n) (remains n) (remains (suc n))) (remains (suc n))
  group_adds n None is = remaining_stays reading hs s n (nobodys hs (suc n) is)
  group_adds n (Some group) is = by (int_eq (remains (suc n)) (remains n)) refl
    where
      by : (b : Bool) → int_eq (remains (suc n)) (remains n) ≡ b
          → AddUp (remains n) (if b then [] else record { at = group.0; change = suc n; issue = group.1; by = remains (suc n) -ℤ remains n; left = remains (suc n) } ∷ [])
          (remains (suc n))
      by true same = (signed_Decides (remains (suc n)) (remains n)).0 same
      by false differ = (adds (remains n) (remains (suc n)), refl)

  rows_add : (low n : ℕ) → low ≤ n → AddUp (remains low) (rows_between reading hs s low n) (remains n)
  rows_add low zero within = ap remains (omega (arith, within))
  rows_add low (suc n) within = by (nat_lt low (suc n)) refl (rows_add low n)
    where
      by : (b : Bool) → nat_lt low (suc n) ≡ b → (low ≤ n → AddUp (remains low) (rows_between reading hs s low n) (remains n))
          → AddUp (remains low)
          (if b then rows_between reading hs s low n ++ row_of_group (group_numbered hs (suc n)) (suc n) (remains n) (remains (suc n)) else [])
          (remains (suc n))
      by true less rest =
          let below : low ≤ n = grind (arith, nat_tests) in
          add_more (remains low) (remains n) (remains (suc n)) (rows_between reading hs s low n)
          (row_of_group (group_numbered hs (suc n)) (suc n) (remains n) (remains (suc n))) (rest below) (group_adds n (group_numbered hs (suc n)) refl)
      by false more rest = let here : suc n ≡ low = grind (arith, nat_tests) in ap remains here

-- a sprint doesn't close before it starts
starts_first : (moment change : ℕ) (state : SprintState) → IsTimely moment change state → first_number state change ≤ last_number state change
starts_first moment change Future timely = omega arith
starts_first moment change (Active at number) timely = timely.1
starts_first moment change (Closed start_at start_number at number) timely = timely.1

all_at : {X : Type 0} (P : X → Type 0) (xs : List X) (k : ℕ) (x : X) → slice_get xs k ≡ Some x → All P xs → P x
all_at P [] k x is all = absurd (none-some x is)
all_at P (y ∷ ys) zero x is all = subst P (same_Some y x is) (All-head P y ys all)
all_at P (y ∷ ys) (suc k) x is all = all_at P ys k x is (All-tail P y ys all)

timely_state : (moment change : ℕ) (sprints : List Sprint) (n : ℕ) → All (IsSprint moment change) sprints → IsTimely moment change (state_in sprints n)
timely_state moment change sprints n all = by (n == 0) refl
  where
    there : (o : Option Sprint) → slice_get sprints (n - 1) ≡ o → (n == 0) ≡ false → IsTimely moment change (state_in sprints n)
    there None is positive = rw (positive, is) tt
    there (Some s) is positive = rw (positive, is) (all_at (IsSprint moment change) sprints (n - 1) s is all).timely

    by : (b : Bool) → (n == 0) ≡ b → IsTimely moment change (state_in sprints n)
    by true none = rw none tt
    by false positive = there (slice_get sprints (n - 1)) refl positive

pub burndowns_add_up : BurndownsAddUp
burndowns_add_up m sprint is =
    let state : SprintState = state_in m.sprints sprint in
    rows_add (reading_of (work_of m)) m.histories sprint (first_number state m.change) (last_number state m.change)
    (starts_first m.moment m.change state (timely_state m.moment m.change m.sprints sprint is.sprints.each))
