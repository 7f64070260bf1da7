-- Burndowns stay those of the histories, group by group, start by start and close by close.
use Rattle.std.proofs.Common.{◌⊎◌, ◌≡◌, ◌≢◌, ℕ, zero, suc, ◌+◌, ◌-◌, ◌<◌, ◌≤◌, nat_lt, ℤ, pos, ◌+ℤ◌, ◌-ℤ◌, Bool, true, false, List, [], ◌∷◌, ◌++◌, All, Option, Some, None, if◌then◌else◌, refl, sym, ◌∙◌, ap, subst, append-nil, inl, inr, arith}
use Rattle.std.specs.Cmp.{signed_Decides}
use Rattle.std.specs.Ordering.{int_eq}
use Rattle.std.proofs.lemmas.Bool.{cases_eq, lt-ltb, le-ltb}
use Rattle.field_values.specs.declared.numbers.IssueNo.{IssueNo}
use Rattle.field_values.specs.declared.numbers.FieldNo.{FieldNo}
use Rattle.field_values.specs.declared.value.Value.{Value}
use Rattle.change_history.specs.History.{History}
use Rattle.sprints.specs.declared.state.SprintState.{SprintState}
use Rattle.sprints.specs.declared.state.SprintState.TheVariants.{Future, Active, Closed}
use Rattle.burndown.specs.declared.share.Share.{Share}
use Rattle.burndown.specs.declared.share.BurnRow.{BurnRow}
use Rattle.burndown.specs.declared.group.Group.{Group}
use Rattle.burndown.specs.declared.progress.Stage.{Stage}
use Rattle.burndown.specs.declared.progress.Stage.TheVariants.{Ahead, Running}
use Rattle.burndown.specs.Share.{counts_for, counted_before}
use Rattle.burndown.specs.Course.{Course, IsRunning, total_after, row_where_changed, after_group, begun, ended, start_of, untold}
use Rattle.burndown.specs.Tracked.{TrackedSprint}
use Rattle.burndown.specs.Burndown.{course_of, ChangesOnly, TellsGroup, GrowsInRoom}
use Rattle.burndown.specs.Event.{Event, Changes, Begins, Ends, IsAfter}
use Rattle.burndown.specs.AfterGroup.{value_then, remaining_then, group_numbered}
use Rattle.burndown.specs.Chart.{row_of_group, rows_between, course_by, start_by, IsPast, IsBurndownOf}
use Rattle.burndown.specs.Told.{HaveNoneBetween, IsGroupOf, Starts, Closes, MayBegin, MayEnd, AreTold}
use Rattle.burndown.specs.ChartLaws.{ChartsAreOfHistories, FutureHasNoRows, ToldInOrder, NothingTold, NumbersPass, StartMayBegin, CloseMayEnd, RoomStaysApart}
use Rattle.burndown.proofs.AfterGroups.{group_found, nobodys, remaining_stays, remaining_changes}

-- what stays has no row
same_has_none : (group : Option (ℕ × IssueNo)) (n : ℕ) (x : ℤ) → row_of_group group n x x ≡ []
same_has_none None n x = refl
same_has_none (Some group) n x = rw ((signed_Decides x x).1 refl) refl

module _ (reading : (FieldNo → Value) → Share) (hs : List History) (s : ℕ) where
  -- between a number and no later one there are no rows
  no_rows : (low n : ℕ) → n ≤ low → rows_between reading hs s low n ≡ []
  no_rows low zero le = refl
  no_rows low (suc n) le =
      let not_later : nat_lt low (suc n) ≡ false = le-ltb low (suc n) le in
      ap (λ (t : Bool). if t then rows_between reading hs s low n ++ row_of_group (group_numbered hs (suc n)) (suc n) (remaining_then reading hs s n) (remaining_then reading hs s (suc n)) else []) not_later

  -- a later number adds its row
  one_more : (low n : ℕ) → low ≤ n → rows_between reading hs s low (suc n) ≡ rows_between reading hs s low n ++ row_of_group (group_numbered hs (suc n)) (suc n) (remaining_then reading hs s n) (remaining_then reading hs s (suc n))
  one_more low n le =
      let later : nat_lt low (suc n) ≡ true = lt-ltb low (suc n) (omega (arith, le)) in
      ap (λ (t : Bool). if t then rows_between reading hs s low n ++ row_of_group (group_numbered hs (suc n)) (suc n) (remaining_then reading hs s n) (remaining_then reading hs s (suc n)) else []) later

  -- a future sprint has none
  rows_of_future : (now : ℕ) → rows_between reading hs s now now ≡ []
  rows_of_future now = no_rows now now (omega arith)

  abbrev with_parts : ℤ → Stage → List BurnRow → Course
  with_parts total stage rows = record { total = total; stage = stage; rows = rows }

  module _ (n : ℕ) where
    abbrev left_before : ℤ
    left_before = remaining_then reading hs s n

    abbrev left_then : ℤ
    left_then = remaining_then reading hs s (suc n)

    -- a number that no group has changes no course
    course_stays : (state : SprintState) → IsPast n state → left_then ≡ left_before → course_by reading hs s state n ≡ course_by reading hs s state (suc n)
    course_stays Future past same = ap (λ x. with_parts x Ahead (rows_between reading hs s n n)) (sym same) ∙ ap (with_parts left_then Ahead) (rows_of_future n ∙ sym (rows_of_future (suc n)))
    course_stays (Active at change) past same =
        ap (λ x. with_parts x (Running (remaining_then reading hs s change)) (rows_between reading hs s change n)) (sym same)
        ∙ ap (with_parts left_then (Running (remaining_then reading hs s change))) (sym (one_more change n past ∙ ap (λ x. rows_between reading hs s change n ++ row_of_group (group_numbered hs (suc n)) (suc n) left_before x) same ∙ ap (λ r. rows_between reading hs s change n ++ r) (same_has_none (group_numbered hs (suc n)) (suc n) left_before) ∙ append-nil (rows_between reading hs s change n)))
    course_stays (Closed start_at start_change at change) past same = refl

    -- a group changes each course just so
    module _ (group : Group) (number : group.change ≡ suc n) (found : group_numbered hs (suc n) ≡ Some (group.at, group.issue)) (left : left_then ≡ total_after s group left_before) where
      row_is : row_where_changed group left_before (total_after s group left_before) ≡ row_of_group (group_numbered hs (suc n)) (suc n) left_before left_then
      row_is =
          ap (row_where_changed group left_before) (sym left)
          ∙ ap (λ c. if int_eq left_then left_before then [] else record { at = group.at; change = c; issue = group.issue; by = left_then -ℤ left_before; left = left_then } ∷ []) number
          ∙ sym (ap (λ g. row_of_group g (suc n) left_before left_then) found)

      course_changes : (state : SprintState) → IsPast n state → after_group s group (course_by reading hs s state n) ≡ course_by reading hs s state (suc n)
      course_changes Future past =
          ap (λ x. with_parts x Ahead (rows_between reading hs s n n)) (sym left) ∙ ap (with_parts left_then Ahead) (rows_of_future n ∙ sym (rows_of_future (suc n)))
      course_changes (Active at change) past =
          let start = remaining_then reading hs s change in
          let rows = rows_between reading hs s change n in
          ap (λ r. with_parts (total_after s group left_before) (Running start) (rows ++ r)) row_is
          ∙ ap (λ x. with_parts x (Running start) (rows ++ row_of_group (group_numbered hs (suc n)) (suc n) left_before left_then)) (sym left)
          ∙ ap (with_parts left_then (Running start)) (sym (one_more change n past))
      course_changes (Closed start_at start_change at change) past = refl

-- numbers only grow
past_later : (n m : ℕ) (state : SprintState) → n ≤ m → IsPast n state → IsPast m state
past_later n m Future le past = tt
past_later n m (Active at change) le past = omega (arith, le, past)
past_later n m (Closed start_at start_change at change) le past = (omega (arith, le, past.0), omega (arith, le, past.1))

module _ (reading : (FieldNo → Value) → Share) (hs : List History) where
  one_passes : (states : ℕ → SprintState) (n : ℕ) (b : List TrackedSprint) → IsBurndownOf reading hs states n b → group_numbered hs (suc n) ≡ None → IsBurndownOf reading hs states (suc n) b
  one_passes states n b is none = record {
    past = λ s. past_later n (suc n) (states s) (omega arith) (is.past s);
    courses = λ s. is.courses s ∙ course_stays reading hs s n (states s) (is.past s) (remaining_stays reading hs s n (nobodys hs (suc n) none));
  }

  passes : (states : ℕ → SprintState) (k n : ℕ) (b : List TrackedSprint) → IsBurndownOf reading hs states n b → HaveNoneBetween hs n (n + k) → IsBurndownOf reading hs states (n + k) b
  passes states zero n b is none = let same : n ≡ n + 0 = omega arith in subst (λ k. IsBurndownOf reading hs states k b) same is
  passes states (suc k) n b is none =
      let same : suc (n + k) ≡ n + suc k = omega arith in
      subst (λ m. IsBurndownOf reading hs states m b) same
      (one_passes states (n + k) b (passes states k n b is (λ m above upto. none m above (omega (arith, upto)))) (none (suc (n + k)) (omega arith) (omega arith)))

  -- the next group, told
  module _ (group : Group) (is : IsGroupOf reading hs group) (states : ℕ → SprintState) (b : List TrackedSprint) (was : IsBurndownOf reading hs states is.number b) where
    left_after : (s : ℕ) → remaining_then reading hs s (suc is.number) ≡ total_after s group (remaining_then reading hs s is.number)
    left_after s =
        remaining_changes reading hs is.place is.issue s is.number group.at group.after is.is_at is.after_is
        ∙ ap (λ before. (remaining_then reading hs s is.number -ℤ counted_before s before) +ℤ counts_for s group.after) (sym is.before_is)

    found : group_numbered hs (suc is.number) ≡ Some (group.at, group.issue)
    found = group_found hs is.place is.issue (suc is.number) group.at is.is_at ∙ ap (λ issue. Some (group.at, issue)) (sym is.issue_is)

    pub next_course : (s : ℕ) → after_group s group (course_of b s) ≡ course_by reading hs s (states s) (suc is.number)
    next_course s =
        ap (after_group s group) (was.courses s)
        ∙ course_changes reading hs s is.number group is.change_is found (left_after s) (states s) (was.past s)

    pub next_told : (new : List TrackedSprint) → TellsGroup b new group → IsBurndownOf reading hs states (suc is.number) new
    next_told new tells = record {
      past = λ s. past_later is.number (suc is.number) (states s) (omega arith) (was.past s);
      courses = λ s. tells.courses s ∙ next_course s;
    }

  -- a sprint that begins
  begins : (old new : ℕ → SprintState) (now : ℕ) (b : List TrackedSprint) (s : ℕ) → IsBurndownOf reading hs old now b → (starts : Starts old new s now) → MayBegin reading hs new now b s
  begins old new now b s is starts = record { ahead = ap (λ (c : Course). c.stage) here; begins = after }
    where
      here : course_of b s ≡ course_by reading hs s Future now
      here = is.courses s ∙ ap (λ state. course_by reading hs s state now) starts.was

      begun_is : begun (course_of b s) ≡ course_by reading hs s (Active starts.moment now) now
      begun_is = ap begun here

      after : (next : List TrackedSprint) → ChangesOnly b next s (begun (course_of b s)) → IsBurndownOf reading hs new now next
      after next only = record { past = λ q. past q (cases_eq q s); courses = λ q. courses q (cases_eq q s) }
        where
          past : (q : ℕ) → (q ≡ s) ⊎ (q ≢ s) → IsPast now (new q)
          past q (inl e) = subst (IsPast now) (sym (ap new e ∙ starts.goes.this)) (omega arith)
          past q (inr ne) = subst (IsPast now) (sym (starts.goes.others q ne)) (is.past q)

          courses : (q : ℕ) → (q ≡ s) ⊎ (q ≢ s) → course_of next q ≡ course_by reading hs q (new q) now
          courses q (inl e) =
              ap (course_of next) e ∙ only.this ∙ begun_is ∙ sym (ap (λ state. course_by reading hs s state now) starts.goes.this) ∙ sym (ap (λ p. course_by reading hs p (new p) now) e)
          courses q (inr ne) = only.others q ne ∙ is.courses q ∙ sym (ap (λ state. course_by reading hs q state now) (starts.goes.others q ne))

  -- and one that ends
  ends : (old new : ℕ → SprintState) (now : ℕ) (b : List TrackedSprint) (s : ℕ) → IsBurndownOf reading hs old now b → (closes : Closes old new s now) → MayEnd reading hs new now b s
  ends old new now b s is closes = record { running = subst (λ (c : Course). IsRunning c.stage) (sym here) tt; ends = after }
    where
      here : course_of b s ≡ course_by reading hs s (Active closes.start_moment closes.start_change) now
      here = is.courses s ∙ ap (λ state. course_by reading hs s state now) closes.was

      began : closes.start_change ≤ now
      began = subst (IsPast now) closes.was (is.past s)

      ended_is : ended (course_of b s) ≡ course_by reading hs s (Closed closes.start_moment closes.start_change closes.moment now) now
      ended_is = ap ended here

      after : (next : List TrackedSprint) → ChangesOnly b next s (ended (course_of b s)) → IsBurndownOf reading hs new now next
      after next only = record { past = λ q. past q (cases_eq q s); courses = λ q. courses q (cases_eq q s) }
        where
          past : (q : ℕ) → (q ≡ s) ⊎ (q ≢ s) → IsPast now (new q)
          past q (inl e) = subst (IsPast now) (sym (ap new e ∙ closes.goes.this)) (began, omega arith)
          past q (inr ne) = subst (IsPast now) (sym (closes.goes.others q ne)) (is.past q)

          courses : (q : ℕ) → (q ≡ s) ⊎ (q ≢ s) → course_of next q ≡ course_by reading hs q (new q) now
          courses q (inl e) =
              ap (course_of next) e ∙ only.this ∙ ended_is ∙ sym (ap (λ state. course_by reading hs s state now) closes.goes.this) ∙ sym (ap (λ p. course_by reading hs p (new p) now) e)
          courses q (inr ne) = only.others q ne ∙ is.courses q ∙ sym (ap (λ state. course_by reading hs q state now) (closes.goes.others q ne))

  -- before any group nothing remains
  nothing_yet : (gs : List History) (s : ℕ) → All (λ h. 0 < h.change) gs → remaining_then reading gs s 0 ≡ pos 0
  nothing_yet [] s later = refl
  nothing_yet (h ∷ gs) s later =
      let own : nat_lt 0 h.change ≡ true = lt-ltb 0 h.change (later 0 h (omega arith)) in
      ap (λ (t : Bool). counted_before s (if t then None else share_now) +ℤ remaining_then reading gs s 0) own ∙ ap (λ x. pos 0 +ℤ x) (nothing_yet gs s (λ k d lt. later (suc k) d (omega (arith, lt))))
    where
      share_now : Option Share
      share_now = Some (reading (value_then h 0))

  nothing_told : (states : ℕ → SprintState) (b : List TrackedSprint) → All (λ h. 0 < h.change) hs → ((s : ℕ) → states s ≡ Future) → ((s : ℕ) → course_of b s ≡ untold) → IsBurndownOf reading hs states 0 b
  nothing_told states b later future none = record {
    past = λ s. subst (IsPast 0) (sym (future s)) tt;
    courses = λ s. none s ∙ ap (λ x. let c : Course = record { total = x; stage = Ahead; rows = [] } in c) (sym (nothing_yet hs s later)) ∙ sym (ap (λ state. course_by reading hs s state 0) (future s));
  }

  room_apart : (states : ℕ → SprintState) (now : ℕ) (old new : List TrackedSprint) → IsBurndownOf reading hs states now old → GrowsInRoom old new → IsBurndownOf reading hs states now new
  room_apart states now old new is grows = record { past = is.past; courses = λ s. grows.courses s ∙ is.courses s }

  up_to_later : (states : ℕ → SprintState) (n m : ℕ) (b : List TrackedSprint) → IsBurndownOf reading hs states n b → n ≤ m → HaveNoneBetween hs n m → IsBurndownOf reading hs states m b
  up_to_later states n m b is le none =
      let sum : n + (m - n) ≡ m = omega (arith, le) in
      subst (λ k. IsBurndownOf reading hs states k b) sum (passes states (m - n) n b is (λ k above upto. none k above (omega (arith, upto, sum))))

  told_in_order : (events : List Event) (states : ℕ → SprintState) (now : ℕ) (b : List TrackedSprint) → All (λ h. 0 < h.change) hs → IsAfter events b → AreTold reading hs events states now → IsBurndownOf reading hs states now b
  told_in_order [] states now b later after told =
      up_to_later states 0 now b (nothing_told states b later told.1 after) (omega arith) told.0
  told_in_order (Changes group ∷ past) states now b later after told =
      let was = told_in_order past states told.2.number after.0 later after.2 told.3 in
      let next = next_told group told.2 states after.0 was after.1 after.3 in
      let here = room_apart states (suc told.2.number) after.1 b next after.4 in
      let number : suc told.2.number ≡ group.change = sym told.2.change_is in
      up_to_later states group.change now b (subst (λ k. IsBurndownOf reading hs states k b) number here) told.0 told.1
  told_in_order (Begins s ∷ past) states now b later after told =
      let was = told_in_order past told.1 told.0 after.0 later after.2 told.5 in
      let next = (begins told.1 states told.0 after.0 s was told.4).begins after.1 after.3.1 in
      up_to_later states told.0 now b (room_apart states told.0 after.1 b next after.4) told.2 told.3
  told_in_order (Ends s ∷ past) states now b later after told =
      let was = told_in_order past told.1 told.0 after.0 later after.2 told.5 in
      let next = (ends told.1 states told.0 after.0 s was told.4).ends after.1 after.3.1 in
      up_to_later states told.0 now b (room_apart states told.0 after.1 b next after.4) told.2 told.3

-- the start is what the stage keeps, or what remains now
start_is : (reading : (FieldNo → Value) → Share) (hs : List History) (s : ℕ) (state : SprintState) (now : ℕ) → start_of (course_by reading hs s state now) ≡ start_by reading hs s state now
start_is reading hs s Future now = refl
start_is reading hs s (Active at change) now = refl
start_is reading hs s (Closed start_at start_change at change) now = refl

pub charts_are_of_histories : ChartsAreOfHistories
charts_are_of_histories reading hs states now b is s = record {
  left = ap (λ (c : Course). c.total) (is.courses s);
  start = ap start_of (is.courses s) ∙ start_is reading hs s (states s) now;
  rows = ap (λ (c : Course). c.rows) (is.courses s);
}

pub future_has_no_rows : FutureHasNoRows
future_has_no_rows reading hs s now = rows_of_future reading hs s now

pub told_gives : ToldInOrder
told_gives reading hs events states now b later after told = told_in_order reading hs events states now b later after told

pub nothing_gives : NothingTold
nothing_gives reading hs states b later future none = nothing_told reading hs states b later future none

pub numbers_pass : NumbersPass
numbers_pass reading hs states now next b is le none = up_to_later reading hs states now next b is le none

pub start_may_begin : StartMayBegin
start_may_begin reading hs old new now b s is starts = begins reading hs old new now b s is starts

pub close_may_end : CloseMayEnd
close_may_end reading hs old new now b s is closes = ends reading hs old new now b s is closes

pub room_stays_apart : RoomStaysApart
room_stays_apart reading hs states now old new is grows = room_apart reading hs states now old new is grows
