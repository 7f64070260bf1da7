-- Totals are sums of shares, and rows are the groups that changed them.
use Rattle.std.proofs.Common.{◌≡◌, ◌≢◌, ℕ, ◌==◌, ℤ, pos, ◌+ℤ◌, ◌-ℤ◌, Bool, true, false, List, [], ◌∷◌, ◌++◌, Option, Some, None, is_some, if◌then◌else◌, refl, sym, ◌∙◌, ap, subst, append-nil, arith}
use mathlib.Core.Bool.{false≢true}
use Rattle.std.specs.Option.{unwrap_or}
use Rattle.std.proofs.lemmas.Bool.Decides.{nat_tests}
use Rattle.std.proofs.lemmas.Int.{ints}
use Rattle.burndown.specs.declared.share.BurnRow.{BurnRow}
use Rattle.burndown.specs.declared.group.Group.{Group}
use Rattle.burndown.specs.declared.progress.Stage.{Stage}
use Rattle.burndown.specs.declared.progress.Stage.TheVariants.{Ahead, Running, Ended}
use Rattle.burndown.specs.Share.{counts_for, counted_before}
use Rattle.burndown.specs.Course.{Course, total_after, row_where_changed, told_in, begun, ended, start_in, start_of, stage_after_end, IsRunning}
use Rattle.burndown.specs.Tracked.{TrackedSprint}
use Rattle.burndown.specs.Burndown.{course_of, ChangesOnly}
use Rattle.burndown.specs.Event.{Event, Changes, Begins, Ends, last_told, times, IsRightlyTold, NamesEachOnce, IsAfter}
use Rattle.burndown.specs.Remaining.{before_begin, before_end, sum_of_shares, remaining, start, rows}
use Rattle.burndown.specs.Laws.{CoursesAreSums, RoomChangesNothing}
use Rattle.burndown.proofs.Courses.{no_row}

module _ (s : ℕ) (group : Group) (past : List Event) where
  absent_step : (i : ℕ) (issues : List ℕ) (x : Bool) → (group.issue.0 == i) ≡ x →
      (times group.issue.0 issues ≡ 0 → sum_of_shares issues s (Changes group ∷ past) ≡ sum_of_shares issues s past) →
      times group.issue.0 (i ∷ issues) ≡ 0 → sum_of_shares (i ∷ issues) s (Changes group ∷ past) ≡ sum_of_shares (i ∷ issues) s past
  absent_step i issues true is rest none = absurd (omega (arith, rw is at none))
  absent_step i issues false is rest none = rw is (ap (λ x. counted_before s (last_told past i) +ℤ x) (rest (omega (arith, rw is at none))))

  -- a sum over other issues stands
  sum_absent : (issues : List ℕ) → times group.issue.0 issues ≡ 0 → sum_of_shares issues s (Changes group ∷ past) ≡ sum_of_shares issues s past
  sum_absent [] none = refl
  sum_absent (i ∷ issues) none = absent_step i issues (group.issue.0 == i) refl (sum_absent issues) none

  once_step : (i : ℕ) (issues : List ℕ) (x : Bool) → (group.issue.0 == i) ≡ x → group.before ≡ last_told past group.issue.0 →
      (times group.issue.0 issues ≡ 1 → sum_of_shares issues s (Changes group ∷ past) ≡ total_after s group (sum_of_shares issues s past)) →
      times group.issue.0 (i ∷ issues) ≡ 1 → sum_of_shares (i ∷ issues) s (Changes group ∷ past) ≡ total_after s group (sum_of_shares (i ∷ issues) s past)
  once_step i issues true is told rest once =
      let others = sum_absent issues (omega (arith, rw is at once)) in
      let same : group.issue.0 ≡ i = grind (arith, nat_tests, is) in
      let was = ap (counted_before s) (told ∙ ap (last_told past) same) in
      rw (is, others, was) (swap_in (counts_for s group.after) (counted_before s (last_told past i)) (sum_of_shares issues s past))
    where
      swap_in : (a w t : ℤ) → a +ℤ t ≡ ((w +ℤ t) -ℤ w) +ℤ a
      swap_in a w t = omega (arith, ints)
  once_step i issues false is told rest once =
      let others = rest (omega (arith, rw is at once)) in
      rw (is, others) (move_in (counted_before s (last_told past i)) (sum_of_shares issues s past) (counted_before s group.before) (counts_for s group.after))
    where
      move_in : (w t l a : ℤ) → w +ℤ ((t -ℤ l) +ℤ a) ≡ ((w +ℤ t) -ℤ l) +ℤ a
      move_in w t l a = omega (arith, ints)

  -- a sum that has the issue once loses what it counted for and gains what it counts for
  pub sum_once : (issues : List ℕ) → group.before ≡ last_told past group.issue.0 → times group.issue.0 issues ≡ 1 → sum_of_shares issues s (Changes group ∷ past) ≡ total_after s group (sum_of_shares issues s past)
  sum_once [] told once = absurd (omega (arith, once))
  sum_once (i ∷ issues) told once = once_step i issues (group.issue.0 == i) refl told (sum_once issues told) once

-- a begin and an end change no share
sum_begins : (issues : List ℕ) (s t : ℕ) (past : List Event) → sum_of_shares issues s (Begins t ∷ past) ≡ sum_of_shares issues s past
sum_begins [] s t past = refl
sum_begins (i ∷ issues) s t past = ap (λ x. counted_before s (last_told past i) +ℤ x) (sum_begins issues s t past)

sum_ends : (issues : List ℕ) (s t : ℕ) (past : List Event) → sum_of_shares issues s (Ends t ∷ past) ≡ sum_of_shares issues s past
sum_ends [] s t past = refl
sum_ends (i ∷ issues) s t past = ap (λ x. counted_before s (last_told past i) +ℤ x) (sum_ends issues s t past)

-- before anything is told, nothing remains
sum_none : (issues : List ℕ) (s : ℕ) → pos 0 ≡ sum_of_shares issues s []
sum_none [] s = refl
sum_none (i ∷ issues) s = ap (λ x. pos 0 +ℤ x) (sum_none issues s)

-- the sum now, or at a mark that was passed
abbrev sum_at : List ℕ → ℕ → Option (List Event) → List Event → ℤ
sum_at issues s mark events = sum_of_shares issues s (unwrap_or mark events)

sum_at_mark : (issues : List ℕ) (s : ℕ) (mark : Option (List Event)) (new past : List Event) → is_some mark ≡ true → sum_at issues s mark new ≡ sum_at issues s mark past
sum_at_mark issues s (Some events) new past passed = refl
sum_at_mark issues s None new past passed = absurd (false≢true passed)

sum_at_now : (issues : List ℕ) (s : ℕ) (mark : Option (List Event)) (events : List Event) → is_some mark ≡ false → sum_at issues s mark events ≡ sum_of_shares issues s events
sum_at_now issues s (Some e) events passed = absurd (false≢true (sym passed))
sum_at_now issues s None events passed = refl

sum_at_same : (issues : List ℕ) (s : ℕ) (mark : Option (List Event)) (new past : List Event) → sum_of_shares issues s new ≡ sum_of_shares issues s past → sum_at issues s mark new ≡ sum_at issues s mark past
sum_at_same issues s (Some e) new past same = refl
sum_at_same issues s None new past same = same

abbrev is_begun : Stage → Bool
is_begun Ahead = false
is_begun (Running start) = true
is_begun (Ended start) = true

abbrev is_ended : Stage → Bool
is_ended Ahead = false
is_ended (Running start) = false
is_ended (Ended start) = true

-- a course is what the events say, and its stage is too
record Agrees (issues : List ℕ) (s : ℕ) (events : List Event) (c : Course) : Type 0 where
  total : c.total ≡ remaining issues s events
  start : start_of c ≡ start issues s events
  rows : c.rows ≡ rows issues s events
  begun : is_begun c.stage ≡ is_some (before_begin s events)
  ended : is_ended c.stage ≡ is_some (before_end s events)

-- what remains after a group: where the sprint has ended, what remained at the end
remaining_ended : (issues : List ℕ) (s : ℕ) (group : Group) (past : List Event) → is_some (before_end s past) ≡ true → remaining issues s (Changes group ∷ past) ≡ remaining issues s past
remaining_ended issues s group past over = sum_at_mark issues s (before_end s past) (Changes group ∷ past) past over

remaining_told : (issues : List ℕ) (s : ℕ) (group : Group) (past : List Event) → is_some (before_end s past) ≡ false → group.before ≡ last_told past group.issue.0 → times group.issue.0 issues ≡ 1 →
    remaining issues s (Changes group ∷ past) ≡ total_after s group (remaining issues s past)
remaining_told issues s group past not_over told once =
    sum_at_now issues s (before_end s past) (Changes group ∷ past) not_over ∙ sum_once s group past issues told once ∙
    ap (total_after s group) (sym (sum_at_now issues s (before_end s past) past not_over))

-- what a group adds to the rows
abbrev added : Bool → Group → ℤ → ℤ → List BurnRow
added x group was left = if x then row_where_changed group was left else []

module _ (issues : List ℕ) (s : ℕ) (group : Group) (past : List Event) (told : group.before ≡ last_told past group.issue.0) (once : times group.issue.0 issues ≡ 1) (c : Course) (was : Agrees issues s past c) where
  -- a group keeps a course and the events in step, stage by stage
  group_step : (stage : Stage) → c.stage ≡ stage → Agrees issues s (Changes group ∷ past) (told_in stage s group c)
  group_step Ahead is =
      let not_begun : is_some (before_begin s past) ≡ false = sym was.begun ∙ ap is_begun is in
      let not_over : is_some (before_end s past) ≡ false = sym was.ended ∙ ap is_ended is in
      let left = ap (total_after s group) was.total ∙ sym (remaining_told issues s group past not_over told once) in
      record {
        total = left;
        start = ap (λ y. start_in y (total_after s group c.total)) is ∙ left ∙ sum_at_now issues s (before_end s past) (Changes group ∷ past) not_over ∙
            sym (sum_at_now issues s (before_begin s past) (Changes group ∷ past) not_begun);
        rows = was.rows ∙ sym (append-nil (rows issues s past)) ∙
            sym (ap (λ x. rows issues s past ++ added x group (remaining issues s past) (remaining issues s (Changes group ∷ past))) not_begun);
        begun = was.begun;
        ended = was.ended;
      }
  group_step (Running at) is =
      let has_begun : is_some (before_begin s past) ≡ true = sym was.begun ∙ ap is_begun is in
      let not_over : is_some (before_end s past) ≡ false = sym was.ended ∙ ap is_ended is in
      let left = ap (total_after s group) was.total ∙ sym (remaining_told issues s group past not_over told once) in
      record {
        total = left;
        start = ap (λ y. start_in y (total_after s group c.total)) is ∙ sym (ap (λ y. start_in y c.total) is) ∙ was.start ∙
            sym (sum_at_mark issues s (before_begin s past) (Changes group ∷ past) past has_begun);
        rows = ap (λ r. r ++ row_where_changed group c.total (total_after s group c.total)) was.rows ∙
            ap (λ x. rows issues s past ++ row_where_changed group x (total_after s group c.total)) was.total ∙
            ap (λ x. rows issues s past ++ row_where_changed group (remaining issues s past) x) left ∙
            sym (ap (λ x. rows issues s past ++ added x group (remaining issues s past) (remaining issues s (Changes group ∷ past))) has_begun);
        begun = was.begun;
        ended = was.ended;
      }
  group_step (Ended at) is =
      let has_begun : is_some (before_begin s past) ≡ true = sym was.begun ∙ ap is_begun is in
      let over : is_some (before_end s past) ≡ true = sym was.ended ∙ ap is_ended is in
      let same = remaining_ended issues s group past over in
      record {
        total = was.total ∙ sym same;
        start = was.start ∙ sym (sum_at_mark issues s (before_begin s past) (Changes group ∷ past) past has_begun);
        rows = was.rows ∙ sym (append-nil (rows issues s past)) ∙
            sym (ap (λ r. rows issues s past ++ r) (no_row group (remaining issues s past))) ∙
            sym (ap (λ x. rows issues s past ++ row_where_changed group (remaining issues s past) x) same) ∙
            sym (ap (λ x. rows issues s past ++ added x group (remaining issues s past) (remaining issues s (Changes group ∷ past))) has_begun);
        begun = was.begun;
        ended = was.ended;
      }

module _ (issues : List ℕ) (s t : ℕ) (past : List Event) (c : Course) (was : Agrees issues s past c) where
  remaining_begins : remaining issues s (Begins t ∷ past) ≡ remaining issues s past
  remaining_begins = sum_at_same issues s (before_end s past) (Begins t ∷ past) past (sum_begins issues s t past)

  start_ends : start issues s (Ends t ∷ past) ≡ start issues s past
  start_ends = sum_at_same issues s (before_begin s past) (Ends t ∷ past) past (sum_ends issues s t past)

  -- a begin of another sprint
  begin_other : (t == s) ≡ false → Agrees issues s (Begins t ∷ past) c
  begin_other other = record {
    total = was.total ∙ sym remaining_begins;
    start = was.start ∙ sym (sum_at_same issues s (before_begin s past) (Begins t ∷ past) past (sum_begins issues s t past)) ∙
        sym (ap (λ x. sum_at issues s (if x then Some past else before_begin s past) (Begins t ∷ past)) other);
    rows = was.rows;
    begun = was.begun ∙ sym (ap (λ x. is_some (if x then Some past else before_begin s past)) other);
    ended = was.ended;
  }

  -- its own begin
  begin_own : (t == s) ≡ true → c.stage ≡ Ahead → Agrees issues s (Begins t ∷ past) (begun c)
  begin_own own is = record {
    total = was.total ∙ sym remaining_begins;
    start = was.total ∙ sum_at_now issues s (before_end s past) past (sym was.ended ∙ ap is_ended is) ∙
        sym (ap (λ x. sum_at issues s (if x then Some past else before_begin s past) (Begins t ∷ past)) own);
    rows = was.rows;
    begun = sym (ap (λ x. is_some (if x then Some past else before_begin s past)) own);
    ended = sym (ap is_ended is) ∙ was.ended;
  }

  -- an end of another sprint
  end_other : (t == s) ≡ false → Agrees issues s (Ends t ∷ past) c
  end_other other = record {
    total = was.total ∙ sym (sum_at_same issues s (before_end s past) (Ends t ∷ past) past (sum_ends issues s t past)) ∙
        sym (ap (λ x. sum_at issues s (if x then Some past else before_end s past) (Ends t ∷ past)) other);
    start = was.start ∙ sym start_ends;
    rows = was.rows;
    begun = was.begun;
    ended = was.ended ∙ sym (ap (λ x. is_some (if x then Some past else before_end s past)) other);
  }

  -- its own end
  end_own : (t == s) ≡ true → (stage : Stage) → c.stage ≡ stage → IsRunning stage → Agrees issues s (Ends t ∷ past) (ended c)
  end_own own Ahead is running = absurd running
  end_own own (Ended at) is running = absurd running
  end_own own (Running at) is running = record {
    total = was.total ∙ sum_at_now issues s (before_end s past) past (sym was.ended ∙ ap is_ended is) ∙
        sym (ap (λ x. sum_at issues s (if x then Some past else before_end s past) (Ends t ∷ past)) own);
    start = ap (λ y. start_in (stage_after_end y) c.total) is ∙ sym (ap (λ y. start_in y c.total) is) ∙ was.start ∙ sym start_ends;
    rows = was.rows;
    begun = ap (λ y. is_begun (stage_after_end y)) is ∙ sym (ap is_begun is) ∙ was.begun;
    ended = ap (λ y. is_ended (stage_after_end y)) is ∙ sym (ap (λ x. is_some (if x then Some past else before_end s past)) own);
  }

-- a course that is changed only at one sprint
at_sprint : (P : Course → Type 0) (old new : List TrackedSprint) (t s : ℕ) (course : Course) → ChangesOnly old new t course →
    ((t == s) ≡ true → P course) → ((t == s) ≡ false → P (course_of old s)) → P (course_of new s)
at_sprint P old new t s course changes own other = by (t == s) refl
  where
    by : (x : Bool) → (t == s) ≡ x → P (course_of new s)
    by true is = let same : s ≡ t = grind (arith, nat_tests, is) in subst P (sym (ap (course_of new) same ∙ changes.this)) (own is)
    by false is = let differs : s ≢ t = λ (e : s ≡ t). grind (arith, nat_tests, is, e) in subst P (sym (changes.others s differs)) (other is)

agrees : (events : List Event) (issues : List ℕ) (b : List TrackedSprint) → IsAfter events b → IsRightlyTold events → NamesEachOnce issues events → (s : ℕ) → Agrees issues s events (course_of b s)
agrees [] issues b after right once s =
    subst (Agrees issues s []) (sym (after s)) (record { total = sum_none issues s; start = sum_none issues s; rows = refl; begun = refl; ended = refl })
agrees (Changes group ∷ past) issues b after right once s =
    let was = agrees past issues after.0 after.2 right.1 once.1 s in
    let c = course_of after.0 s in
    subst (Agrees issues s (Changes group ∷ past)) (sym (after.4.courses s ∙ after.3.courses s)) (group_step issues s group past right.0 once.0 c was c.stage refl)
agrees (Begins t ∷ past) issues b after right once s =
    let was : (q : ℕ) → Agrees issues q past (course_of after.0 q) = agrees past issues after.0 after.2 right once in
    let P = Agrees issues s (Begins t ∷ past) in
    subst P (sym (after.4.courses s))
    (at_sprint P after.0 after.1 t s (begun (course_of after.0 t)) after.3.1
    (λ own. let same : t ≡ s = grind (arith, nat_tests, own) in
    subst (λ q. P (begun (course_of after.0 q))) (sym same) (begin_own issues s t past (course_of after.0 s) (was s) own (subst (λ q. (course_of after.0 q).stage ≡ Ahead) same after.3.0)))
    (λ other. begin_other issues s t past (course_of after.0 s) (was s) other))
agrees (Ends t ∷ past) issues b after right once s =
    let was : (q : ℕ) → Agrees issues q past (course_of after.0 q) = agrees past issues after.0 after.2 right once in
    let P = Agrees issues s (Ends t ∷ past) in
    subst P (sym (after.4.courses s))
    (at_sprint P after.0 after.1 t s (ended (course_of after.0 t)) after.3.1
    (λ own. let same : t ≡ s = grind (arith, nat_tests, own) in
    subst (λ q. P (ended (course_of after.0 q))) (sym same) (end_own issues s t past (course_of after.0 s) (was s) own (course_of after.0 s).stage refl (subst (λ q. IsRunning (course_of after.0 q).stage) same after.3.0)))
    (λ other. end_other issues s t past (course_of after.0 s) (was s) other))

pub courses_are_sums : CoursesAreSums
courses_are_sums events issues b after right once s =
    let a = agrees events issues b after right once s in
    record { remaining_work = a.total; start = a.start; rows = a.rows }

pub room_changes_nothing : RoomChangesNothing
room_changes_nothing [] old new after grows = λ s. grows.courses s ∙ after s
room_changes_nothing (event ∷ past) old new after grows =
    (after.0, after.1, after.2, after.3, record { courses = λ s. grows.courses s ∙ after.4.courses s; room = λ s. omega (arith, after.4.room s, grows.room s) })
