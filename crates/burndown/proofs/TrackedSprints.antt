-- What a look-up of a sprint finds, and what edits of the lists make of it.
use Rattle.std.proofs.Common.{◌≡◌, ◌≢◌, ℕ, zero, suc, ◌+◌, ◌-◌, ◌<◌, ◌≤◌, ◌==◌, ℤ, pos, List, [], ◌∷◌, length, get_or, set, if◌then◌else◌, vec_capacity, refl, sym, ◌∙◌, ap, subst, inl, inr, rules, arith}
use Rattle.std.specs.List.{insert}
use Rattle.std.proofs.lemmas.Bool.{cases_eq, cases_lt}
use Rattle.std.proofs.lemmas.Bool.Decides.{nat_tests}
use Rattle.std.proofs.lemmas.List.{length-set, get_or-set_other}
use Rattle.std.proofs.lemmas.Grind.{common_steps, get_or-set_at}
use Rattle.std.proofs.lemmas.List.Edits.{length-insert, get_or-insert_below, get_or-insert_at, get_or-insert_above}
use Rattle.field_values.specs.declared.numbers.SprintNo.{SprintNo}
use Rattle.burndown.specs.declared.progress.Progress.{Progress}
use Rattle.burndown.specs.declared.progress.Stage.{Stage}
use Rattle.burndown.specs.declared.progress.Stage.TheVariants.{Ahead}
use Rattle.burndown.specs.declared.share.BurnRow.{BurnRow}
use Rattle.burndown.specs.Course.{Course, IsTotal, untold}
use Rattle.burndown.specs.Tracked.{TrackedSprint, course, tracked_sprint, tracked_sprints, tracked_of, IsAhead}
use Rattle.burndown.specs.Burndown.{course_of, slots_of, remaining_of, sprint_at, total_at, total_in, IsRising, IsAt, IsGapFor, HasRoom, ChangesOnly, GrowsInRoom, IsKept}

-- no total before place i is the sprint's
abbrev pub NoneBefore : List (SprintNo × ℤ) → ℕ → ℕ → Type 0
NoneBefore ts s i = (j : ℕ) → j < i → sprint_at ts j ≢ s

none_before_tail : (t : SprintNo × ℤ) (ts : List (SprintNo × ℤ)) (s i : ℕ) → NoneBefore (t ∷ ts) s (suc i) → NoneBefore ts s i
none_before_tail t ts s i none j lt = none (suc j) (omega arith)

is_at_tail : (t : SprintNo × ℤ) (ts : List (SprintNo × ℤ)) (s i : ℕ) → IsAt (t ∷ ts) s (suc i) → IsAt ts s i
is_at_tail t ts s i at = record { in_range = omega (arith, at.in_range); is_it = at.is_it }

-- one sprint is written, and all others stand
abbrev pub Writes : List TrackedSprint → List TrackedSprint → ℕ → TrackedSprint → Type 0
Writes old new s l = (q : ℕ) → tracked_of new q ≡ (if s == q then l else tracked_of old q)

-- a sprint that isn't listed isn't tracked
pub tracked_absent : (ts : List (SprintNo × ℤ)) (ps : List Progress) (s : ℕ) → NoneBefore ts s (length ts) → tracked_of (tracked_sprints ts ps) s ≡ record { sprint = s; course = untold; slots = 0 }
tracked_absent [] ps s none = refl
tracked_absent (t ∷ ts) [] s none = refl
tracked_absent (t ∷ ts) (p ∷ ps) s none = grind (arith, nat_tests, none 0 (omega arith), tracked_absent ts ps s (none_before_tail t ts s _ none))

-- the first total of the sprint is its own
pub tracked_present : (ts : List (SprintNo × ℤ)) (ps : List Progress) (s i : ℕ) (d : SprintNo × ℤ) (e : Progress) → IsAt ts s i → NoneBefore ts s i → length ps ≡ length ts → tracked_of (tracked_sprints ts ps) s ≡ tracked_sprint (get_or ts i d) (get_or ps i e)
tracked_present [] ps s i d e at none same = absurd (omega (arith, at.in_range))
tracked_present (t ∷ ts) [] s i d e at none same = absurd (omega (arith, same))
tracked_present (t ∷ ts) (p ∷ ps) s zero d e at none same = grind (arith, nat_tests, at.is_it)
tracked_present (t ∷ ts) (p ∷ ps) s (suc i) d e at none same = grind (arith, nat_tests, none 0 (omega arith), tracked_present ts ps s i d e (is_at_tail t ts s i at) (none_before_tail t ts s i none) (omega arith))

-- writing over that total and its course writes the sprint
pub tracked_set : (ts : List (SprintNo × ℤ)) (ps : List Progress) (s i : ℕ) (x : ℤ) (p : Progress) → IsAt ts s i → NoneBefore ts s i → length ps ≡ length ts → Writes (tracked_sprints ts ps) (tracked_sprints (set ts i (record { 0 = s }, x)) (set ps i p)) s (tracked_sprint (record { 0 = s }, x) p)
tracked_set [] ps s i x p at none same q = absurd (omega (arith, at.in_range))
tracked_set (t ∷ ts) [] s i x p at none same q = absurd (omega (arith, same))
tracked_set (t ∷ ts) (b ∷ ps) s zero x p at none same q = grind (arith, nat_tests, at.is_it)
tracked_set (t ∷ ts) (b ∷ ps) s (suc i) x p at none same q = grind (arith, nat_tests, none 0 (omega arith), tracked_set ts ps s i x p (is_at_tail t ts s i at) (none_before_tail t ts s i none) (omega arith) q)

-- so does writing over the course alone
pub tracked_set_course : (ts : List (SprintNo × ℤ)) (ps : List Progress) (s i : ℕ) (d : SprintNo × ℤ) (p : Progress) → IsAt ts s i → NoneBefore ts s i → length ps ≡ length ts → Writes (tracked_sprints ts ps) (tracked_sprints ts (set ps i p)) s (tracked_sprint (get_or ts i d) p)
tracked_set_course [] ps s i d p at none same q = absurd (omega (arith, at.in_range))
tracked_set_course (t ∷ ts) [] s i d p at none same q = absurd (omega (arith, same))
tracked_set_course (t ∷ ts) (b ∷ ps) s zero d p at none same q = grind (arith, nat_tests, at.is_it)
tracked_set_course (t ∷ ts) (b ∷ ps) s (suc i) d p at none same q = grind (arith, nat_tests, none 0 (omega arith), tracked_set_course ts ps s i d p (is_at_tail t ts s i at) (none_before_tail t ts s i none) (omega arith) q)

-- and so do a new total and its course before any total of the sprint
pub tracked_insert : (ts : List (SprintNo × ℤ)) (ps : List Progress) (s i : ℕ) (x : ℤ) (p : Progress) → NoneBefore ts s i → length ps ≡ length ts → Writes (tracked_sprints ts ps) (tracked_sprints (insert ts i (record { 0 = s }, x)) (insert ps i p)) s (tracked_sprint (record { 0 = s }, x) p)
tracked_insert ts ps s zero x p none same q = refl
tracked_insert [] [] s (suc i) x p none same q = refl
tracked_insert [] (b ∷ ps) s (suc i) x p none same q = absurd (omega (arith, same))
tracked_insert (t ∷ ts) [] s (suc i) x p none same q = absurd (omega (arith, same))
tracked_insert (t ∷ ts) (b ∷ ps) s (suc i) x p none same q = grind (arith, nat_tests, none 0 (omega arith), tracked_insert ts ps s i x p (none_before_tail t ts s i none) (omega arith) q)

-- the total in the list is the sprint's
pub total_in-tracked : (ts : List (SprintNo × ℤ)) (ps : List Progress) (s : ℕ) → length ps ≡ length ts → total_in ts s ≡ (tracked_of (tracked_sprints ts ps) s).course.total
total_in-tracked [] ps s same = refl
total_in-tracked (t ∷ ts) [] s same = absurd (omega (arith, same))
total_in-tracked (t ∷ ts) (p ∷ ps) s same = grind (arith, nat_tests, total_in-tracked ts ps s (omega arith))

-- a sprint that is written with the same room changes in its course alone
pub changes_only_from_writes : (old new : List TrackedSprint) (s : ℕ) (l : TrackedSprint) → Writes old new s l → l.slots ≡ slots_of old s → ChangesOnly old new s l.course
changes_only_from_writes old new s l writes same = record {
  this = grind (arith, nat_tests, writes s);
  others = λ q differs. grind (arith, nat_tests, writes q);
  room = λ q. grind (arith, nat_tests, writes q, λ (e : s ≡ q). ap (slots_of old) e);
}

-- a sprint that is written with the same course and no less room only grows in room
pub grows_from_writes : (old new : List TrackedSprint) (s : ℕ) (l : TrackedSprint) → Writes old new s l → l.course ≡ course_of old s → slots_of old s ≤ l.slots → GrowsInRoom old new
grows_from_writes old new s l writes same more = record {
  courses = λ q. grind (arith, nat_tests, writes q, λ (e : s ≡ q). ap (course_of old) e);
  room = λ q. grind (arith, nat_tests, writes q, λ (e : s ≡ q). ap (slots_of old) e);
}

pub room_from_writes : (old new : List TrackedSprint) (s : ℕ) (l : TrackedSprint) → Writes old new s l → length l.course.rows < l.slots → HasRoom new s
room_from_writes old new s l writes room =
    let here : tracked_of new s ≡ l = grind (arith, nat_tests, writes s) in
    subst (λ (y : TrackedSprint). length y.course.rows < y.slots) (sym here) room

module _ (ts : List (SprintNo × ℤ)) (rising : IsRising ts) (s i : ℕ) (at : IsAt ts s i) where
  -- smaller numbers stand before the place
  pub none_before_at : NoneBefore ts s i
  none_before_at j lt same = omega (arith, rising j i lt at.in_range, at.is_it)

  -- the order stays, since every number does
  pub rising_set : (x : ℤ) → IsRising (set ts i (record { 0 = s }, x))
  rising_set x j k lt in_range = grind (arith, common_steps, rising j k, rising j i, rising i k, at.in_range, at.is_it)

module _ (ts : List (SprintNo × ℤ)) (s i : ℕ) (gap : IsGapFor ts s i) where
  pub none_before_gap : NoneBefore ts s i
  none_before_gap j lt same = omega (arith, gap.smaller_before j lt)

  pub none_in_list : NoneBefore ts s (length ts)
  none_in_list j lt same = grind (arith, gap.smaller_before j, gap.greater_after j)

  -- it keeps the order: each number is an old one below the gap, s at it, or an old one moved up by one
  pub rising_insert : (x : ℤ) → IsRising ts → IsRising (insert ts i (record { 0 = s }, x))
  rising_insert x rising j k lt in_range =
      let d : SprintNo × ℤ = (record { 0 = 0 }, pos 0) in
      let t : SprintNo × ℤ = (record { 0 = s }, x) in
      let new = insert ts i t in
      let number = λ (y : SprintNo × ℤ). y.0.0 in
      let length_new = length-insert ts i t gap.in_range in
      let below : (j : ℕ) → j < i → sprint_at new j ≡ sprint_at ts j = λ j lt. ap number (get_or-insert_below ts i t d j lt gap.in_range) in
      let here : (j : ℕ) → j ≡ i → sprint_at new j ≡ s = λ j e. rw e (ap number (get_or-insert_at ts i t d gap.in_range)) in
      let above : (j : ℕ) → i < j → sprint_at new j ≡ sprint_at ts (j - 1) = λ j lt. subst (λ q. sprint_at new q ≡ sprint_at ts (j - 1)) {x = j - 1 + 1} (omega arith) (ap number (get_or-insert_above ts i t d (j - 1) (omega arith) gap.in_range)) in
      grind (arith, below j, here j, above j, below k, here k, above k, rising j k, rising j (k - 1), rising (j - 1) (k - 1), gap.smaller_before j, gap.greater_after (k - 1))

module _ (ts : List (SprintNo × ℤ)) (ps : List Progress) (kept : IsKept ts ps) (s i : ℕ) (at : IsAt ts s i) where
  -- a sprint that was found
  pub tracked_at : (d : SprintNo × ℤ) (e : Progress) → tracked_of (tracked_sprints ts ps) s ≡ tracked_sprint (get_or ts i d) (get_or ps i e)
  tracked_at d e = tracked_present ts ps s i d e at (none_before_at ts kept.rising s i at) kept.same_length

  -- its total and its course are written over, with the same room
  pub changes_at : (x : ℤ) (p e : Progress) → vec_capacity p.rows ≡ vec_capacity (get_or ps i e).rows →
      ChangesOnly (tracked_sprints ts ps) (tracked_sprints (set ts i (record { 0 = s }, x)) (set ps i p)) s (course x p)
  changes_at x p e room =
      changes_only_from_writes _ _ s _ (tracked_set ts ps s i x p at (none_before_at ts kept.rising s i at) kept.same_length)
      (room ∙ sym (ap (λ l. l.slots) (tracked_at (record { 0 = 0 }, pos 0) e)))

  -- its course alone is written over
  pub changes_course_at : (d : SprintNo × ℤ) (p e : Progress) → vec_capacity p.rows ≡ vec_capacity (get_or ps i e).rows →
      ChangesOnly (tracked_sprints ts ps) (tracked_sprints ts (set ps i p)) s (course (get_or ts i d).1 p)
  changes_course_at d p e room =
      changes_only_from_writes _ _ s _ (tracked_set_course ts ps s i d p at (none_before_at ts kept.rising s i at) kept.same_length)
      (room ∙ sym (ap (λ l. l.slots) (tracked_at d e)))

-- a sprint that was not found isn't tracked
pub tracked_in_gap : (ts : List (SprintNo × ℤ)) (ps : List Progress) (s i : ℕ) → IsGapFor ts s i → tracked_of (tracked_sprints ts ps) s ≡ record { sprint = s; course = untold; slots = 0 }
tracked_in_gap ts ps s i gap = tracked_absent ts ps s (none_in_list ts s i gap)

-- the total at the place is the sprint's
pub total_found : (ts : List (SprintNo × ℤ)) (ps : List Progress) → IsKept ts ps → (s i : ℕ) → IsAt ts s i → (t : SprintNo × ℤ) → t ≡ get_or ts i t → t.1 ≡ remaining_of (tracked_sprints ts ps) s
total_found ts [] kept s i at t is = absurd (omega (arith, kept.same_length, at.in_range))
total_found ts (p ∷ ps) kept s i at t is = ap (λ y. y.1) is ∙ sym (ap (λ l. l.course.total) (tracked_at ts (p ∷ ps) kept s i at t p))

-- the course at the place is the sprint's
pub course_found : (ts : List (SprintNo × ℤ)) (ps : List Progress) → IsKept ts ps → (s i : ℕ) → IsAt ts s i → (p : Progress) → p ≡ get_or ps i p → course (remaining_of (tracked_sprints ts ps) s) p ≡ course_of (tracked_sprints ts ps) s
course_found ts ps kept s i at p is =
    let t : SprintNo × ℤ = get_or ts i (record { 0 = 0 }, pos 0) in
    let here = tracked_at ts ps kept s i at (record { 0 = 0 }, pos 0) p in
    ap (λ x. course x p) (ap (λ l. l.course.total) here) ∙ ap (course t.1) is ∙ sym (ap (λ l. l.course) here)

pub slots_found : (ts : List (SprintNo × ℤ)) (ps : List Progress) → IsKept ts ps → (s i : ℕ) → IsAt ts s i → (p : Progress) → p ≡ get_or ps i p → vec_capacity p.rows ≡ slots_of (tracked_sprints ts ps) s
slots_found ts ps kept s i at p is = ap (λ y. vec_capacity y.rows) is ∙ sym (ap (λ l. l.slots) (tracked_at ts ps kept s i at (record { 0 = 0 }, pos 0) p))

-- another stage at the place is the sprint's
pub stage_written : (ts : List (SprintNo × ℤ)) (ps : List Progress) → IsKept ts ps → (s i : ℕ) → IsAt ts s i → (p : Progress) → p ≡ get_or ps i p → (stage : Stage) →
    ChangesOnly (tracked_sprints ts ps) (tracked_sprints ts (set ps i (record { stage = stage; rows = p.rows }))) s (record (course_of (tracked_sprints ts ps) s) { stage = stage })
stage_written ts ps kept s i at p is stage =
    let d : SprintNo × ℤ = (record { 0 = 0 }, pos 0) in
    let t : SprintNo × ℤ = get_or ts i d in
    let q : Progress = record { stage = stage; rows = p.rows } in
    let course_is : course t.1 q ≡ record (course_of (tracked_sprints ts ps) s) { stage = stage } =
    ap (λ (y : Progress). course t.1 (record { stage = stage; rows = y.rows })) is ∙ sym (ap (λ (l : TrackedSprint). let c : Course = record l.course { stage = stage } in c) (tracked_at ts ps kept s i at d p)) in
    subst (ChangesOnly (tracked_sprints ts ps) (tracked_sprints ts (set ps i q)) s) course_is (changes_course_at ts ps kept s i at d q p (ap (λ (y : Progress). vec_capacity y.rows) is))

-- where a total is written over, all that is kept of the lists still holds
pub kept_set : (ts : List (SprintNo × ℤ)) (ps : List Progress) → IsKept ts ps → (s i : ℕ) → IsAt ts s i → (x : ℤ) (p : Progress) → IsTotal x → IsKept (set ts i (record { 0 = s }, x)) (set ps i p)
kept_set ts ps kept s i at x p total =
    let d : SprintNo × ℤ = (record { 0 = 0 }, pos 0) in
    let t : SprintNo × ℤ = (record { 0 = s }, x) in
    let amount = λ (y : SprintNo × ℤ). y.1 in
    record {
      same_length = simp length-set kept.same_length;
      rising = rising_set ts kept.rising s i at x;
      in_range = λ j lt. elim (cases_eq j i) as (λ _. IsTotal (total_at (set ts i t) j)) [
        | inl same ↦ subst IsTotal (sym (ap amount (get_or-set_at ts i j t d same at.in_range))) total
        | inr other ↦ subst IsTotal (sym (ap amount (get_or-set_other ts i j t d other))) (kept.in_range j (simp length-set at lt))
      ];
    }

-- the same where a total of 0 comes in
pub kept_insert : (ts : List (SprintNo × ℤ)) (ps : List Progress) → IsKept ts ps → (s i : ℕ) → IsGapFor ts s i → (p : Progress) → IsKept (insert ts i (record { 0 = s }, pos 0)) (insert ps i p)
kept_insert ts ps kept s i gap p =
    let d : SprintNo × ℤ = (record { 0 = 0 }, pos 0) in
    let t : SprintNo × ℤ = (record { 0 = s }, pos 0) in
    let new = insert ts i t in
    let amount = λ (y : SprintNo × ℤ). y.1 in
    let longer = length-insert ts i t gap.in_range in
    let longer_too = length-insert ps i p (omega (arith, gap.in_range, kept.same_length)) in
    record {
      same_length = omega (arith, longer, longer_too, kept.same_length);
      rising = rising_insert ts s i gap (pos 0) kept.rising;
      in_range = λ j lt. elim (cases_eq j i) as (λ _. IsTotal (total_at new j)) [
        | inl same ↦ subst (λ k. IsTotal (total_at new k)) (sym same) (subst IsTotal (sym (ap amount (get_or-insert_at ts i t d gap.in_range))) (search rules))
        | inr other ↦ elim (cases_lt j i) as (λ _. IsTotal (total_at new j)) [
          | inl below ↦ subst IsTotal (sym (ap amount (get_or-insert_below ts i t d j below gap.in_range))) (kept.in_range j (omega (arith, gap.in_range)))
          | inr above ↦
              let moved : total_at new (j - 1 + 1) ≡ total_at ts (j - 1) = ap amount (get_or-insert_above ts i t d (j - 1) (omega arith) gap.in_range) in
              let back : j - 1 + 1 ≡ j = omega arith in
              subst IsTotal (sym (subst (λ k. total_at new k ≡ total_at ts (j - 1)) back moved)) (kept.in_range (j - 1) (omega (arith, longer)))
        ]
      ];
    }

-- a course that is written over by one with the same look changes no sprint
pub tracked_set_same : (ts : List (SprintNo × ℤ)) (ps : List Progress) (i : ℕ) (p : Progress) → p ≡ get_or ps i p → (q : Progress) → q.stage ≡ p.stage → q.rows.items ≡ p.rows.items → vec_capacity q.rows ≡ vec_capacity p.rows → tracked_sprints ts (set ps i q) ≡ tracked_sprints ts ps
tracked_set_same [] [] i p is q stage rows room = refl
tracked_set_same [] (b ∷ ps) i p is q stage rows room = refl
tracked_set_same (t ∷ ts) [] i p is q stage rows room = refl
tracked_set_same (t ∷ ts) (b ∷ ps) zero p is q stage rows room =
    let first : Stage → List BurnRow → ℕ → List TrackedSprint = λ y r n. record { sprint = t.0.0; course = record { total = t.1; stage = y; rows = r }; slots = n } ∷ tracked_sprints ts ps in
    ap (λ y. first y q.rows.items (vec_capacity q.rows)) stage ∙ ap (λ r. first p.stage r (vec_capacity q.rows)) rows ∙ ap (first p.stage p.rows.items) room ∙ ap (λ y. tracked_sprint t y ∷ tracked_sprints ts ps) is
tracked_set_same (t ∷ ts) (b ∷ ps) (suc i) p is q stage rows room = ap (λ ls. tracked_sprint t b ∷ ls) (tracked_set_same ts ps i p is q stage rows room)

module _ (ts : List (SprintNo × ℤ)) (ps : List Progress) (kept : IsKept ts ps) (s i : ℕ) where
  -- rows with more room at the place give the sprint more room, and change nothing else
  pub grows_at : IsAt ts s i → (p : Progress) → p ≡ get_or ps i p → (q : Progress) → q.stage ≡ p.stage → q.rows.items ≡ p.rows.items → vec_capacity p.rows ≤ vec_capacity q.rows → GrowsInRoom (tracked_sprints ts ps) (tracked_sprints ts (set ps i q))
  grows_at at p is q stage rows room =
      let d : SprintNo × ℤ = (record { 0 = 0 }, pos 0) in
      let writes = tracked_set_course ts ps s i d q at (none_before_at ts kept.rising s i at) kept.same_length in
      let total_is = ap (λ l. l.course.total) (tracked_at ts ps kept s i at d p) in
      let same_course : course (get_or ts i d).1 q ≡ course_of (tracked_sprints ts ps) s =
      sym (ap (λ x. course x q) total_is) ∙ ap (λ (r : Stage). let c : Course = record { total = remaining_of (tracked_sprints ts ps) s; stage = r; rows = q.rows.items } in c) stage ∙
      ap (λ (r : List BurnRow). let c : Course = record { total = remaining_of (tracked_sprints ts ps) s; stage = p.stage; rows = r } in c) rows ∙ course_found ts ps kept s i at p is in
      let slots = slots_found ts ps kept s i at p is in
      grows_from_writes _ _ s _ writes same_course (omega (arith, slots))

  -- and there is room for a row more
  pub room_at : IsAt ts s i → (q : Progress) → length q.rows.items < vec_capacity q.rows → HasRoom (tracked_sprints ts (set ps i q)) s
  room_at at q room =
      let writes = tracked_set_course ts ps s i (record { 0 = 0 }, pos 0) q at (none_before_at ts kept.rising s i at) kept.same_length in
      room_from_writes _ _ s _ writes room

  -- a sprint that comes in has had nothing told of it
  pub grows_in_gap : IsGapFor ts s i → (q : Progress) → IsAhead q → GrowsInRoom (tracked_sprints ts ps) (tracked_sprints (insert ts i (record { 0 = s }, pos 0)) (insert ps i q))
  grows_in_gap gap q ahead =
      let writes = tracked_insert ts ps s i (pos 0) q (none_before_gap ts s i gap) kept.same_length in
      let none = tracked_in_gap ts ps s i gap in
      let same_course : course (pos 0) q ≡ course_of (tracked_sprints ts ps) s =
      ap (λ (r : Stage). let c : Course = record { total = pos 0; stage = r; rows = q.rows.items } in c) ahead.stage ∙
      ap (λ (r : List BurnRow). let c : Course = record { total = pos 0; stage = Ahead; rows = r } in c) ahead.rows ∙ sym (ap (λ l. l.course) none) in
      grows_from_writes _ _ s _ writes same_course (omega (arith, ap (λ l. l.slots) none))

  pub room_in_gap : IsGapFor ts s i → (q : Progress) → IsAhead q → HasRoom (tracked_sprints (insert ts i (record { 0 = s }, pos 0)) (insert ps i q)) s
  room_in_gap gap q ahead =
      let writes = tracked_insert ts ps s i (pos 0) q (none_before_gap ts s i gap) kept.same_length in
      room_from_writes _ _ s _ writes (omega (arith, ap length ahead.rows, ahead.room))
