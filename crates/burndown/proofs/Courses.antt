-- What a group makes of the sprints that it names, and of those that it doesn't.
use Rattle.std.proofs.Common.{◌≡◌, ℕ, ℤ, pos, ◌+ℤ◌, ◌-ℤ◌, Bool, true, false, List, [], ◌++◌, Option, Some, None, IfSome, length, not, ◌&&◌, if◌then◌else◌, rules, refl, sym, ◌∙◌, ap, append-nil, arith}
use mathlib.Core.Bool.{false≢true}
use Rattle.std.specs.Cmp.{signed_Decides}
use Rattle.std.proofs.lemmas.Bool.Decides.{nat_tests}
use Rattle.std.proofs.lemmas.Int.{ints}
use Rattle.field_values.specs.declared.numbers.SprintNo.{SprintNo}
use Rattle.burndown.specs.declared.share.Share.{Share}
use Rattle.burndown.specs.declared.share.BurnRow.{BurnRow}
use Rattle.burndown.specs.declared.group.Group.{Group}
use Rattle.burndown.specs.declared.progress.Stage.{Stage}
use Rattle.burndown.specs.declared.progress.Stage.TheVariants.{Ahead, Running, Ended}
use Rattle.burndown.specs.Share.{names, counts_for, counted_before}
use Rattle.burndown.specs.Group.{sprint_before, first_sprint, other_than, second_sprint}
use Rattle.burndown.specs.Course.{Course, IsTotal, total_after, row_where_changed, told_in, after_group}
use Rattle.burndown.specs.Tracked.{TrackedSprint}
use Rattle.burndown.specs.Small.{IsSmall, SmallBefore}
use Rattle.burndown.specs.Burndown.{course_of, remaining_of, HasRoom, FitsAfter, GrowsInRoom, TellsNamed, TellsGroup}

-- an issue counts for nothing in a sprint that it isn't in
counts_for_other : (s : ℕ) (share : Share) → names share.sprint s ≡ false → counts_for s share ≡ pos 0
counts_for_other s share other = rw other refl

counted_before_other : (s : ℕ) (before : Option Share) → names (sprint_before before) s ≡ false → counted_before s before ≡ pos 0
counted_before_other s None other = refl
counted_before_other s (Some share) other = counts_for_other s share other

-- a sprint that is neither named before nor told of as another one isn't named after
not_named_after : (first second : Option SprintNo) (s : ℕ) → names first s ≡ false → names (other_than first second) s ≡ false → names second s ≡ false
not_named_after None second s a b = b
not_named_after (Some first) None s a b = refl
not_named_after (Some first) (Some second) s a b = grind (arith, nat_tests)

-- a sprint that is named before isn't told again
named_once : (first second : Option SprintNo) (s : ℕ) → names first s ≡ true → names (other_than first second) s ≡ false
named_once None second s a = absurd (false≢true a)
named_once (Some first) None s a = refl
named_once (Some first) (Some second) s a = grind (arith, nat_tests)

-- a total that nothing is taken from and nothing added to stays, and has no row
same_total : (total : ℤ) → (total -ℤ pos 0) +ℤ pos 0 ≡ total
same_total total = omega (arith, ints)

pub no_row : (group : Group) (total : ℤ) → row_where_changed group total total ≡ []
no_row group total = rw ((signed_Decides total total).1 refl) refl

told_same : (stage : Stage) (s : ℕ) (group : Group) (c : Course) → total_after s group c.total ≡ c.total → told_in stage s group c ≡ c
told_same Ahead s group c same = ap (λ (x : ℤ). let d : Course = record c { total = x } in d) same
told_same (Running start) s group c same =
    let changed : ℤ → Course = λ x. record c { total = x; rows = c.rows ++ row_where_changed group c.total x } in
    let none : List BurnRow → Course = λ r. record c { rows = r } in
    ap changed same ∙ ap (λ r. none (c.rows ++ r)) (no_row group c.total) ∙ ap none (append-nil c.rows)
told_same (Ended start) s group c same = refl

-- a group changes nothing in a sprint that it doesn't name
unnamed : (s : ℕ) (group : Group) (c : Course) → names (first_sprint group) s ≡ false → names (second_sprint group) s ≡ false → after_group s group c ≡ c
unnamed s group c first second =
    let lost = counted_before_other s group.before first in
    let gained = counts_for_other s group.after (not_named_after (first_sprint group) group.after.sprint s first second) in
    told_same c.stage s group c (ap (λ x. (c.total -ℤ x) +ℤ counts_for s group.after) lost ∙ ap (λ x. (c.total -ℤ pos 0) +ℤ x) gained ∙ same_total c.total)

-- so, told of the sprint before and then of another one after, a burndown has each sprint take the group in
pub tells_group : (old mid new : List TrackedSprint) (group : Group) → TellsNamed old mid (first_sprint group) group → TellsNamed mid new (second_sprint group) group → TellsGroup old new group
tells_group old mid new group first second = record {
  courses = λ s. both s (names (first_sprint group) s) refl (names (second_sprint group) s) refl;
  room = λ s. second.room s ∙ first.room s;
}
  where
    both : (s : ℕ) (x : Bool) → names (first_sprint group) s ≡ x → (y : Bool) → names (second_sprint group) s ≡ y → course_of new s ≡ after_group s group (course_of old s)
    both s true is_first true is_second = absurd (false≢true (sym (named_once (first_sprint group) group.after.sprint s is_first) ∙ is_second))
    both s true is_first false is_second = rw is_second at (second.courses s) ∙ rw is_first at (first.courses s)
    both s false is_first true is_second = rw is_second at (second.courses s) ∙ ap (after_group s group) (rw is_first at (first.courses s))
    both s false is_first false is_second = rw is_second at (second.courses s) ∙ rw is_first at (first.courses s) ∙ sym (unnamed s group (course_of old s) is_first is_second)

-- a group changes no stage
pub stage-after_group : (s : ℕ) (group : Group) (c : Course) → (after_group s group c).stage ≡ c.stage
stage-after_group s group c = by c.stage
  where
    by : (stage : Stage) → (told_in stage s group c).stage ≡ c.stage
    by Ahead = refl
    by (Running start) = refl
    by (Ended start) = refl

counts_small : (s : ℕ) (share : Share) → IsSmall share.points → IsSmall (counts_for s share)
counts_small s share small = by (names share.sprint s && not share.done)
  where
    by : (x : Bool) → IsSmall (if x then share.points else pos 0)
    by true = small
    by false = search rules

before_small : (s : ℕ) (before : Option Share) → SmallBefore before → IsSmall (counted_before s before)
before_small s None small = search rules
before_small s (Some share) small = counts_small s share small

pub small_fits : (b : List TrackedSprint) (s : ℕ) (group : Group) → IsSmall (remaining_of b s) → SmallBefore group.before → IsSmall group.after.points → FitsAfter b s group
small_fits b s group total before after = by (course_of b s).stage
  where
    fits : (t l a : ℤ) → IsSmall t → IsSmall l → IsSmall a → IsTotal ((t -ℤ l) +ℤ a)
    fits t l a ht hl ha = (omega (arith, ints, ht, hl, ha), omega (arith, ints, ht, hl, ha))

    small_total : (t : ℤ) → IsSmall t → IsTotal t
    small_total t h = (omega (arith, ints, h), omega (arith, ints, h))

    changed : IsTotal (total_after s group (remaining_of b s))
    changed = fits _ _ _ total (before_small s group.before before) (counts_small s group.after after)

    by : (stage : Stage) → IsTotal (told_in stage s group (course_of b s)).total
    by Ahead = changed
    by (Running start) = changed
    by (Ended start) = small_total _ total

-- room stays where room grows
pub room_stays : (old new : List TrackedSprint) (sprint : Option SprintNo) → GrowsInRoom old new → IfSome sprint (λ s. HasRoom old s.0) → IfSome sprint (λ s. HasRoom new s.0)
room_stays old new None grows room = tt
room_stays old new (Some sprint) grows room = omega (arith, room, ap (λ (c : Course). length c.rows) (grows.courses sprint.0), grows.room sprint.0)
