-- Cells whose end has come.
use Rattle.std.proofs.Common.{◌⊎◌, ◌≡◌, ◌≢◌, ℕ, ◌+◌, ◌<◌, ◌≤◌, Bool, true, false, Some, None, Option, List, nat_eq, if◌then◌else◌, refl, sym, ◌∙◌, ap, subst, inl, inr, arith}
use Rattle.std.specs.List.{list_any}
use Rattle.std.specs.Ordering.{nat_cmp, ordering_then, is_lt}
use Rattle.std.specs.declared.cmp.Ordering.TheVariants.{Less, Equal, Greater}
use Rattle.std.proofs.lemmas.Bool.{cases_lt, false≢true, lt-ltb}
use Rattle.std.proofs.lemmas.Bool.Decides.{nat_tests}
use Rattle.change_history.specs.History.{History}
use Rattle.jql_meaning.specs.Surroundings.{Surroundings}
use Rattle.jql_meaning.specs.Truth.{query_holds}
use Rattle.jql_meaning.specs.Critical.{IsCriticalForQuery}
use Rattle.jql_meaning.specs.Ends.{Stays}
use Rattle.filter_views.specs.FilterRow.{HasNumber}
use Rattle.filter_views.specs.Cell.{Cell, Views, cell_of, is_there}
use Rattle.filter_views.specs.Views.{Settles, IsLeastEnd, end_of_cell}
use Rattle.filter_views.specs.declared.due.Due.{Due}
use Rattle.filter_views.specs.Due.{is_before}
use Rattle.filter_views.specs.Grid.{IsGrid}
use Rattle.filter_views.specs.Counts.{is_over, due}
use Rattle.filter_views.proofs.DueCells.{settling_takes_one_off, none_is_due_before_the_next, ends_are_of_cells}
use Rattle.tracker_filters.specs.declared.filter.Filter.{Filter}
use Rattle.rising_numbers.specs.ByNumber.{by_number}
use Rattle.tracker_filters.specs.Saved.{number, condition_of}
use Rattle.tracker_filters.specs.Watched.{CellIsRight, AreCellsOf}
use Rattle.tracker_filters.specs.Cells.{IsDue, NoneIsDue}
use Rattle.rising_numbers.proofs.Listed.{is_unlisted}

-- where a truth stays, its end is later
lasts : (holds : ℕ → Bool) (Critical : ℕ → Type 0) (to : ℕ) (end : Option ℕ) → Stays holds Critical to end → is_over to end ≡ false
lasts holds Critical to None stays = refl
lasts holds Critical to (Some e) stays = let later = stays.later in grind (arith, nat_tests, later)

-- so is a right cell's
pub right_lasts : (around : Surroundings) (to : ℕ) (f : Filter) (h : History) (c : Cell) → CellIsRight around to f h c → is_over to c.end ≡ false
right_lasts around to f h c right = lasts (λ t. query_holds around h t (condition_of f)) (λ t. IsCriticalForQuery around h t (condition_of f)) to c.end right.stays

-- a cell whose end has come has one
pub end_there : (to : ℕ) (end : Option ℕ) → is_over to end ≡ true → (e : ℕ) × (end ≡ Some e)
end_there to None over = absurd (false≢true over)
end_there to (Some e) over = (e, refl)

-- and it is the cell of a filter and an issue that are there
pub due_there : (v : Views) (to n issue : ℕ) → IsGrid v → IsDue v to n issue → (is_there v n ≡ true) × HasNumber issue v.issues
due_there v to n issue grid is_due = let e = end_there to (cell_of v n issue).end is_due in ends_are_of_cells v n issue e.0 grid e.1

pub filter_there : (fs : List Filter) (hs : List History) (v : Views) (n : ℕ) → AreCellsOf fs hs v → is_there v n ≡ true → by_number number n fs ≢ None
filter_there fs hs v n cells there none = false≢true (sym (is_unlisted number n fs none) ∙ subst (λ ns. list_any (nat_eq n) ns ≡ true) cells.rows there)

-- an end that comes before another is no later
earlier : (x y : Due) → x.end < y.end → is_before x y ≡ true
unfolding is_before
earlier x y lt = ap (λ t. is_lt (ordering_then (if t then Less else (if nat_eq x.end y.end then Equal else Greater)) (ordering_then (nat_cmp x.filter.0 y.filter.0) (nat_cmp x.issue.0 y.issue.0)))) (lt-ltb x.end y.end lt)

not_earlier : (x y : Due) → is_before x y ≡ false → y.end ≤ x.end
not_earlier x y stays = by (cases_lt x.end y.end)
  where
    by : (x.end < y.end) ⊎ (y.end ≤ x.end) → y.end ≤ x.end
    by (inl lt) = absurd (false≢true (sym stays ∙ earlier x y lt))
    by (inr le) = le

-- where the least end is later, no cell is due
pub none_before : (v : Views) (to : ℕ) (d : Due) → IsLeastEnd v d → to < d.end → NoneIsDue v to
none_before v to d least later = λ n issue. by n issue (cell_of v n issue).end refl
  where
    by : (n issue : ℕ) (end : Option ℕ) → (cell_of v n issue).end ≡ end → is_over to end ≡ false
    by n issue None is = refl
    by n issue (Some e) is = let first = not_earlier (end_of_cell e n issue) d (least.least n issue e is) in grind (arith, nat_tests, first, later)

-- nor is one where no cell has an end
pub none_without_end : (v : Views) (to : ℕ) → ((n issue : ℕ) → (cell_of v n issue).end ≡ None) → NoneIsDue v to
none_without_end v to none = λ n issue. ap (is_over to) (none n issue)

-- the least end is that of a due cell, where it has come
pub least_is_due : (v : Views) (to : ℕ) (d : Due) → IsLeastEnd v d → d.end ≤ to → IsDue v to d.filter.0 d.issue.0
least_is_due v to d least come = ap (is_over to) least.there ∙ grind (arith, nat_tests, come)

pub none_counted : (v : Views) (to : ℕ) → IsGrid v → ((n issue : ℕ) → (cell_of v n issue).end ≡ None) → due v to ≡ 0
none_counted v to grid none = (none_is_due_before_the_next v None to grid none).1 tt

pub later_counted : (v : Views) (to : ℕ) (d : Due) → IsGrid v → IsLeastEnd v d → to < d.end → due v to ≡ 0
later_counted v to d grid least later = (none_is_due_before_the_next v (Some (d.end, d.filter, d.issue)) to grid least).1 later

-- settling a due cell with a right one leaves one due cell less
pub fewer_due : (around : Surroundings) (to : ℕ) (f : Filter) (h : History) (v w : Views) (n issue : ℕ) (c : Cell) → IsGrid v → IsGrid w → IsDue v to n issue → CellIsRight around to f h c → Settles v w n issue c → due v to ≡ due w to + 1
fewer_due around to f h v w n issue c grid new_grid is_due right settled = settling_takes_one_off v w n issue to c grid new_grid settled is_due (right_lasts around to f h c right)
