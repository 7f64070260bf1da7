-- Cells that are right, and stay so.
use Rattle.std.proofs.Common.{◌⊎◌, ◌≡◌, ◌≢◌, ℕ, zero, suc, ◌+◌, ◌-◌, ◌<◌, ◌≤◌, ◌==◌, false, Some, None, Option, List, [], ◌∷◌, ◌++◌, length, set, slice_get, if◌then◌else◌, sym, ◌∙◌, ap, subst, inl, inr, arith}
use Rattle.std.proofs.lemmas.Bool.{cases_eq}
use Rattle.std.proofs.lemmas.Bool.Decides.{nat_tests}
use Rattle.std.proofs.lemmas.Option.{none-some, same_Some}
use Rattle.field_values.specs.Years.{last_second}
use Rattle.change_history.specs.History.{History}
use Rattle.jql_meaning.specs.Surroundings.{Surroundings}
use Rattle.jql_eval.specs.Told.{Told}
use Rattle.jql_eval.specs.Right.{IsBeforeEnd}
use Rattle.jql_eval.proofs.Rights.{stays_right}
use Rattle.filter_views.specs.Cell.{Cell, Views, cell_of}
use Rattle.filter_views.specs.Views.{Settles, RemovesFilter}
use Rattle.filter_views.specs.Counts.{is_over}
use Rattle.tracker_filters.specs.declared.filter.Filter.{Filter}
use Rattle.rising_numbers.specs.ByNumber.{RiseFrom, by_number, put_by_number, without_number}
use Rattle.tracker_filters.specs.Saved.{number, condition_of}
use Rattle.tracker_filters.specs.Watched.{CellIsRight, AreRight}
use Rattle.tracker_filters.specs.Ready.{AreVerdicts}
use Rattle.tracker_filters.specs.Cells.{SettlesIssue, SettlesFilter, cell_from, NoneIsDue, ArePending}
use Rattle.tracker_filters.proofs.Lists.{get_pushed, get_set, get_beside}
use Rattle.rising_numbers.proofs.ByNumber.{by_put, by_without}

module _ (around : Surroundings) (moment : ℕ) where
  -- the same cell is right as well
  right_same : (f : Filter) (h : History) (c d : Cell) → d ≡ c → CellIsRight around moment f h c → CellIsRight around moment f h d
  right_same f h c d same right = subst (CellIsRight around moment f h) (sym same) right

  pub all_same : (hs : List History) (fs : List Filter) (v w : Views) → ((m j : ℕ) → cell_of w m j ≡ cell_of v m j) → AreRight around moment hs fs v → AreRight around moment hs fs w
  all_same hs fs v w same right = record { each = λ m place f h found at. right_same f h _ _ (same m (place + 1)) (right.each m place f h found at) }

  -- a new issue is seen, or one that has changed
  pub right_new : (hs : List History) (h : History) (fs : List Filter) (issue : ℕ) (v w : Views) → issue ≡ length hs + 1 → AreRight around moment hs fs v → SettlesIssue around moment fs h issue v w → AreRight around moment (hs ++ h ∷ []) fs w
  right_new hs h fs issue v w next right settled = record {
    each = λ m place f k found at. elim (get_pushed hs h k place at) [
      | inl old ↦ let within = below hs place k old in right_same f k _ _ (settled.others m (place + 1) (λ e. absurd (omega (arith, e, next, within)))) (right.each m place f k found old)
      | inr new ↦ subst (λ (x : History). CellIsRight around moment f x (cell_of w m (place + 1))) new.1
          (subst (λ n. CellIsRight around moment f h (cell_of w m n)) (next ∙ ap (λ n. n + 1) (sym new.0)) (settled.right m f found))
    ];
  }
    where
      below : (xs : List History) (k : ℕ) (x : History) → slice_get xs k ≡ Some x → k < length xs
      below [] k x is = absurd (none-some x is)
      below (y ∷ ys) zero x is = omega arith
      below (y ∷ ys) (suc k) x is = let h = below ys k x is in omega (arith, h)

  pub right_change : (hs : List History) (h : History) (fs : List Filter) (issue : ℕ) (v w : Views) → 0 < issue → AreRight around moment hs fs v → SettlesIssue around moment fs h issue v w → AreRight around moment (set hs (issue - 1) h) fs w
  right_change hs h fs issue v w positive right settled = record {
    each = λ m place f k found at. elim (get_set hs (issue - 1) h k place at) [
      | inl old ↦ right_same f k _ _ (settled.others m (place + 1) (λ e. old.0 (omega (arith, e)))) (right.each m place f k found old.1)
      | inr new ↦ subst (λ (x : History). CellIsRight around moment f x (cell_of w m (place + 1))) new.1
          (subst (λ n. CellIsRight around moment f h (cell_of w m n)) (omega (arith, positive, new.0)) (settled.right m f found))
    ];
  }

  -- a filter is put in
  pub right_put : (hs : List History) (fs : List Filter) (f : Filter) (verdicts : List Told) (v w : Views) → AreRight around moment hs fs v → AreVerdicts around moment (condition_of f) hs verdicts → SettlesFilter verdicts (number f) v w → AreRight around moment hs (put_by_number number f fs) w
  right_put hs fs f verdicts v w right made settled = record { each = λ m place g h found at. by m place g h (cases_eq (number f) m) found at }
    where
      by : (m place : ℕ) (g : Filter) (h : History) → (number f ≡ m) ⊎ (number f ≢ m) → by_number number m (put_by_number number f fs) ≡ Some g → slice_get hs place ≡ Some h → CellIsRight around moment g h (cell_of w m (place + 1))
      by m place g h (inl e) found at =
          let own : (if number f == m then Some f else by_number number m fs) ≡ Some f = grind (arith, nat_tests, e) in
          let same = same_Some f g (sym own ∙ sym (by_put number m f fs) ∙ found) in
          let t = get_beside hs verdicts place h made.many at in
          let cell : cell_of w m (place + 1) ≡ cell_from t.0 = subst (λ n. cell_of w n (place + 1) ≡ cell_from t.0) e (settled.these place t.0 t.1) in
          subst (λ (x : Filter). CellIsRight around moment x h (cell_of w m (place + 1))) same
          (subst (CellIsRight around moment f h) (sym cell) (made.right place h t.0 at t.1))
      by m place g h (inr ne) found at =
          let other : (if number f == m then Some f else by_number number m fs) ≡ by_number number m fs = grind (arith, nat_tests, ne) in
          right_same g h _ _ (settled.others m (place + 1) (λ e. ne (sym e))) (right.each m place g h (sym other ∙ sym (by_put number m f fs) ∙ found) at)

  -- a filter is taken away
  pub right_without : (hs : List History) (fs : List Filter) (n : ℕ) (v w : Views) → RiseFrom number 1 fs → AreRight around moment hs fs v → RemovesFilter v w n → AreRight around moment hs (without_number number n fs) w
  right_without hs fs n v w rising right removed = record { each = λ m place g h found at. by m place g h (cases_eq n m) found at }
    where
      by : (m place : ℕ) (g : Filter) (h : History) → (n ≡ m) ⊎ (n ≢ m) → by_number number m (without_number number n fs) ≡ Some g → slice_get hs place ≡ Some h → CellIsRight around moment g h (cell_of w m (place + 1))
      by m place g h (inl e) found at =
          let gone : (if n == m then None else by_number number m fs) ≡ None = grind (arith, nat_tests, e) in
          absurd (none-some g (sym gone ∙ sym (by_without number 1 n m fs rising) ∙ found))
      by m place g h (inr ne) found at =
          let other : (if n == m then None else by_number number m fs) ≡ by_number number m fs = grind (arith, nat_tests, ne) in
          right_same g h _ _ (removed.others m (place + 1) (λ e. ne (sym e))) (right.each m place g h (sym other ∙ sym (by_without number 1 n m fs rising) ∙ found) at)

-- ---- on the way to a moment

-- where an end hasn't come, the moment is before it
before_end : (to : ℕ) (end : Option ℕ) → to ≤ last_second → is_over to end ≡ false → IsBeforeEnd to end
before_end to None known over = known
before_end to (Some end) known over = grind (arith, nat_tests, over)

pub pending_begins : (around : Surroundings) (moment to : ℕ) (hs : List History) (fs : List Filter) (v : Views) → moment ≤ to → to ≤ last_second → AreRight around moment hs fs v → ArePending around to hs fs v
pending_begins around moment to hs fs v later known right = record {
  each = λ m place f h found at over. stays_right around h (condition_of f) moment to _ _ (right.each m place f h found at) later (before_end to _ known over);
}

pub pending_settled : (around : Surroundings) (to : ℕ) (hs : List History) (fs : List Filter) (v w : Views) (n issue : ℕ) (f : Filter) (h : History) (c : Cell) → 0 < issue → by_number number n fs ≡ Some f → slice_get hs (issue - 1) ≡ Some h → CellIsRight around to f h c → Settles v w n issue c → ArePending around to hs fs v → ArePending around to hs fs w
pending_settled around to hs fs v w n issue f h c positive is_f is_h right settled pending = record { each = λ m place g k found at over. by m place g k (cases_eq m n) (cases_eq (place + 1) issue) found at over }
  where
    other : (m place : ℕ) (g : Filter) (k : History) → (m ≡ n → place + 1 ≡ issue → ⊥) → by_number number m fs ≡ Some g → slice_get hs place ≡ Some k → is_over to (cell_of w m (place + 1)).end ≡ false → CellIsRight around to g k (cell_of w m (place + 1))
    other m place g k ne found at over =
        let same = settled.others m (place + 1) ne in
        subst (CellIsRight around to g k) (sym same) (pending.each m place g k found at (ap (λ (d : Cell). is_over to d.end) (sym same) ∙ over))

    by : (m place : ℕ) (g : Filter) (k : History) → (m ≡ n) ⊎ (m ≢ n) → (place + 1 ≡ issue) ⊎ (place + 1 ≢ issue) → by_number number m fs ≡ Some g → slice_get hs place ≡ Some k → is_over to (cell_of w m (place + 1)).end ≡ false → CellIsRight around to g k (cell_of w m (place + 1))
    by m place g k (inl a) (inl b) found at over =
        let filter : f ≡ g = same_Some f g (sym is_f ∙ ap (λ m. by_number number m fs) (sym a) ∙ found) in
        let here : issue - 1 ≡ place = omega (arith, b) in
        let history : h ≡ k = same_Some h k (sym is_h ∙ ap (slice_get hs) here ∙ at) in
        let cell : cell_of w m (place + 1) ≡ c = ap (λ m. cell_of w m (place + 1)) a ∙ ap (cell_of w n) b ∙ settled.this in
        subst (λ (x : Filter). CellIsRight around to x k (cell_of w m (place + 1))) filter
        (subst (λ (x : History). CellIsRight around to f x (cell_of w m (place + 1))) history
        (subst (CellIsRight around to f h) (sym cell) right))
    by m place g k (inr ne) b found at over = other m place g k (λ a b. ne a) found at over
    by m place g k (inl a) (inr ne) found at over = other m place g k (λ a b. ne b) found at over

pub pending_ends : (around : Surroundings) (to : ℕ) (hs : List History) (fs : List Filter) (v : Views) → NoneIsDue v to → ArePending around to hs fs v → AreRight around to hs fs v
pending_ends around to hs fs v none pending = record { each = λ m place f h found at. pending.each m place f h found at (none m (place + 1)) }
