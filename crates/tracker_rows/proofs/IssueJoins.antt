-- Issues and change groups may join what stands before them, and lead to what stands up to them.
use Rattle.std.proofs.Common.{◌≡◌, ℕ, zero, suc, ◌+◌, ◌-◌, ◌<◌, ◌≤◌, ◌⊎◌, inl, inr, nat_lt, Bool, true, false, List, [], ◌∷◌, ◌++◌, length, map, filter, slice_get, bytes_eq, Some, refl, sym, ap, ◌∙◌, subst, arith}
use Rattle.std.specs.Prelude.{if◌then◌else◌, sum_by}
use Rattle.std.specs.List.{All}
use Rattle.std.proofs.lemmas.Bool.{cases_lt}
use Rattle.std.proofs.lemmas.Bool.Decides.{nat_tests}
use Rattle.std.proofs.lemmas.List.Sums.{sum_by-cons}
use Rattle.std.proofs.lemmas.List.Elements.{All-nil, All-cons}
use Rattle.std.proofs.lemmas.Option.{none-some, same_Some}
use Rattle.rising_numbers.specs.ByNumber.{RiseFrom}
use Rattle.field_values.specs.Parts.{Parts}
use Rattle.fields.specs.SetupParts.{names_in}
use Rattle.fields.specs.Naming.{name_at, key_of}
use Rattle.change_history.specs.History.{History}
use Rattle.change_history.specs.Key.{project_of}
use Rattle.tracker_keeper.specs.declared.part.Part.TheVariants as part
use Rattle.tracker_machine.specs.Machine.{Machine}
use Rattle.tracker_machine.specs.Known.{project_keys, issues_of}
use Rattle.tracker_machine.specs.Checks.{entries_kept, bytes_kept, history_bytes, entry_bytes}
use Rattle.tracker_machine.specs.Chronicle.{HasEntry, IsChangeOf, IsChangeAt}
use Rattle.tracker_machine.specs.Kept.{issue_numbered}
use Rattle.tracker_machine.specs.Tracker.{IsSettled, RunsFrom, RisesAbove, IsNextKey, AreKeyed, IsTracker}
use Rattle.tracker_machine.proofs.Totals.{bytes_kept-push}
use Rattle.tracker_machine.proofs.Keepable.{number_at}
use Rattle.tracker_machine.proofs.Settled.{settled_at}
use Rattle.tracker_rows.specs.Gathered.{opened, joined}
use Rattle.tracker_rows.specs.Rules.{MayJoin}
use Rattle.tracker_rows.proofs.Issues.{holds_at}
use Rattle.tracker_rows.proofs.Cuts.{Places, below, cut_history, cut_histories, cut, to, none_to, all_less, none_pass, runs_rise, issue_more}
use Rattle.tracker_rows.proofs.Joins.{Joins, fewer}

-- ---- places in lists

at_in_to : {X : Type 0} (number : X → ℕ) (least n : ℕ) (xs : List X) (j : ℕ) (y : X) → RiseFrom number least xs → slice_get (to number n xs) j ≡ Some y
    → slice_get xs j ≡ Some y
at_in_to number least n [] j y rise at = at
at_in_to number least n (x ∷ xs) j y rise at = by (cases_lt (number x) n) j at (λ i there. at_in_to number (number x + 1) n xs i y rise.1 there)
  where
    by : (number x < n) ⊎ (n ≤ number x) → (j : ℕ) → slice_get (to number n (x ∷ xs)) j ≡ Some y
        → ((i : ℕ) → slice_get (to number n xs) i ≡ Some y → slice_get xs i ≡ Some y) → slice_get (x ∷ xs) j ≡ Some y
    by (inl less) zero there rest =
        let own : nat_lt (number x) n ≡ true = grind (arith, nat_tests, less) in
        let here = rw own at there in here
    by (inl less) (suc i) there rest =
        let own : nat_lt (number x) n ≡ true = grind (arith, nat_tests, less) in
        let behind = rw own at there in rest i behind
    by (inr le) i there rest =
        let past : nat_lt (number x) n ≡ false = grind (arith, nat_tests, le) in
        let gone : to number n xs ≡ [] = none_to number (number x + 1) n xs rise.1 (omega (arith, le)) in
        let none : slice_get (to number n xs) i ≡ Some y = rw past at there in
        absurd (none-some y (subst (λ ys. slice_get ys i ≡ Some y) gone none))

pub record IsMapped (f : History → History) (hs : List History) (j : ℕ) (y : History) : Type 0 where
  pub history : History
  pub there : slice_get hs j ≡ Some history
  pub is : y ≡ f history

pub mapped_at : (f : History → History) (hs : List History) (j : ℕ) (y : History) → slice_get (map f hs) j ≡ Some y → IsMapped f hs j y
mapped_at f [] j y at = absurd (none-some y at)
mapped_at f (x ∷ xs) zero y at = record { history = x; there = refl; is = sym (same_Some (f x) y at) }
mapped_at f (x ∷ xs) (suc j) y at = let behind = mapped_at f xs j y at in record { history = behind.history; there = behind.there; is = behind.is }

-- ---- totals

sum_less : {X : Type 0} (f : X → ℕ) (test : X → Bool) (xs : List X) → sum_by f (filter test xs) ≤ sum_by f xs
sum_less f test [] = omega arith
sum_less f test (x ∷ xs) = by (test x) (sum_less f test xs)
  where
    by : (b : Bool) → sum_by f (filter test xs) ≤ sum_by f xs → sum_by f (if b then x ∷ filter test xs else filter test xs) ≤ sum_by f (x ∷ xs)
    by true rest = omega (arith, rest, sum_by-cons f x xs, sum_by-cons f x (filter test xs))
    by false rest = omega (arith, rest, sum_by-cons f x xs)

module _ (count : History → ℕ) (places : Places) (less : (h : History) → count (cut_history places h) ≤ count h) where
  total_less : (hs : List History) → sum_by count (cut_histories places hs) ≤ sum_by count hs
  total_less [] = omega arith
  total_less (h ∷ hs) = by (places 3 h.no.0) (total_less hs)
    where
      by : (b : Bool) → sum_by count (cut_histories places hs) ≤ sum_by count hs
          → sum_by count (map (cut_history places) (if b then h ∷ filter (λ i. places 3 i.no.0) hs else filter (λ i. places 3 i.no.0) hs)) ≤ sum_by count (h ∷ hs)
      by true rest = omega (arith, rest, sum_by-cons count h hs, sum_by-cons count (cut_history places h) (cut_histories places hs), less h)
      by false rest = omega (arith, rest, sum_by-cons count h hs)

pub bytes_less : (places : Places) (hs : List History) → bytes_kept (cut_histories places hs) ≤ bytes_kept hs
bytes_less places hs = total_less history_bytes places (λ h. let fewer = sum_less entry_bytes (λ e. places 4 e.change) h.entries in omega (arith, fewer)) hs

pub entries_less : (places : Places) (hs : List History) → entries_kept (cut_histories places hs) ≤ entries_kept hs
entries_less places hs = total_less (λ h. length h.entries) places (λ h. fewer (λ e. places 4 e.change) h.entries) hs

length_to : (first n : ℕ) (hs : List History) → RunsFrom first (map (λ h. h.no.0) hs) → first ≤ n → n ≤ first + length hs
    → length (cut_histories (below 3 n) hs) ≡ n - first
length_to first n [] run low high = omega (arith, low, high)
length_to first n (h ∷ hs) run low high = by (cases_lt first n) (λ less. length_to (first + 1) n hs run.1 (omega (arith, less)) (omega (arith, high)))
  where
    by : (first < n) ⊎ (n ≤ first) → (first < n → length (cut_histories (below 3 n) hs) ≡ n - (first + 1)) → length (cut_histories (below 3 n) (h ∷ hs)) ≡ n - first
    by (inl less) behind =
        let own : nat_lt h.no.0 n ≡ true = grind (arith, nat_tests, less, run.0) in
        let rest = behind less in
        rw own (omega (arith, rest, less))
    by (inr le) behind =
        let none : to (λ (i : History). i.no.0) n (h ∷ hs) ≡ [] = none_to (λ i. i.no.0) first n (h ∷ hs) (runs_rise first (h ∷ hs) run) le in
        ap (λ is. length (map (cut_history (below 3 n)) is)) none ∙ omega (arith, le, low)

-- ---- keys

count_cut : (places : Places) (p : List ℕ) (hs : List History) → issues_of p (map (cut_history places) hs) ≡ issues_of p hs
count_cut places p [] = refl
count_cut places p (h ∷ hs) =
    let count : History → ℕ = λ i. if bytes_eq (project_of i.key) p then 1 else 0 in
    omega (arith, count_cut places p hs, sum_by-cons count h hs, sum_by-cons count (cut_history places h) (map (cut_history places) hs))

key_cut : (places : Places) (setup : Parts) (hs : List History) (key : List ℕ) → IsNextKey setup hs key → IsNextKey setup (map (cut_history places) hs) key
key_cut places setup hs key (place, there, is) =
    (place, there, is ∙ ap (λ n. key_of (name_at (project_keys setup) place) (n + 1)) (sym (count_cut places (name_at (project_keys setup) place) hs)))

nothing_more : (gs : List History) → gs ++ [] ≡ gs
nothing_more [] = refl
nothing_more (g ∷ gs) = ap (λ (is : List History). g ∷ is) (nothing_more gs)

one_by_one : (xs : List History) (g : History) (ys : List History) → xs ++ g ∷ ys ≡ (xs ++ g ∷ []) ++ ys
one_by_one [] g ys = refl
one_by_one (x ∷ xs) g ys = ap (λ (is : List History). x ∷ is) (one_by_one xs g ys)

abbrev front : ℕ → List History → List History
front n hs = to (λ (h : History). h.no.0) n hs

key_at : (setup : Parts) (before hs : List History) (first k : ℕ) (h : History) → RunsFrom first (map (λ h. h.no.0) hs) → AreKeyed setup before hs → slice_get hs k ≡ Some h
    → IsNextKey setup (before ++ front (first + k) hs) h.key
key_at setup before [] first k h run keyed at = absurd (none-some h at)
key_at setup before (g ∷ gs) first zero h run keyed at =
    let none : front (first + zero) (g ∷ gs) ≡ [] = none_to (λ i. i.no.0) first (first + zero) (g ∷ gs) (runs_rise first (g ∷ gs) run) (omega arith) in
    subst (λ is. IsNextKey setup (before ++ is) h.key) (sym none)
    (subst (λ is. IsNextKey setup is h.key) (sym (nothing_more before))
    (subst (λ (i : History). IsNextKey setup before i.key) (same_Some g h at) keyed.0))
key_at setup before (g ∷ gs) first (suc k) h run keyed at =
    let own : nat_lt g.no.0 (first + suc k) ≡ true = grind (arith, nat_tests, run.0) in
    let rest : IsNextKey setup ((before ++ g ∷ []) ++ front (first + 1 + k) gs) h.key = key_at setup (before ++ g ∷ []) gs (first + 1) k h run.1 keyed.1 at in
    let same : first + 1 + k ≡ first + suc k = omega arith in
    let here : IsNextKey setup (before ++ g ∷ front (first + suc k) gs) h.key =
    subst (λ is. IsNextKey setup is h.key) (sym (one_by_one before g (front (first + suc k) gs)))
    (subst (λ n. IsNextKey setup ((before ++ g ∷ []) ++ front n gs) h.key) same rest) in
    rw own here

-- ---- creations rise

first_less : (low : ℕ) (hs : List History) (k : ℕ) (h : History) → RisesAbove low (map (λ h. h.change) hs) → slice_get hs k ≡ Some h → low < h.change
first_less low [] k h rise at = absurd (none-some h at)
first_less low (g ∷ gs) zero h rise at = subst (λ (i : History). low < i.change) (same_Some g h at) rise.0
first_less low (g ∷ gs) (suc k) h rise at = let behind = first_less g.change gs k h rise.1 at in omega (arith, behind, rise.0)

changes_less : (places : Places) (low first : ℕ) (hs : List History) (k : ℕ) (h : History) → RunsFrom first (map (λ h. h.no.0) hs) → RisesAbove low (map (λ h. h.change) hs)
    → slice_get hs k ≡ Some h → All (λ g. g.change < h.change) (map (cut_history places) (front (first + k) hs))
changes_less places low first [] k h run rise at = absurd (none-some h at)
changes_less places low first (g ∷ gs) zero h run rise at =
    let none : front (first + zero) (g ∷ gs) ≡ [] = none_to (λ i. i.no.0) first (first + zero) (g ∷ gs) (runs_rise first (g ∷ gs) run) (omega arith) in
    subst (λ is. All (λ g. g.change < h.change) (map (cut_history places) is)) (sym none) (All-nil (λ g. g.change < h.change))
changes_less places low first (g ∷ gs) (suc k) h run rise at =
    let own : nat_lt g.no.0 (first + suc k) ≡ true = grind (arith, nat_tests, run.0) in
    let same : first + 1 + k ≡ first + suc k = omega arith in
    let rest : All (λ g. g.change < h.change) (map (cut_history places) (front (first + suc k) gs)) =
    subst (λ n. All (λ g. g.change < h.change) (map (cut_history places) (front n gs))) same (changes_less places g.change (first + 1) gs k h run.1 rise.1 at) in
    rw own (All-cons (λ g. g.change < h.change) (cut_history places g) (map (cut_history places) (front (first + suc k) gs)) (first_less g.change gs k h rise.1 at) rest)

-- ---- issues

module _ (m : Machine) (written : Parts) (is : IsTracker m) where
  abbrev at : ℕ → ℕ → Machine
  at k n = cut (below k n) written m

  rise : RiseFrom (λ (h : History). h.no.0) 1 m.histories
  rise = runs_rise 1 m.histories is.numbers

  bare_change : (n j c a : ℕ) → IsChangeAt (cut_histories (below 3 n) m.histories) j c a → IsChangeAt m.histories j c a × (j + 1 < n)
  bare_change n j c a (y, at_y, change) =
      let mapped = mapped_at (cut_history (below 3 n)) (front n m.histories) j y at_y in
      let x : History = mapped.history in
      let there : slice_get m.histories j ≡ Some x = at_in_to (λ i. i.no.0) 1 n m.histories j x rise mapped.there in
      let less : x.no.0 < n = holds_at (λ i. i.no.0 < n) (front n m.histories) j x mapped.there (all_less (λ i. i.no.0) n m.histories) in
      let number = number_at 1 m.histories j x is.numbers there in
      ((x, there, creation x (subst (λ (i : History). IsChangeOf i c a) mapped.is change)), omega (arith, less, number.0))
    where
      creation : (x : History) → IsChangeOf (cut_history (below 3 n) x) c a → IsChangeOf x c a
      creation x (inl own) = inl own
      creation x (inr has) = absurd (subst (λ es. HasEntry es c a) (none_pass x.entries) has)

  pub issue_joins : (k : ℕ) (h : History) → slice_get m.histories k ≡ Some h → issue_numbered m.histories h.no.0 ≡ Some h
      → Joins (at 3 h.no.0) (at 3 (h.no.0 + 1)) (part.Issue h.no h.key h.change h.at h.author h.opening)
  unfolding MayJoin joined
  issue_joins k h there found =
      let n : ℕ = h.no.0 in
      let place = number_at 1 m.histories k h is.numbers there in
      let own : IsChangeAt m.histories k h.change h.at = (h, there, inl (refl, refl)) in
      let known = is.chronicle.known k h.change h.at own in
      let long = length_to 1 n m.histories is.numbers (omega (arith, place.0)) (omega (arith, place.0, place.1)) in
      let new : History = opened h.no h.key h.change h.at h.author h.opening in
      let more : cut_histories (below 3 (n + 1)) m.histories ≡ cut_histories (below 3 n) m.histories ++ new ∷ [] = issue_more n h m.histories is.numbers found in
      let settled : IsSettled (names_in m.setup) m.moment m.change h = settled_at (names_in m.setup) m.moment m.change m.histories k h there is.settled in
      record {
        may = record {
          few = omega (arith, long, place.0, place.1, is.few_issues);
          no = omega (arith, long, place.0);
          key = key_cut (below 3 n) m.setup (front n m.histories) h.key
              (subst (λ j. IsNextKey m.setup (front j m.histories) h.key) (sym place.0) (key_at m.setup [] m.histories 1 k h is.numbers is.keys there));
          rising = subst (λ j. All (λ g. g.change < h.change) (map (cut_history (below 3 n)) (front j m.histories))) (sym place.0)
              (changes_less (below 3 n) 0 1 m.histories k h is.numbers is.rising there);
          turn = record {
            once = λ j c a change same.
                let before = bare_change n j c a change in
                absurd (omega (arith, before.1, place.0, is.chronicle.once j k c a h.at before.0 (subst (λ i. IsChangeAt m.histories k i h.at) (sym same) own)));
            counted = known.1;
            later = λ j c a change less. is.chronicle.later j k c h.change a h.at (bare_change n j c a change).0 own less;
            earlier = λ j c a change less. is.chronicle.later k j h.change c h.at a own (bare_change n j c a change).0 less;
            timely = known.2;
          };
          named = settled.opened;
          light = omega (arith, ap bytes_kept more, bytes_kept-push (cut_histories (below 3 n) m.histories) new, bytes_less (below 3 (n + 1)) m.histories, is.few_bytes);
        };
        leads = ap (λ (hs : List History). let next : Machine = record (at 3 h.no.0) { histories = hs } in next) (sym more);
      }
