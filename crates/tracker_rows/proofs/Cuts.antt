-- A tracker up to some place: what its rows before that place tell. With the part that stands there it is the tracker up to the next place.
use Rattle.std.proofs.Common.{◌≡◌, ◌≢◌, ℕ, zero, suc, ◌+◌, ◌-◌, ◌<◌, ◌≤◌, ◌==◌, ◌&&◌, ◌||◌, ◌⊎◌, inl, inr, nat_lt, Bool, true, false, List, [], ◌∷◌, ◌++◌, length, map, filter, slice_get, set, Option, Some, None, refl, sym, ap, ◌∙◌, subst, arith, append-nil, eq-eqb, ne_eqb}
use Rattle.std.specs.Prelude.{if◌then◌else◌}
use Rattle.std.specs.List.{All}
use Rattle.std.proofs.lemmas.Bool.{cases_eq, cases_lt}
use Rattle.std.proofs.lemmas.Bool.Decides.{nat_tests}
use Rattle.std.proofs.lemmas.List.Elements.{All-nil, All-cons, All-head, All-tail, All-filter}
use Rattle.std.proofs.lemmas.List.Kept.{AllPairs-filter}
use Rattle.std.proofs.lemmas.Option.{none-some, same_Some}
use Rattle.rising_numbers.specs.ByNumber.{RiseFrom, by_number, put_by_number}
use Rattle.rising_numbers.proofs.ByNumber.{none_below}
use Rattle.field_values.specs.declared.numbers.IssueNo.{IssueNo}
use Rattle.field_values.specs.declared.parts.Group.{Group as UserGroup}
use Rattle.field_values.specs.GroupMembers.{with_members}
use Rattle.field_values.specs.Parts.{Parts}
use Rattle.change_history.specs.declared.entry.Entry.{Entry}
use Rattle.change_history.specs.History.{History, FollowEachOther, AreInOrder}
use Rattle.rank_strings.specs.Rank.{RankParts, IsBelow}
use Rattle.rank_balancer.specs.Step.{after_move}
use Rattle.board.specs.Order.{Pair, IsOrder, rank_in, IsFreeFor}
use Rattle.board.proofs.Placing.{order_is_kept}
use Rattle.rank_strings.specs.Rank.{IsRank}
use Rattle.tracker_ranks.proofs.Given.{gives_one_rank, rank_here, rank_behind}
use Rattle.tracker_ranks.proofs.OneOrder.{ranks_make_one_order}
use Rattle.sprints.specs.declared.sprint.Sprint.{Sprint}
use Rattle.tracker_machine.specs.Machine.{Machine}
use Rattle.tracker_machine.specs.Kept.{entries_of_change, issue_numbered}
use Rattle.tracker_machine.specs.Tracker.{RunsFrom}
use Rattle.tracker_rows.specs.Gathered.{opened}
use Rattle.std.proofs.lemmas.List.{map-append}
use Rattle.tracker_machine.specs.Effect.{longer, grown}

-- ---- places

-- some places, each a kind and a number
abbrev pub Places : Type 0
Places = ℕ → ℕ → Bool

-- those before this one
abbrev pub below : ℕ → ℕ → Places
below k n kind number = nat_lt kind k || ((kind == k) && nat_lt number n)

-- ---- the tracker

abbrev pub cut_history : Places → History → History
cut_history places h = record h { entries = filter (λ e. places 4 e.change) h.entries }

abbrev pub cut_histories : Places → List History → List History
cut_histories places hs = map (cut_history places) (filter (λ h. places 3 h.no.0) hs)

abbrev pub cut_order : Places → List Pair → List Pair
cut_order places ps = filter (λ p. places 5 p.1.0) ps

abbrev pub cut_sprints : Places → ℕ → List Sprint → List Sprint
cut_sprints places first [] = []
cut_sprints places first (s ∷ ss) = if places 7 first then s ∷ cut_sprints places (first + 1) ss else cut_sprints places (first + 1) ss

-- the groups of these places have their members, and the others have those of the setup's text
abbrev pub cut_groups : Places → ℕ → List UserGroup → List UserGroup → List UserGroup
cut_groups places first [] gs = []
cut_groups places first (w ∷ ws) [] = []
cut_groups places first (w ∷ ws) (g ∷ gs) =
    record { name = g.name; members = if places 10 first then g.members else w.members } ∷ cut_groups places (first + 1) ws gs

-- so many of them
abbrev pub told_in : Places → ℕ → List UserGroup → ℕ
told_in places first [] = 0
told_in places first (g ∷ gs) = (if places 10 first then 1 else 0) + told_in places (first + 1) gs

abbrev pub cut_setup : Places → Parts → Parts → Parts
cut_setup places written setup = record setup { group = cut_groups places 1 written.group setup.group }

abbrev pub cut : Places → Parts → Machine → Machine
cut places written m = record {
  text = m.text;
  setup = cut_setup places written m.setup;
  moment = m.moment;
  change = m.change;
  histories = cut_histories places m.histories;
  externals = filter (λ e. places 6 e.no.0) m.externals;
  order = cut_order places m.order;
  balance = m.balance;
  sprints = cut_sprints places 1 m.sprints;
  filters = filter (λ f. places 8 f.no.0) m.filters;
  boards = filter (λ b. places 9 b.no.0) m.boards;
}

-- ---- things by rising numbers

module _ {X : Type 0} (number : X → ℕ) where
  abbrev pub to : ℕ → List X → List X
  to n xs = filter (λ x. nat_lt (number x) n) xs

  pub none_to : (least n : ℕ) (xs : List X) → RiseFrom number least xs → n ≤ least → to n xs ≡ []
  none_to least n [] rise le = refl
  none_to least n (x ∷ xs) rise le =
      let rest = none_to (number x + 1) n xs rise.1 (omega (arith, rise.0, le)) in
      let past : nat_lt (number x) n ≡ false = grind (arith, nat_tests, rise.0, le) in
      rw past rest

  -- the next one stands at the end
  pub one_more : (least n : ℕ) (x : X) (xs : List X) → RiseFrom number least xs → by_number number n xs ≡ Some x → to (n + 1) xs ≡ to n xs ++ x ∷ []
  one_more least n x [] rise is = absurd (none-some x is)
  one_more least n x (y ∷ ys) rise is =
      by (cases_eq (number y) n) (cases_lt (number y) n) (λ behind. one_more (number y + 1) n x ys rise.1 behind)
    where
      by : (number y ≡ n) ⊎ (number y ≡ n → ⊥) → (number y < n) ⊎ (n ≤ number y) → (by_number number n ys ≡ Some x → to (n + 1) ys ≡ to n ys ++ x ∷ [])
          → to (n + 1) (y ∷ ys) ≡ to n (y ∷ ys) ++ x ∷ []
      by (inl same) less rest =
          let here : Some y ≡ Some x = rw (eq-eqb (number y) n same) at is in
          let in_next : nat_lt (number y) (n + 1) ≡ true = grind (arith, nat_tests, same) in
          let not_in : nat_lt (number y) n ≡ false = grind (arith, nat_tests, same) in
          let none_more : to (n + 1) ys ≡ [] = none_to (number y + 1) (n + 1) ys rise.1 (omega (arith, same)) in
          let none_yet : to n ys ≡ [] = none_to (number y + 1) n ys rise.1 (omega (arith, same)) in
          rw (in_next, not_in, none_more, none_yet) (ap (λ (z : X). z ∷ []) (same_Some y x here))
      by (inr differ) (inl less) rest =
          let behind : by_number number n ys ≡ Some x = rw (ne_eqb (number y) n differ) at is in
          let in_next : nat_lt (number y) (n + 1) ≡ true = grind (arith, nat_tests, less) in
          let own : nat_lt (number y) n ≡ true = grind (arith, nat_tests, less) in
          rw (in_next, own) (ap (λ (zs : List X). y ∷ zs) (rest behind))
      by (inr differ) (inr le) rest =
          let behind : by_number number n ys ≡ Some x = rw (ne_eqb (number y) n differ) at is in
          absurd (none-some x (sym (none_below number (number y + 1) n ys rise.1 (omega (arith, le))) ∙ behind))

  put_last : (x : X) (xs : List X) → All (λ y. number y < number x) xs → put_by_number number x xs ≡ xs ++ x ∷ []
  put_last x [] last = refl
  put_last x (y ∷ ys) last =
      let first : number y < number x = All-head (λ y. number y < number x) y ys last in
      let rest = put_last x ys (All-tail (λ y. number y < number x) y ys last) in
      grind (arith, nat_tests, first, rest)

  -- all that stand before a number have less
  pub all_less : (n : ℕ) (xs : List X) → All (λ y. number y < n) (to n xs)
  all_less n [] = All-nil (λ y. number y < n)
  all_less n (x ∷ xs) = by (cases_lt (number x) n) (all_less n xs)
    where
      by : (number x < n) ⊎ (n ≤ number x) → All (λ y. number y < n) (to n xs) → All (λ y. number y < n) (to n (x ∷ xs))
      by (inl less) rest =
          let own : nat_lt (number x) n ≡ true = grind (arith, nat_tests, less) in
          rw own (All-cons (λ y. number y < n) x (to n xs) less rest)
      by (inr le) rest =
          let past : nat_lt (number x) n ≡ false = grind (arith, nat_tests, le) in
          rw past rest

  pub put_next : (least n : ℕ) (x : X) (xs : List X) → RiseFrom number least xs → by_number number n xs ≡ Some x → number x ≡ n
      → put_by_number number x (to n xs) ≡ to (n + 1) xs
  put_next least n x xs rise is own =
      put_last x (to n xs) (subst (λ k. All (λ y. number y < k) (to n xs)) (sym own) (all_less n xs)) ∙ sym (one_more least n x xs rise is)

-- ---- sprints

pub no_sprints_yet : (n first : ℕ) (ss : List Sprint) → n ≤ first → cut_sprints (below 7 n) first ss ≡ []
no_sprints_yet n first [] le = refl
no_sprints_yet n first (x ∷ xs) le =
    let past : nat_lt first n ≡ false = grind (arith, nat_tests, le) in
    rw past (no_sprints_yet n (first + 1) xs (omega (arith, le)))

pub sprint_more : (first k : ℕ) (s : Sprint) (ss : List Sprint) → slice_get ss k ≡ Some s
    → cut_sprints (below 7 (first + k + 1)) first ss ≡ cut_sprints (below 7 (first + k)) first ss ++ s ∷ []
sprint_more first k s [] at = absurd (none-some s at)
sprint_more first zero s (x ∷ xs) at =
    let in_next : nat_lt first (first + zero + 1) ≡ true = grind (arith, nat_tests) in
    let not_in : nat_lt first (first + zero) ≡ false = grind (arith, nat_tests) in
    rw (in_next, not_in, no_sprints_yet (first + zero + 1) (first + 1) xs (omega arith), no_sprints_yet (first + zero) (first + 1) xs (omega arith))
    (ap (λ (z : Sprint). z ∷ []) (same_Some x s at))
sprint_more first (suc k) s (x ∷ xs) at =
    let in_next : nat_lt first (first + suc k + 1) ≡ true = grind (arith, nat_tests) in
    let own : nat_lt first (first + suc k) ≡ true = grind (arith, nat_tests) in
    let rest : cut_sprints (below 7 (first + 1 + k + 1)) (first + 1) xs ≡ cut_sprints (below 7 (first + 1 + k)) (first + 1) xs ++ s ∷ [] =
    sprint_more (first + 1) k s xs at in
    let same : first + 1 + k ≡ first + suc k = omega arith in
    rw (in_next, own) (ap (λ (zs : List Sprint). x ∷ zs)
    (subst (λ n. cut_sprints (below 7 (n + 1)) (first + 1) xs ≡ cut_sprints (below 7 n) (first + 1) xs ++ s ∷ []) same rest))

-- ---- groups

pub group_more : (first k : ℕ) (g : UserGroup) (ws gs : List UserGroup) → slice_get gs k ≡ Some g → length gs ≤ length ws
    → with_members (cut_groups (below 10 (first + k)) first ws gs) k g.members ≡ cut_groups (below 10 (first + k + 1)) first ws gs
group_more first k g ws [] at few = absurd (none-some g at)
group_more first k g [] (x ∷ xs) at few = absurd (omega (arith, few))
group_more first zero g (w ∷ ws) (x ∷ xs) at few =
    let in_next : nat_lt first (first + zero + 1) ≡ true = grind (arith, nat_tests) in
    rw (in_next, alike (first + zero) (first + zero + 1) (first + 1) ws xs (omega arith) (omega arith))
    (ap (λ (y : UserGroup). let own : UserGroup = record { name = x.name; members = y.members } in own ∷ cut_groups (below 10 (first + zero + 1)) (first + 1) ws xs) (sym (same_Some x g at)))
  where
    -- of groups behind, none
    alike : (n n' first : ℕ) (ws gs : List UserGroup) → n ≤ first → n' ≤ first → cut_groups (below 10 n) first ws gs ≡ cut_groups (below 10 n') first ws gs
    alike n n' first [] gs le le' = refl
    alike n n' first (w ∷ ws) [] le le' = refl
    alike n n' first (w ∷ ws) (g ∷ gs) le le' =
        let past : nat_lt first n ≡ false = grind (arith, nat_tests, le) in
        let past' : nat_lt first n' ≡ false = grind (arith, nat_tests, le') in
        rw (past, past', alike n n' (first + 1) ws gs (omega (arith, le)) (omega (arith, le'))) refl
group_more first (suc k) g (w ∷ ws) (x ∷ xs) at few =
    let in_next : nat_lt first (first + suc k + 1) ≡ true = grind (arith, nat_tests) in
    let own : nat_lt first (first + suc k) ≡ true = grind (arith, nat_tests) in
    let rest : with_members (cut_groups (below 10 (first + 1 + k)) (first + 1) ws xs) k g.members ≡ cut_groups (below 10 (first + 1 + k + 1)) (first + 1) ws xs =
    group_more (first + 1) k g ws xs at (omega (arith, few)) in
    let same : first + 1 + k ≡ first + suc k = omega arith in
    rw (in_next, own) (ap (λ (zs : List UserGroup). let here : UserGroup = record { name = x.name; members = x.members } in here ∷ zs)
    (subst (λ n. with_members (cut_groups (below 10 n) (first + 1) ws xs) k g.members ≡ cut_groups (below 10 (n + 1)) (first + 1) ws xs) same rest))

none_told_yet : (n first : ℕ) (gs : List UserGroup) → n ≤ first → told_in (below 10 n) first gs ≡ 0
none_told_yet n first [] le = refl
none_told_yet n first (x ∷ xs) le =
    let past : nat_lt first n ≡ false = grind (arith, nat_tests, le) in
    let rest = none_told_yet n (first + 1) xs (omega (arith, le)) in
    rw past (omega (arith, rest))

pub told_is : (first n : ℕ) (gs : List UserGroup) → first ≤ n → n ≤ first + length gs → told_in (below 10 n) first gs ≡ n - first
told_is first n [] low high = omega (arith, low, high)
told_is first n (g ∷ gs) low high = by (cases_lt first n) (λ less. told_is (first + 1) n gs (omega (arith, less)) (omega (arith, high)))
  where
    by : (first < n) ⊎ (n ≤ first) → (first < n → told_in (below 10 n) (first + 1) gs ≡ n - (first + 1)) → told_in (below 10 n) first (g ∷ gs) ≡ n - first
    by (inl less) behind =
        let own : nat_lt first n ≡ true = grind (arith, nat_tests, less) in
        let rest = behind less in
        rw own (omega (arith, rest, less))
    by (inr le) behind = none_told_yet n first (g ∷ gs) le ∙ omega (arith, le)

-- ---- ranks

rank_own : (p : Pair) (ps : List Pair) (n : ℕ) → p.1.0 ≡ n → rank_in (p ∷ ps) n ≡ Some p.0
rank_own p ps n is = rank_here p ps n (eq-eqb p.1.0 n is)

rank_other : (p : Pair) (ps : List Pair) (n : ℕ) → (p.1.0 ≡ n → ⊥) → rank_in (p ∷ ps) n ≡ rank_in ps n
rank_other p ps n differ = rank_behind p ps n (ne_eqb p.1.0 n differ)

rank_to : (n m : ℕ) (ps : List Pair) → rank_in (cut_order (below 5 n) ps) m ≡ (if nat_lt m n then rank_in ps m else None)
rank_to n m [] = by (nat_lt m n)
  where
    by : (b : Bool) → rank_in [] m ≡ (if b then rank_in [] m else None)
    by true = refl
    by false = refl
rank_to n m (p ∷ ps) = by (cases_lt p.1.0 n) (cases_eq p.1.0 m) (rank_to n m ps)
  where
    by : (p.1.0 < n) ⊎ (n ≤ p.1.0) → (p.1.0 ≡ m) ⊎ (p.1.0 ≡ m → ⊥) → rank_in (cut_order (below 5 n) ps) m ≡ (if nat_lt m n then rank_in ps m else None)
        → rank_in (cut_order (below 5 n) (p ∷ ps)) m ≡ (if nat_lt m n then rank_in (p ∷ ps) m else None)
    by (inl less) (inl same) rest =
        let own : nat_lt p.1.0 n ≡ true = grind (arith, nat_tests, less) in
        let there : nat_lt m n ≡ true = grind (arith, nat_tests, less, same) in
        rw (own, there) (rank_own p (cut_order (below 5 n) ps) m same ∙ sym (rank_own p ps m same))
    by (inl less) (inr differ) rest =
        let own : nat_lt p.1.0 n ≡ true = grind (arith, nat_tests, less) in
        rw own (rank_other p (cut_order (below 5 n) ps) m differ ∙ rest
        ∙ ap (λ (o : Option RankParts). if nat_lt m n then o else None) (sym (rank_other p ps m differ)))
    by (inr le) (inl same) rest =
        let past : nat_lt p.1.0 n ≡ false = grind (arith, nat_tests, le) in
        let not_there : nat_lt m n ≡ false = grind (arith, nat_tests, le, same) in
        rw past (rest ∙ rw not_there refl)
    by (inr le) (inr differ) rest =
        let past : nat_lt p.1.0 n ≡ false = grind (arith, nat_tests, le) in
        rw past (rest ∙ ap (λ (o : Option RankParts). if nat_lt m n then o else None) (sym (rank_other p ps m differ)))

rank_kept : (n m : ℕ) (ps : List Pair) (b : Bool) → nat_lt m n ≡ b → rank_in (cut_order (below 5 n) ps) m ≡ (if b then rank_in ps m else None)
rank_kept n m ps b is = rank_to n m ps ∙ ap (λ (c : Bool). if c then rank_in ps m else None) is

pub order_to : (n : ℕ) (ps : List Pair) → IsOrder ps → IsOrder (cut_order (below 5 n) ps)
order_to n ps is = record {
  ranks = All-filter (λ p. nat_lt p.1.0 n) (λ p. IsRank p.0) ps is.ranks;
  rising = AllPairs-filter (λ p q. IsBelow p.0 q.0) (λ p. nat_lt p.1.0 n) ps is.rising;
  once = AllPairs-filter (λ p q. p.1.0 ≢ q.1.0) (λ p. nat_lt p.1.0 n) ps is.once;
}

pub rank_more : (issue : IssueNo) (rank : RankParts) (ps : List Pair) → IsOrder ps → IsRank rank → IsFreeFor (cut_order (below 5 issue.0) ps) issue.0 rank
    → rank_in ps issue.0 ≡ Some rank → after_move (cut_order (below 5 issue.0) ps) (issue, rank) ≡ cut_order (below 5 (issue.0 + 1)) ps
rank_more issue rank ps is form free own =
    let before : List Pair = cut_order (below 5 issue.0) ps in
    ranks_make_one_order (after_move before (issue, rank)) (cut_order (below 5 (issue.0 + 1)) ps)
    (order_is_kept before issue rank (order_to issue.0 ps is) form free) (order_to (issue.0 + 1) ps is)
    (λ m. by m (cases_eq issue.0 m) (cases_lt m issue.0))
  where
    by : (m : ℕ) → (issue.0 ≡ m) ⊎ (issue.0 ≡ m → ⊥) → (m < issue.0) ⊎ (issue.0 ≤ m)
        → rank_in (after_move (cut_order (below 5 issue.0) ps) (issue, rank)) m ≡ rank_in (cut_order (below 5 (issue.0 + 1)) ps) m
    by m (inl same) less =
        let there : nat_lt issue.0 (issue.0 + 1) ≡ true = grind (arith, nat_tests) in
        subst (λ j. rank_in (after_move (cut_order (below 5 issue.0) ps) (issue, rank)) j ≡ rank_in (cut_order (below 5 (issue.0 + 1)) ps) j) same
        ((gives_one_rank (cut_order (below 5 issue.0) ps) (issue, rank)).own ∙ sym (rank_kept (issue.0 + 1) issue.0 ps true there ∙ own))
    by m (inr differ) (inl less) =
        let own_is : nat_lt m issue.0 ≡ true = grind (arith, nat_tests, less) in
        let there : nat_lt m (issue.0 + 1) ≡ true = grind (arith, nat_tests, less) in
        (gives_one_rank (cut_order (below 5 issue.0) ps) (issue, rank)).others m differ
        ∙ rank_kept issue.0 m ps true own_is ∙ sym (rank_kept (issue.0 + 1) m ps true there)
    by m (inr differ) (inr le) =
        let more : issue.0 + 1 ≤ m = elim (cases_lt issue.0 m) [ inl lt ↦ omega (arith, lt) | inr back ↦ absurd (differ (omega (arith, back, le))) ] in
        let not_yet : nat_lt m issue.0 ≡ false = grind (arith, nat_tests, le) in
        let nor_then : nat_lt m (issue.0 + 1) ≡ false = grind (arith, nat_tests, more) in
        (gives_one_rank (cut_order (below 5 issue.0) ps) (issue, rank)).others m differ
        ∙ rank_kept issue.0 m ps false not_yet ∙ sym (rank_kept (issue.0 + 1) m ps false nor_then)

-- ---- issues

pub none_pass : {X : Type 0} (xs : List X) → filter (λ x. false) xs ≡ []
none_pass [] = refl
none_pass (x ∷ xs) = none_pass xs

pub all_pass : {X : Type 0} (xs : List X) → filter (λ x. true) xs ≡ xs
all_pass [] = refl
all_pass (x ∷ xs) = ap (λ zs. x ∷ zs) (all_pass xs)

pub runs_rise : (first : ℕ) (hs : List History) → RunsFrom first (map (λ h. h.no.0) hs) → RiseFrom (λ (h : History). h.no.0) first hs
runs_rise first [] run = tt
runs_rise first (h ∷ hs) run =
    (omega (arith, run.0), subst (λ n. RiseFrom (λ (h : History). h.no.0) (n + 1) hs) (sym run.0) (runs_rise (first + 1) hs run.1))

pub numbered_by : (hs : List History) (n : ℕ) → issue_numbered hs n ≡ by_number (λ h. h.no.0) n hs
numbered_by [] n = refl
numbered_by (h ∷ hs) n = ap (λ (o : Option History). if h.no.0 == n then Some h else o) (numbered_by hs n)

pub issue_more : (n : ℕ) (h : History) (hs : List History) → RunsFrom 1 (map (λ h. h.no.0) hs) → issue_numbered hs n ≡ Some h
    → cut_histories (below 3 (n + 1)) hs ≡ cut_histories (below 3 n) hs ++ opened h.no h.key h.change h.at h.author h.opening ∷ []
issue_more n h hs run is =
    let bare : History → History = cut_history (below 3 n) in
    let more : filter (λ i. nat_lt i.no.0 (n + 1)) hs ≡ filter (λ i. nat_lt i.no.0 n) hs ++ h ∷ [] =
    one_more (λ i. i.no.0) 1 n h hs (runs_rise 1 hs run) (sym (numbered_by hs n) ∙ is) in
    ap (map bare) more
    ∙ map-append bare (filter (λ i. nat_lt i.no.0 n) hs) (h ∷ [])
    ∙ ap (λ (es : List Entry). let new : History = record h { entries = es } in map bare (filter (λ i. nat_lt i.no.0 n) hs) ++ new ∷ []) (none_pass h.entries)

-- ---- groups of changes

abbrev pub entries_to : ℕ → List Entry → List Entry
entries_to c es = filter (λ e. nat_lt e.change c) es

pub none_before : (c : ℕ) (last : Entry) (es : List Entry) → c ≤ last.change → FollowEachOther last es → entries_to c es ≡ []
none_before c last [] le follow = refl
none_before c last (e ∷ es) le follow =
    let more : c ≤ e.change = elim follow.0 [ inl same ↦ omega (arith, le, same.0) | inr next ↦ omega (arith, le, next.0) ] in
    let past : nat_lt e.change c ≡ false = grind (arith, nat_tests, more) in
    rw past (none_before c e es more follow.1)

entry_with : (c : ℕ) (e : Entry) (es : List Entry) → FollowEachOther e es → entries_to c es ++ entries_of_change c es ≡ entries_to (c + 1) es
    → entries_to c (e ∷ es) ++ entries_of_change c (e ∷ es) ≡ entries_to (c + 1) (e ∷ es)
entry_with c e es follow behind = by (cases_lt e.change c) (cases_eq e.change c) behind
  where
    by : (e.change < c) ⊎ (c ≤ e.change) → (e.change ≡ c) ⊎ (e.change ≡ c → ⊥) → entries_to c es ++ entries_of_change c es ≡ entries_to (c + 1) es
        → entries_to c (e ∷ es) ++ entries_of_change c (e ∷ es) ≡ entries_to (c + 1) (e ∷ es)
    by (inl less) same rest =
        let own : nat_lt e.change c ≡ true = grind (arith, nat_tests, less) in
        let in_next : nat_lt e.change (c + 1) ≡ true = grind (arith, nat_tests, less) in
        let differ : (e.change == c) ≡ false = grind (arith, nat_tests, less) in
        rw (own, in_next, differ) (ap (λ (zs : List Entry). e ∷ zs) rest)
    by (inr le) (inl same) rest =
        let past : nat_lt e.change c ≡ false = grind (arith, nat_tests, le) in
        let in_next : nat_lt e.change (c + 1) ≡ true = grind (arith, nat_tests, same) in
        let none : entries_to c es ≡ [] = none_before c e es le follow in
        rw (past, in_next, eq-eqb e.change c same, none)
        (ap (λ (zs : List Entry). e ∷ zs) (ap (λ (zs : List Entry). zs ++ entries_of_change c es) (sym none) ∙ rest))
    by (inr le) (inr differ) rest =
        let past : nat_lt e.change c ≡ false = grind (arith, nat_tests, le) in
        let more : c + 1 ≤ e.change = elim (cases_lt c e.change) [ inl lt ↦ omega (arith, lt) | inr back ↦ absurd (differ (omega (arith, back, le))) ] in
        let not_then : nat_lt e.change (c + 1) ≡ false = grind (arith, nat_tests, more) in
        rw (past, not_then, ne_eqb e.change c differ) rest

entries_with : (c : ℕ) (last : Entry) (es : List Entry) → FollowEachOther last es → entries_to c es ++ entries_of_change c es ≡ entries_to (c + 1) es
entries_with c last [] follow = refl
entries_with c last (e ∷ es) follow = entry_with c e es follow.1 (entries_with c e es follow.1)

pub entries_more : (c change at : ℕ) (es : List Entry) → AreInOrder change at es → entries_to c es ++ entries_of_change c es ≡ entries_to (c + 1) es
entries_more c change at [] order = refl
entries_more c change at (e ∷ es) order = entry_with c e es order.2 (entries_with c e es order.2)

set_mapped : (f g : History → History) (hs : List History) (k : ℕ) (h new : History) → slice_get hs k ≡ Some h → new ≡ g h
    → ((j : ℕ) (x : History) → slice_get hs j ≡ Some x → (j ≡ k → ⊥) → f x ≡ g x) → set (map f hs) k new ≡ map g hs
set_mapped f g [] k h new at is others = absurd (none-some h at)
set_mapped f g (x ∷ xs) zero h new at is others =
    ap (λ (z : History). z ∷ map f xs) (is ∙ ap g (sym (same_Some x h at))) ∙ ap (λ (zs : List History). g x ∷ zs) (mapped xs (λ j y there. others (suc j) y there (λ same. cc)))
  where
    mapped : (ys : List History) → ((j : ℕ) (y : History) → slice_get ys j ≡ Some y → f y ≡ g y) → map f ys ≡ map g ys
    mapped [] each = refl
    mapped (y ∷ ys) each = ap (λ (z : History). z ∷ map f ys) (each 0 y refl) ∙ ap (λ (zs : List History). g y ∷ zs) (mapped ys (λ j z there. each (suc j) z there))
set_mapped f g (x ∷ xs) (suc k) h new at is others =
    ap (λ (z : History). z ∷ set (map f xs) k new) (others 0 x refl (λ same. cc))
    ∙ ap (λ (zs : List History). g x ∷ zs) (set_mapped f g xs k h new at is (λ j y there differ. others (suc j) y there (λ same. differ (cc))))

pub get_mapped : (f : History → History) (hs : List History) (k : ℕ) (h : History) → slice_get hs k ≡ Some h → slice_get (map f hs) k ≡ Some (f h)
get_mapped f [] k h at = absurd (none-some h at)
get_mapped f (x ∷ xs) zero h at = ap (λ (z : History). Some (f z)) (same_Some x h at)
get_mapped f (x ∷ xs) (suc k) h at = get_mapped f xs k h at

-- with a group more, which no other issue has
pub histories_more : (c k : ℕ) (h : History) (hs : List History) → slice_get hs k ≡ Some h → ((j : ℕ) (x : History) → slice_get hs j ≡ Some x → AreInOrder x.change x.at x.entries)
    → ((j : ℕ) (x : History) → slice_get hs j ≡ Some x → (j ≡ k → ⊥) → entries_of_change c x.entries ≡ [])
    → grown (cut_histories (below 4 c) hs) k (entries_of_change c h.entries) ≡ cut_histories (below 4 (c + 1)) hs
histories_more c k h hs at order others =
    let f : History → History = cut_history (below 4 c) in
    let g : History → History = cut_history (below 4 (c + 1)) in
    ap (λ (ys : List History). grown (map f ys) k (entries_of_change c h.entries)) (all_pass hs)
    ∙ grown_at (map f hs) k (f h) (entries_of_change c h.entries) (get_mapped f hs k h at)
    ∙ set_mapped f g hs k h (longer (f h) (entries_of_change c h.entries)) at (with_entries h (entries_more c h.change h.at h.entries (order k h at)))
    (λ j x there differ. with_entries x
    (sym (append-nil (entries_to c x.entries)) ∙ ap (λ (es : List Entry). entries_to c x.entries ++ es) (sym (others j x there differ)) ∙ entries_more c x.change x.at x.entries (order j x there)))
    ∙ ap (map g) (sym (all_pass hs))
  where
    grown_at : (ys : List History) (k : ℕ) (y : History) (es : List Entry) → slice_get ys k ≡ Some y → grown ys k es ≡ set ys k (longer y es)
    grown_at ys k y es there = rw there refl

    with_entries : (x : History) {es fs : List Entry} → es ≡ fs → (let one : History = record x { entries = es } in one) ≡ (let other : History = record x { entries = fs } in other)
    with_entries x same = ap (λ (zs : List Entry). let new : History = record x { entries = zs } in new) same
