-- Each part of a tracker may join what stands before it, and leads to what stands up to it: ranks and all behind them.
use Rattle.std.proofs.Common.{◌≡◌, ◌≢◌, ℕ, zero, suc, ◌+◌, ◌-◌, ◌<◌, ◌≤◌, ◌==◌, ◌⊎◌, inl, inr, nat_lt, Bool, true, false, List, [], ◌∷◌, ◌++◌, length, map, filter, slice_get, bytes_eq, Some, None, refl, sym, ap, ◌∙◌, subst, arith, eqb-true, eq-eqb, ne_eqb}
use Rattle.std.specs.Prelude.{if◌then◌else◌}
use Rattle.std.specs.List.{All}
use Rattle.std.specs.declared.cmp.Ordering.{Ordering}
use Rattle.std.specs.declared.cmp.Ordering.TheVariants.{Less, Greater}
use Rattle.std.specs.Ordering.{ordering_reverse}
use Rattle.std.proofs.lemmas.Bool.{cases_eq, cases_lt, and_parts, true≢false}
use Rattle.std.proofs.lemmas.Bool.Decides.{nat_tests}
use Rattle.std.proofs.lemmas.List.{length-append}
use Rattle.std.proofs.lemmas.List.Elements.{All-nil, All-cons, All-head, All-tail, All-filter, All-weaker}
use Rattle.std.proofs.lemmas.Option.{none-some, same_Some}
use Rattle.std.proofs.lemmas.Slice.Eq.{bytes_eq-Decides}
use Rattle.rising_numbers.specs.ByNumber.{RiseFrom, by_number}
use Rattle.field_values.specs.declared.numbers.GroupNo.{GroupNo}
use Rattle.field_values.specs.declared.numbers.IssueNo.{IssueNo}
use Rattle.field_values.specs.declared.numbers.SprintNo.{SprintNo}
use Rattle.field_values.specs.declared.numbers.UserNo.{UserNo}
use Rattle.field_values.specs.declared.parts.Group.{Group as UserGroup}
use Rattle.field_values.specs.GroupMembers.{with_members}
use Rattle.field_values.specs.Parts.{Parts}
use Rattle.field_forms.specs.Known.{Names}
use Rattle.fields.specs.SetupParts.{names_in}
use Rattle.change_history.specs.History.{History}
use Rattle.external_ids.specs.declared.external_id.ExternalId.{ExternalId}
use Rattle.external_ids.specs.Ids.{external_number, external_named, HaveOwnIds}
use Rattle.rank_strings.specs.Rank.{RankParts, IsRank, IsBelow, rank_cmp}
use Rattle.rank_strings.specs.Total.{rank_cmp-total}
use Rattle.board.specs.declared.board.Board.{Board}
use Rattle.board.specs.Order.{Pair, IsOrder, IsFreeFor, rank_in, without}
use Rattle.board.proofs.Placing.{IsOrder-tail}
use Rattle.rank_balancer.specs.declared.balance.Balance.{Balance}
use Rattle.rank_balancer.specs.declared.balance.Balance.TheVariants.{Idle, Moving}
use Rattle.rank_balancer.specs.Balance.{Agrees}
use Rattle.tracker_ranks.specs.Loaded.{AllowsBucket}
use Rattle.tracker_ranks.proofs.Given.{rank_here, rank_behind, in_from_rank}
use Rattle.jql_syntax.specs.Either.{QueryOrFault, text_is, text_has}
use Rattle.jql_syntax.proofs.Total.{text_decided}
use Rattle.jql_grammar.specs.Binding.{bound_in}
use Rattle.jql_grammar.specs.Scope.{Scope, scope_by}
use Rattle.sprints.specs.declared.sprint.Sprint.{Sprint}
use Rattle.sprints.specs.Sprint.{sprint_of}
use Rattle.tracker_keeper.specs.declared.part.Format.TheVariants.{Second}
use Rattle.tracker_keeper.specs.declared.part.Part.{Part}
use Rattle.tracker_keeper.specs.declared.part.Part.TheVariants as part
use Rattle.tracker_machine.specs.Machine.{Machine}
use Rattle.tracker_machine.specs.Query.{bound_or_fault, asked_by, asked}
use Rattle.tracker_machine.specs.Saved.{SavedFilter, filter_number, board_number, is_named, filter_named, HaveOwnNames, IsFilter, IsBoard}
use Rattle.tracker_machine.specs.Tracker.{IsTracker, IsExternalOf}
use Rattle.tracker_machine.proofs.Saved.{all_found}
use Rattle.tracker_machine.proofs.SprintRules.{found_is_there, sprint_is}
use Rattle.tracker_rows.specs.Gathered.{joined}
use Rattle.tracker_rows.specs.Rules.{MayJoin}
use Rattle.tracker_rows.proofs.Cuts.{Places, below, cut_histories, cut_order, cut_sprints, cut_groups, cut_setup, cut, to, one_more, none_to, no_sprints_yet, put_next, sprint_more, group_more, rank_more, all_pass}

-- the part may join one tracker in the making, and leads to the other one
pub record Joins (before after : Machine) (p : Part) : Type 0 where
  pub may : MayJoin Second before p
  pub leads : joined before p ≡ after

-- ---- lists

pub fewer : {X : Type 0} (test : X → Bool) (xs : List X) → length (filter test xs) ≤ length xs
fewer test [] = omega arith
fewer test (x ∷ xs) = by (test x) (fewer test xs)
  where
    by : (b : Bool) → length (filter test xs) ≤ length xs → length (if b then x ∷ filter test xs else filter test xs) ≤ length (x ∷ xs)
    by true rest = omega (arith, rest)
    by false rest = omega (arith, rest)

-- fewer stand before one of them
pub fewer_before : {X : Type 0} (number : X → ℕ) (least n : ℕ) (x : X) (xs : List X) → RiseFrom number least xs → by_number number n xs ≡ Some x
    → length (to number n xs) < length xs
fewer_before number least n x xs rise is =
    let more = one_more number least n x xs rise is in
    omega (arith, fewer (λ y. nat_lt (number y) (n + 1)) xs, ap length more, length-append (to number n xs) (x ∷ []))

pub length_all : (places : Places) (hs : List History) → ((n : ℕ) → places 3 n ≡ true) → length (cut_histories places hs) ≡ length hs
length_all places [] all = refl
length_all places (h ∷ hs) all = let rest = length_all places hs all in rw (all h.no.0) (omega (arith, rest))

other_way : (a b : List ℕ) → bytes_eq a b ≡ false → bytes_eq b a ≡ false
other_way a b other = by (bytes_eq b a) refl
  where
    by : (c : Bool) → bytes_eq b a ≡ c → c ≡ false
    by true is = absurd (true≢false (sym ((bytes_eq-Decides a b).1 (sym ((bytes_eq-Decides b a).0 is))) ∙ other))
    by false is = refl

-- ---- ranks

not_below_itself : (r : RankParts) → rank_cmp r r ≢ Less
not_below_itself r is = by (rank_cmp r r) is (rank_cmp-total.antisymm r r)
  where
    by : (o : Ordering) → o ≡ Less → o ≡ ordering_reverse o → ⊥
    by o less same = absurd (apart (sym less ∙ same ∙ ap ordering_reverse less))
      where
        apart : Less ≡ Greater → ⊥
        apart e = cc

-- what holds of all ranks holds of that of an issue
pub all_ranked : (P : RankParts → Type 0) (ps : List Pair) (n : ℕ) (rank : RankParts) → All (λ p. P p.0) ps → rank_in ps n ≡ Some rank → P rank
all_ranked P [] n rank all is = absurd (none-some rank is)
all_ranked P (p ∷ ps) n rank all is = by (p.1.0 == n) refl (λ behind. all_ranked P ps n rank (All-tail (λ p. P p.0) p ps all) behind)
  where
    by : (b : Bool) → (p.1.0 == n) ≡ b → (rank_in ps n ≡ Some rank → P rank) → P rank
    by true same rest = subst P (same_Some p.0 rank (sym (rank_here p ps n same) ∙ is)) (All-head (λ p. P p.0) p ps all)
    by false other rest = rest (sym (rank_behind p ps n other) ∙ is)

others_differ : (ps : List Pair) (n : ℕ) (rank : RankParts) → IsOrder ps → rank_in ps n ≡ Some rank → All (λ p. p.1.0 ≢ n → p.0 ≢ rank) ps
others_differ [] n rank order is = All-nil (λ p. p.1.0 ≢ n → p.0 ≢ rank)
others_differ (p ∷ ps) n rank order is = by (cases_eq p.1.0 n) (others_differ ps n rank (IsOrder-tail p ps order))
  where
    above : All (λ q. IsBelow p.0 q.0) ps
    above k d within = order.rising zero (suc k) d (omega arith) (omega (arith, within))

    differ : (a b : RankParts) → IsBelow a b → a ≢ b
    differ a b less same = not_below_itself b (subst (λ r. IsBelow r b) same less)

    by : (p.1.0 ≡ n) ⊎ (p.1.0 ≡ n → ⊥) → (rank_in ps n ≡ Some rank → All (λ p. p.1.0 ≢ n → p.0 ≢ rank) ps) → All (λ p. p.1.0 ≢ n → p.0 ≢ rank) (p ∷ ps)
    by (inl same) rest =
        let own : p.0 ≡ rank = same_Some p.0 rank (sym (rank_here p ps n (eq-eqb p.1.0 n same)) ∙ is) in
        All-cons (λ p. p.1.0 ≢ n → p.0 ≢ rank) p ps (λ apart. absurd (apart same))
        (All-weaker (λ q. IsBelow p.0 q.0) (λ p. p.1.0 ≢ n → p.0 ≢ rank) (λ q less apart equal. differ p.0 q.0 less (own ∙ sym equal)) ps above)
    by (inr apart) rest =
        let behind : rank_in ps n ≡ Some rank = sym (rank_behind p ps n (ne_eqb p.1.0 n apart)) ∙ is in
        All-cons (λ p. p.1.0 ≢ n → p.0 ≢ rank) p ps (λ other. differ p.0 rank (all_ranked (λ r. IsBelow p.0 r) ps n rank above behind)) (rest behind)

free_of : (ps : List Pair) (n : ℕ) (rank : RankParts) → All (λ p. p.1.0 ≢ n → p.0 ≢ rank) ps → IsFreeFor ps n rank
free_of [] n rank all = All-nil (λ p. p.0 ≢ rank)
free_of (p ∷ ps) n rank all = by (p.1.0 == n) refl (free_of ps n rank (All-tail (λ p. p.1.0 ≢ n → p.0 ≢ rank) p ps all))
  where
    by : (b : Bool) → (p.1.0 == n) ≡ b → All (λ q. q.0 ≢ rank) (without n ps) → All (λ q. q.0 ≢ rank) (if b then without n ps else p ∷ without n ps)
    by true same rest = rest
    by false other rest =
        All-cons (λ q. q.0 ≢ rank) p (without n ps)
        (All-head (λ p. p.1.0 ≢ n → p.0 ≢ rank) p ps all (λ is. true≢false (sym (eq-eqb p.1.0 n is) ∙ other))) rest

allowed_in : (ps : List Pair) (b : Balance) (n : ℕ) (rank : RankParts) → Agrees ps b → rank_in ps n ≡ Some rank → AllowsBucket b rank.bucket
allowed_in ps (Idle bucket) n rank agrees is = all_ranked (λ r. r.bucket ≡ bucket) ps n rank agrees.1 is
allowed_in ps (Moving from to) n rank agrees is = all_ranked (λ r. (r.bucket ≡ from) ⊎ (r.bucket ≡ to)) ps n rank agrees.2 is

-- ---- external ids

not_named : (id : List ℕ) (n : ℕ) (e : ExternalId) (xs : List ExternalId) → external_named id xs ≡ None → by_number external_number n xs ≡ Some e → bytes_eq e.id id ≡ false
not_named id n e [] none is = absurd (none-some e is)
not_named id n e (x ∷ xs) none is = by (x.no.0 == n) (bytes_eq x.id id) refl is none (not_named id n e xs)
  where
    by : (b c : Bool) → bytes_eq x.id id ≡ c → (if b then Some x else by_number external_number n xs) ≡ Some e → (if c then Some x else external_named id xs) ≡ None
        → (external_named id xs ≡ None → by_number external_number n xs ≡ Some e → bytes_eq e.id id ≡ false) → bytes_eq e.id id ≡ false
    by b true named found lacks rest = absurd (none-some x (sym lacks))
    by true false named found lacks rest = subst (λ (y : ExternalId). bytes_eq y.id id ≡ false) (same_Some x e found) named
    by false false named found lacks rest = rest lacks found

ids_before : (least n : ℕ) (e : ExternalId) (xs : List ExternalId) → RiseFrom external_number least xs → HaveOwnIds xs → by_number external_number n xs ≡ Some e
    → external_named e.id (to external_number n xs) ≡ None
ids_before least n e [] rise own is = refl
ids_before least n e (x ∷ xs) rise own is = by (cases_lt x.no.0 n) (ids_before (x.no.0 + 1) n e xs rise.1 own.1)
  where
    by : (x.no.0 < n) ⊎ (n ≤ x.no.0)
        → (by_number external_number n xs ≡ Some e → external_named e.id (to external_number n xs) ≡ None) → external_named e.id (to external_number n (x ∷ xs)) ≡ None
    by (inl less) rest =
        let there : nat_lt x.no.0 n ≡ true = grind (arith, nat_tests, less) in
        let behind : by_number external_number n xs ≡ Some e = rw (ne_eqb x.no.0 n (λ equal. omega (arith, equal, less))) at is in
        rw (there, other_way e.id x.id (not_named x.id n e xs own.0 behind)) (rest behind)
    by (inr le) rest =
        let past : nat_lt x.no.0 n ≡ false = grind (arith, nat_tests, le) in
        let gone : to external_number n xs ≡ [] = none_to external_number (x.no.0 + 1) n xs rise.1 (omega (arith, le)) in
        rw (past, gone) refl

-- ---- filters

not_of_name : (owner : UserNo) (name : List ℕ) (n : ℕ) (f : SavedFilter) (xs : List SavedFilter) → filter_named owner name xs ≡ None → by_number filter_number n xs ≡ Some f
    → is_named owner name f ≡ false
not_of_name owner name n f [] none is = absurd (none-some f is)
not_of_name owner name n f (x ∷ xs) none is = by (x.no.0 == n) (is_named owner name x) refl is none (not_of_name owner name n f xs)
  where
    by : (b c : Bool) → is_named owner name x ≡ c → (if b then Some x else by_number filter_number n xs) ≡ Some f
        → (if c then Some x else filter_named owner name xs) ≡ None
        → (filter_named owner name xs ≡ None → by_number filter_number n xs ≡ Some f → is_named owner name f ≡ false) → is_named owner name f ≡ false
    by b true named found lacks rest = absurd (none-some x (sym lacks))
    by true false named found lacks rest = subst (λ (y : SavedFilter). is_named owner name y ≡ false) (same_Some x f found) named
    by false false named found lacks rest = rest lacks found

named_back : (f x : SavedFilter) → is_named x.owner x.name f ≡ false → is_named f.owner f.name x ≡ false
named_back f x other = by (is_named f.owner f.name x) refl
  where
    by : (c : Bool) → is_named f.owner f.name x ≡ c → c ≡ false
    by true is =
        let parts = and_parts (x.owner.0 == f.owner.0) (bytes_eq x.name f.name) is in
        let owner : (f.owner.0 == x.owner.0) ≡ true = eq-eqb f.owner.0 x.owner.0 (sym (eqb-true x.owner.0 f.owner.0 parts.0)) in
        let name : bytes_eq f.name x.name ≡ true = (bytes_eq-Decides f.name x.name).1 (sym ((bytes_eq-Decides x.name f.name).0 parts.1)) in
        let both : is_named x.owner x.name f ≡ true = rw (owner, name) refl in
        absurd (true≢false (sym both ∙ other))
    by false is = refl

names_before : (least n : ℕ) (f : SavedFilter) (xs : List SavedFilter) → RiseFrom filter_number least xs → HaveOwnNames xs → by_number filter_number n xs ≡ Some f
    → filter_named f.owner f.name (to filter_number n xs) ≡ None
names_before least n f [] rise own is = refl
names_before least n f (x ∷ xs) rise own is = by (cases_lt x.no.0 n) (names_before (x.no.0 + 1) n f xs rise.1 own.1)
  where
    by : (x.no.0 < n) ⊎ (n ≤ x.no.0) → (by_number filter_number n xs ≡ Some f → filter_named f.owner f.name (to filter_number n xs) ≡ None)
        → filter_named f.owner f.name (to filter_number n (x ∷ xs)) ≡ None
    by (inl less) rest =
        let there : nat_lt x.no.0 n ≡ true = grind (arith, nat_tests, less) in
        let behind : by_number filter_number n xs ≡ Some f = rw (ne_eqb x.no.0 n (λ equal. omega (arith, equal, less))) at is in
        rw (there, named_back f x (not_of_name x.owner x.name n f xs own.0 behind)) (rest behind)
    by (inr le) rest =
        let past : nat_lt x.no.0 n ≡ false = grind (arith, nat_tests, le) in
        let gone : to filter_number n xs ≡ [] = none_to filter_number (x.no.0 + 1) n xs rise.1 (omega (arith, le)) in
        rw (past, gone) refl

-- ---- sprints

pub length_sprints : (first n : ℕ) (ss : List Sprint) → first ≤ n → n ≤ first + length ss → length (cut_sprints (below 7 n) first ss) ≡ n - first
length_sprints first n [] low high = omega (arith, low, high)
length_sprints first n (s ∷ ss) low high = by (cases_lt first n) (λ less. length_sprints (first + 1) n ss (omega (arith, less)) (omega (arith, high)))
  where
    by : (first < n) ⊎ (n ≤ first) → (first < n → length (cut_sprints (below 7 n) (first + 1) ss) ≡ n - (first + 1))
        → length (cut_sprints (below 7 n) first (s ∷ ss)) ≡ n - first
    by (inl less) behind =
        let own : nat_lt first n ≡ true = grind (arith, nat_tests, less) in
        let rest = behind less in
        rw own (omega (arith, rest, less))
    by (inr le) behind =
        let none = no_sprints_yet n first (s ∷ ss) le in ap length none ∙ omega (arith, le, low)

-- ---- setups

names_cut : (places : Places) (first : ℕ) (ws gs : List UserGroup) → length gs ≡ length ws → map (λ g. g.name) (cut_groups places first ws gs) ≡ map (λ g. g.name) gs
names_cut places first [] [] same = refl
names_cut places first [] (g ∷ gs) same = absurd (omega (arith, same))
names_cut places first (w ∷ ws) [] same = refl
names_cut places first (w ∷ ws) (g ∷ gs) same = ap (λ (names : List (List ℕ)). g.name ∷ names) (names_cut places (first + 1) ws gs (omega (arith, same)))

module _ (places : Places) (written setup : Parts) (same : length setup.group ≡ length written.group) where
  pub group_names_cut : map (λ g. g.name) (cut_setup places written setup).group ≡ map (λ g. g.name) setup.group
  group_names_cut = names_cut places 1 written.group setup.group same

  pub names_in_cut : names_in (cut_setup places written setup) ≡ names_in setup
  names_in_cut = ap (λ (names : List (List ℕ)). let all : Names = record (names_in setup) { groups = names } in all) group_names_cut

  scope_cut : (user : UserNo) → scope_by (cut_setup places written setup) user ≡ scope_by setup user
  scope_cut user = ap (λ (names : Names). let scope : Scope = record (scope_by setup user) { names = names } in scope) names_in_cut

  asked_cut : (user : ℕ) (text : List ℕ) → asked (cut_setup places written setup) user text ≡ asked setup user text
  unfolding asked
  asked_cut user text = by (text_decided text)
    where
      by : (it : QueryOrFault text) → asked_by (cut_setup places written setup) user text it ≡ asked_by setup user text it
      by (text_is q keys is) = ap (λ (scope : Scope). bound_or_fault (bound_in scope q keys)) (scope_cut (record { 0 = user }))
      by (text_has place kind is) = refl

-- ---- each part

module _ (m : Machine) (written : Parts) (is : IsTracker m) (same : length m.setup.group ≡ length written.group) where
  abbrev at : ℕ → ℕ → Machine
  at k n = cut (below k n) written m

  pub rank_joins : (issue : IssueNo) (rank : RankParts) → IsRank rank → rank_in m.order issue.0 ≡ Some rank → Joins (at 5 issue.0) (at 5 (issue.0 + 1)) (part.Rank issue rank)
  unfolding MayJoin joined
  rank_joins issue rank form there =
      let order : IsOrder m.order = is.ranked.order in
      let among = (is.ranked.numbered issue.0).0 (in_from_rank m.order issue.0 rank there) in
      let free : IsFreeFor (cut_order (below 5 issue.0) m.order) issue.0 rank =
      free_of (cut_order (below 5 issue.0) m.order) issue.0 rank
      (All-filter (λ p. nat_lt p.1.0 issue.0) (λ p. p.1.0 ≢ issue.0 → p.0 ≢ rank) m.order (others_differ m.order issue.0 rank order there)) in
      record {
        may = record {
          there = omega (arith, among.1, is.each, length_all (below 5 issue.0) m.histories (λ n. refl));
          free = free;
          allowed = allowed_in m.order m.balance issue.0 rank is.ranked.agrees there;
        };
        leads = ap (λ (ps : List Pair). let next : Machine = record (at 5 issue.0) { order = ps } in next) (rank_more issue rank m.order order form free there);
      }

  pub external_joins : (e : ExternalId) → by_number external_number e.no.0 m.externals ≡ Some e → Joins (at 6 e.no.0) (at 6 (e.no.0 + 1)) (part.External e.no e.id)
  unfolding MayJoin joined
  external_joins e there = record {
    may = record {
      there = omega (arith, (all_found external_number (IsExternalOf (length m.histories)) e.no.0 e m.externals there is.externals.each).there, length_all (below 6 e.no.0) m.histories (λ n. refl));
      alone = ids_before 1 e.no.0 e m.externals is.externals.rising is.externals.own there;
    };
    leads = ap (λ (ids : List ExternalId). let next : Machine = record (at 6 e.no.0) { externals = ids } in next) (put_next external_number 1 e.no.0 e m.externals is.externals.rising there refl);
  }

  pub sprint_joins : (sprint_no : SprintNo) (s : Sprint) → sprint_of m.sprints sprint_no.0 ≡ Some s → Joins (at 7 sprint_no.0) (at 7 (sprint_no.0 + 1)) (part.Sprint sprint_no s)
  unfolding MayJoin joined
  sprint_joins sprint_no s found =
      let n : ℕ = sprint_no.0 in
      let there = found_is_there m.sprints n s found in
      let long = length_sprints 1 n m.sprints (omega (arith, there.0)) (omega (arith, there.0)) in
      let more : cut_sprints (below 7 (n + 1)) 1 m.sprints ≡ cut_sprints (below 7 n) 1 m.sprints ++ s ∷ [] =
      subst (λ k. cut_sprints (below 7 (k + 1)) 1 m.sprints ≡ cut_sprints (below 7 k) 1 m.sprints ++ s ∷ []) (omega (arith, there.0)) (sprint_more 1 (n - 1) s m.sprints there.1) in
      record {
        may = record {
          few = omega (arith, long, there.0, is.sprints.few);
          no = omega (arith, long, there.0);
          timely = (sprint_is m.moment m.change m.sprints m.histories is.sprints n s there.1).timely;
        };
        leads = ap (λ (ss : List Sprint). let next : Machine = record (at 7 sprint_no.0) { sprints = ss } in next) (sym more);
      }

  pub filter_joins : (f : SavedFilter) → by_number filter_number f.no.0 m.filters ≡ Some f → Joins (at 8 f.no.0) (at 8 (f.no.0 + 1)) (part.Filter f.no f.owner f.name f.text)
  unfolding MayJoin joined
  filter_joins f there =
      let own : IsFilter m.setup f = all_found filter_number (IsFilter m.setup) f.no.0 f m.filters there is.saved.each in
      record {
        may = record {
          few = omega (arith, fewer_before filter_number 1 f.no.0 f m.filters is.saved.rising there, is.saved.few);
          query = own.query;
          asks = asked_cut (below 8 f.no.0) written m.setup same f.owner.0 f.text ∙ own.asks;
          alone = names_before 1 f.no.0 f m.filters is.saved.rising is.saved.names there;
        };
        leads = ap (λ (fs : List SavedFilter). let next : Machine = record (at 8 f.no.0) { filters = fs } in next) (put_next filter_number 1 f.no.0 f m.filters is.saved.rising there refl);
      }

  pub board_joins : (b : Board) → by_number board_number b.no.0 m.boards ≡ Some b → Joins (at 9 b.no.0) (at 9 (b.no.0 + 1)) (part.Board b.no b.name b.filter)
  unfolding MayJoin joined
  board_joins b there =
      let own : IsBoard m.filters b = all_found board_number (IsBoard m.filters) b.no.0 b m.boards there is.saved.each_board in
      record {
        may = record {
          few = omega (arith, fewer_before board_number 1 b.no.0 b m.boards is.saved.rising_boards there, is.saved.few_boards);
          there = subst (λ fs. by_number filter_number b.filter.0 fs ≢ None) (sym (all_pass m.filters)) own.there;
        };
        leads = ap (λ (bs : List Board). let next : Machine = record (at 9 b.no.0) { boards = bs } in next) (put_next board_number 1 b.no.0 b m.boards is.saved.rising_boards there refl);
      }

  pub members_join : (group : GroupNo) (k : ℕ) (g : UserGroup) → group.0 ≡ 1 + k → slice_get m.setup.group k ≡ Some g
      → Joins (at 10 group.0) (at 10 (group.0 + 1)) (part.Members group g.members)
  unfolding MayJoin joined
  members_join group k g next there = record {
    may = refl;
    leads = ap (λ (gs : List UserGroup). let after : Machine = record (at 10 group.0) { setup = record m.setup { group = gs } } in after)
        (subst (λ n. with_members (cut_groups (below 10 n) 1 written.group m.setup.group) (n - 1) g.members ≡ cut_groups (below 10 (n + 1)) 1 written.group m.setup.group) (sym next)
        (subst (λ j. with_members (cut_groups (below 10 (1 + k)) 1 written.group m.setup.group) j g.members ≡ cut_groups (below 10 (1 + k + 1)) 1 written.group m.setup.group) (omega arith)
        (group_more 1 k g written.group m.setup.group there (omega (arith, same)))));
  }
