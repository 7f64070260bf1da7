-- The ranks of all issues after one of them is given a rank.
use Rattle.std.proofs.Common.{◌≡◌, ◌≢◌, ℕ, ◌+◌, ◌<◌, ◌≤◌, ◌==◌, true, false, inl, inr, List, [], ◌∷◌, ◌⊎◌, length, Some, None, refl, sym, ◌∙◌, ap, arith}
use Rattle.std.specs.Prelude.{option_map}
use Rattle.std.specs.declared.cmp.Ordering.TheVariants.{Less, Equal}
use Rattle.std.specs.Ordering.{is_lt}
use Rattle.std.proofs.lemmas.Bool.{cases_Bool, cases_lt}
use Rattle.std.proofs.lemmas.Bool.Decides.{nat_tests}
use Rattle.std.proofs.lemmas.Cmp.{tied_itself}
use Rattle.std.proofs.lemmas.Option.{slice_get-get_or, slice_get_past}
use Rattle.field_values.specs.declared.numbers.IssueNo.{IssueNo}
use Rattle.rank_strings.specs.Rank.{RankParts, rank_cmp}
use Rattle.rank_strings.specs.Total.{rank_cmp-total}
use Rattle.board.specs.Order.{Pair, IsOrder, IsIn, places_before, rank_in, without, put_in}
use Rattle.board.specs.Table.{nothing, number_at}
use Rattle.board.specs.Search.{rank_at}
use Rattle.board.proofs.Moves.{number_at-places_before}
use Rattle.board.proofs.Put as Put
use Rattle.rank_balancer.specs.Step.{after_move}
use Rattle.tracker_ranks.specs.Laws.{EachMoveGivesOneRank, RanksDiffer}

-- an issue stands in the order exactly where it has a rank
pub rank_from_in : (ps : List Pair) (issue : ℕ) → IsIn ps issue → rank_in ps issue ≡ Some (rank_at ps (places_before ps issue))
rank_from_in ps issue there = ap (option_map (λ (p : Pair). p.0)) (slice_get-get_or ps (places_before ps issue) nothing there)

pub in_from_rank : (ps : List Pair) (issue : ℕ) (rank : RankParts) → rank_in ps issue ≡ Some rank → IsIn ps issue
in_from_rank ps issue rank has = by (cases_lt (places_before ps issue) (length ps))
  where
    by : (places_before ps issue < length ps) ⊎ (length ps ≤ places_before ps issue) → IsIn ps issue
    by (inl lt) = lt
    by (inr ge) =
        let none : rank_in ps issue ≡ None = ap (option_map (λ (p : Pair). p.0)) (slice_get_past ps (places_before ps issue) ge) in
        absurd (cc)

-- where two orders give it one rank, it stands in both or in none
pub same_in : (ps qs : List Pair) (issue : ℕ) → rank_in ps issue ≡ rank_in qs issue → IsIn ps issue → IsIn qs issue
same_in ps qs issue same there = in_from_rank qs issue (rank_at ps (places_before ps issue)) (sym same ∙ rank_from_in ps issue there)

-- the rank of the first pair's issue, and of another one
pub rank_here : (p : Pair) (ps : List Pair) (issue : ℕ) → (p.1.0 == issue) ≡ true → rank_in (p ∷ ps) issue ≡ Some p.0
rank_here p ps issue is = rw is refl

pub rank_behind : (p : Pair) (ps : List Pair) (issue : ℕ) → (p.1.0 == issue) ≡ false → rank_in (p ∷ ps) issue ≡ rank_in ps issue
rank_behind p ps issue is = rw is refl

-- taking out an issue leaves the ranks of the others
without-others : (issue : ℕ) (ps : List Pair) (other : ℕ) → issue ≢ other → rank_in (without issue ps) other ≡ rank_in ps other
without-others issue [] other differ = refl
without-others issue (p ∷ ps) other differ = by (cases_Bool (p.1.0 == issue)) (cases_Bool (p.1.0 == other)) (without-others issue ps other differ)
  where
    by : ((p.1.0 == issue) ≡ true) ⊎ ((p.1.0 == issue) ≡ false) → ((p.1.0 == other) ≡ true) ⊎ ((p.1.0 == other) ≡ false) →
        rank_in (without issue ps) other ≡ rank_in ps other → rank_in (without issue (p ∷ ps)) other ≡ rank_in (p ∷ ps) other
    by (inl is) (inl here) rest = absurd (grind (arith, nat_tests))
    by (inl is) (inr apart) rest = rw is (rest ∙ sym (rank_behind p ps other apart))
    by (inr is) (inl here) rest = rw is (rank_here p (without issue ps) other here ∙ sym (rank_here p ps other here))
    by (inr is) (inr apart) rest = rw is (rank_behind p (without issue ps) other apart ∙ rest ∙ sym (rank_behind p ps other apart))

-- and leaves it no rank
without-own : (issue : ℕ) (ps : List Pair) → rank_in (without issue ps) issue ≡ None
without-own issue [] = refl
without-own issue (p ∷ ps) = by (cases_Bool (p.1.0 == issue)) (without-own issue ps)
  where
    by : ((p.1.0 == issue) ≡ true) ⊎ ((p.1.0 == issue) ≡ false) → rank_in (without issue ps) issue ≡ None → rank_in (without issue (p ∷ ps)) issue ≡ None
    by (inl is) rest = rw is rest
    by (inr is) rest = rw is (rank_behind p (without issue ps) issue is ∙ rest)

-- putting in a pair leaves the ranks of the others
put_in-others : (x : Pair) (ps : List Pair) (other : ℕ) → x.1.0 ≢ other → rank_in (put_in x ps) other ≡ rank_in ps other
put_in-others x [] other differ = let apart : (x.1.0 == other) ≡ false = grind (arith, nat_tests) in rank_behind x [] other apart
put_in-others x (p ∷ ps) other differ = by (cases_Bool (is_lt (rank_cmp x.0 p.0))) (cases_Bool (p.1.0 == other)) (put_in-others x ps other differ)
  where
    by : (is_lt (rank_cmp x.0 p.0) ≡ true) ⊎ (is_lt (rank_cmp x.0 p.0) ≡ false) → ((p.1.0 == other) ≡ true) ⊎ ((p.1.0 == other) ≡ false) →
        rank_in (put_in x ps) other ≡ rank_in ps other → rank_in (put_in x (p ∷ ps)) other ≡ rank_in (p ∷ ps) other
    by (inl is) found rest = let apart : (x.1.0 == other) ≡ false = grind (arith, nat_tests) in rw is (rank_behind x (p ∷ ps) other apart)
    by (inr is) (inl here) rest = rw is (rank_here p (put_in x ps) other here ∙ sym (rank_here p ps other here))
    by (inr is) (inr apart) rest = rw is (rank_behind p (put_in x ps) other apart ∙ rest ∙ sym (rank_behind p ps other apart))

-- and gives its issue its rank, where that had none
put_in-own : (x : Pair) (ps : List Pair) → rank_in ps x.1.0 ≡ None → rank_in (put_in x ps) x.1.0 ≡ Some x.0
put_in-own x [] none = let itself : (x.1.0 == x.1.0) ≡ true = grind (arith, nat_tests) in rank_here x [] x.1.0 itself
put_in-own x (p ∷ ps) none = by (cases_Bool (is_lt (rank_cmp x.0 p.0))) (cases_Bool (p.1.0 == x.1.0)) (put_in-own x ps)
  where
    by : (is_lt (rank_cmp x.0 p.0) ≡ true) ⊎ (is_lt (rank_cmp x.0 p.0) ≡ false) → ((p.1.0 == x.1.0) ≡ true) ⊎ ((p.1.0 == x.1.0) ≡ false) →
        (rank_in ps x.1.0 ≡ None → rank_in (put_in x ps) x.1.0 ≡ Some x.0) → rank_in (put_in x (p ∷ ps)) x.1.0 ≡ Some x.0
    by (inl is) found rest = let itself : (x.1.0 == x.1.0) ≡ true = grind (arith, nat_tests) in rw is (rank_here x (p ∷ ps) x.1.0 itself)
    by (inr is) (inl here) rest = let some = rank_here p ps x.1.0 here in absurd (cc)
    by (inr is) (inr apart) rest = rw is (rank_behind p (put_in x ps) x.1.0 apart ∙ rest (sym (rank_behind p ps x.1.0 apart) ∙ none))

-- an issue that is given a rank has it, and all others keep theirs
pub gives_one_rank : EachMoveGivesOneRank
gives_one_rank ps m = record {
  own = put_in-own (m.1, m.0) (without m.0.0 ps) (without-own m.0.0 ps);
  others = λ other differ. put_in-others (m.1, m.0) (without m.0.0 ps) other differ ∙ without-others m.0.0 ps other differ;
}

length-put_in : (x : Pair) (ps : List Pair) → length (put_in x ps) ≡ length ps + 1
length-put_in x [] = refl
length-put_in x (p ∷ ps) = by (cases_Bool (is_lt (rank_cmp x.0 p.0))) (length-put_in x ps)
  where
    by : (is_lt (rank_cmp x.0 p.0) ≡ true) ⊎ (is_lt (rank_cmp x.0 p.0) ≡ false) → length (put_in x ps) ≡ length ps + 1 →
        length (put_in x (p ∷ ps)) ≡ length (p ∷ ps) + 1
    by (inl is) rest = rw is (omega arith)
    by (inr is) rest = rw is (omega arith)

-- a move leaves the number of issues
pub length-moved : (ps : List Pair) (issue : IssueNo) (rank : RankParts) → IsOrder ps → IsIn ps issue.0 → length (after_move ps (issue, rank)) ≡ length ps
length-moved ps issue rank order there =
    let others = Put.others ps issue.0 order in
    let fewer = others.there there in
    let more = length-put_in (rank, issue) (without issue.0 ps) in
    omega (arith, fewer, more)

-- two issues have two ranks
pub ranks_differ : RanksDiffer
ranks_differ ps one other rank order differ has same = by (cases_lt a b) (cases_lt b a)
  where
    a : ℕ
    a = places_before ps one

    b : ℕ
    b = places_before ps other

    one_in : a < length ps
    one_in = in_from_rank ps one rank has

    other_in : b < length ps
    other_in = in_from_rank ps other rank same

    one_rank : rank_at ps a ≡ rank
    one_rank = let found = rank_from_in ps one one_in in cc

    other_rank : rank_at ps b ≡ rank
    other_rank = let found = rank_from_in ps other other_in in cc

    apart : a ≢ b
    apart e = differ (sym (number_at-places_before ps one one_in) ∙ ap (number_at ps) e ∙ number_at-places_before ps other other_in)

    not_below : (k j : ℕ) → rank_at ps k ≡ rank → rank_at ps j ≡ rank → k < j → j < length ps → ⊥
    not_below k j first second less lt =
        let below : rank_cmp (rank_at ps k) (rank_at ps j) ≡ Less = order.rising k j nothing less lt in
        let itself : rank_cmp rank rank ≡ Less = rw (first, second) at below in
        let equal : rank_cmp rank rank ≡ Equal = tied_itself rank_cmp-total rank in
        let no : Equal ≡ Less = sym equal ∙ itself in
        cc

    by : (a < b) ⊎ (b ≤ a) → (b < a) ⊎ (a ≤ b) → ⊥
    by (inl less) h = not_below a b one_rank other_rank less other_in
    by (inr le) (inl less) = not_below b a other_rank one_rank less one_in
    by (inr le) (inr ge) = apart (omega arith)
