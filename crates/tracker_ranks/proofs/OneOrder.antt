-- The ranks of issues make one order.
use Rattle.std.proofs.Common.{◌≡◌, ℕ, suc, ◌+◌, ◌<◌, ◌≤◌, ◌==◌, true, false, inl, inr, List, [], ◌∷◌, ◌⊎◌, length, get_or, Some, None, refl, sym, ◌∙◌, ap, arith}
use Rattle.std.specs.Prelude.{Contains, option_map, slice_get}
use Rattle.std.specs.declared.cmp.Ordering.TheVariants.{Less, Equal}
use Rattle.std.proofs.lemmas.Bool.{cases_eq, cases_lt}
use Rattle.std.proofs.lemmas.Bool.Decides.{nat_tests}
use Rattle.std.proofs.lemmas.Cmp.{tied_itself}
use Rattle.std.proofs.lemmas.List.{get_or_default}
use Rattle.std.proofs.lemmas.List.Sorted.{Contains-permutation, length_permutation}
use Rattle.std.proofs.lemmas.Option.{slice_get-get_or, slice_get_past}
use Rattle.rank_strings.specs.Rank.{RankParts, IsBelow, rank_cmp}
use Rattle.rank_strings.specs.Total.{rank_cmp-total}
use Rattle.board.specs.Order.{Pair, IsOrder, places_before, rank_in}
use Rattle.board.specs.Table.{nothing, number_at}
use Rattle.board.specs.Search.{rank_at}
use Rattle.board.proofs.Moves.{number_at-places_before, places_before-number_at}
use Rattle.board.proofs.Placing.{IsOrder-tail}
use Rattle.tracker_ranks.specs.Loaded.{numbered_from}
use Rattle.tracker_ranks.specs.Laws.{RanksMakeOneOrder, LoadedRanksAreThose}
use Rattle.tracker_ranks.proofs.Given.{rank_here, rank_behind, rank_from_in, in_from_rank}
use Rattle.tracker_ranks.proofs.Loading.{length-numbered_from, no_rank, numbered, pair_numbered}

-- an issue has no rank behind its own pair
none_behind : (p : Pair) (ps : List Pair) → IsOrder (p ∷ ps) → rank_in ps p.1.0 ≡ None
none_behind p ps order = by (cases_lt (places_before ps p.1.0) (length ps))
  where
    by : (places_before ps p.1.0 < length ps) ⊎ (length ps ≤ places_before ps p.1.0) → rank_in ps p.1.0 ≡ None
    by (inl lt) = absurd (order.once 0 (suc (places_before ps p.1.0)) nothing (omega arith) (omega arith) (sym (number_at-places_before ps p.1.0 lt)))
    by (inr ge) = ap (option_map (λ (q : Pair). q.0)) (slice_get_past ps (places_before ps p.1.0) ge)

-- a rank that is found behind the first pair is above it
above_first : (p : Pair) (ps : List Pair) (issue : ℕ) (rank : RankParts) → IsOrder (p ∷ ps) → rank_in ps issue ≡ Some rank → IsBelow p.0 rank
above_first p ps issue rank order has =
    let there = in_from_rank ps issue rank has in
    let found = rank_from_in ps issue there in
    let is : rank_at ps (places_before ps issue) ≡ rank = cc in
    let below : IsBelow p.0 (rank_at ps (places_before ps issue)) = order.rising 0 (suc (places_before ps issue)) nothing (omega arith) (omega (arith, there)) in
    rw is at below

itself : (p : Pair) → (p.1.0 == p.1.0) ≡ true
itself p = grind (arith, nat_tests)

pub ranks_make_one_order : RanksMakeOneOrder
ranks_make_one_order [] [] op oq same = refl
ranks_make_one_order [] (q ∷ qs) op oq same = let some = rank_here q qs q.1.0 (itself q) in let none = same q.1.0 in absurd (cc)
ranks_make_one_order (p ∷ ps) [] op oq same = let some = rank_here p ps p.1.0 (itself p) in let none = same p.1.0 in absurd (cc)
ranks_make_one_order (p ∷ ps) (q ∷ qs) op oq same = by (cases_eq p.1.0 q.1.0) (ranks_make_one_order ps qs (IsOrder-tail p ps op) (IsOrder-tail q qs oq))
  where
    tails : p.1.0 ≡ q.1.0 → (n : ℕ) → (p.1.0 ≡ n) ⊎ (p.1.0 ≡ n → ⊥) → rank_in ps n ≡ rank_in qs n
    tails first n (inl here) =
        ap (rank_in ps) (sym here) ∙ none_behind p ps op ∙ sym (ap (rank_in qs) (sym here ∙ first) ∙ none_behind q qs oq)
    tails first n (inr differ) =
        let one : (p.1.0 == n) ≡ false = grind (arith, nat_tests) in
        let other : (q.1.0 == n) ≡ false = grind (arith, nat_tests) in
        sym (rank_behind p ps n one) ∙ same n ∙ rank_behind q qs n other

    by : (p.1.0 ≡ q.1.0) ⊎ (p.1.0 ≡ q.1.0 → ⊥) → (((n : ℕ) → rank_in ps n ≡ rank_in qs n) → ps ≡ qs) → p ∷ ps ≡ q ∷ qs
    by (inl first) rest =
        let test : (q.1.0 == p.1.0) ≡ true = grind (arith, nat_tests) in
        let found : Some p.0 ≡ Some q.0 = sym (rank_here p ps p.1.0 (itself p)) ∙ same p.1.0 ∙ rank_here q qs p.1.0 test in
        let rank : p.0 ≡ q.0 = cc in
        let issue : p.1 ≡ q.1 = ap (λ n. record { 0 = n }) first in
        let others : ps ≡ qs = rest (λ n. tails first n (cases_eq p.1.0 n)) in
        λ i. (rank i, issue i) ∷ others i
    by (inr differ) rest =
        let one : (q.1.0 == p.1.0) ≡ false = grind (arith, nat_tests) in
        let other : (p.1.0 == q.1.0) ≡ false = grind (arith, nat_tests) in
        let behind_q : rank_in qs p.1.0 ≡ Some p.0 = sym (rank_behind q qs p.1.0 one) ∙ sym (same p.1.0) ∙ rank_here p ps p.1.0 (itself p) in
        let behind_p : rank_in ps q.1.0 ≡ Some q.0 = sym (rank_behind p ps q.1.0 other) ∙ same q.1.0 ∙ rank_here q qs q.1.0 (itself q) in
        let below = above_first q qs p.1.0 p.0 oq behind_q in
        let above = above_first p ps q.1.0 q.0 op behind_p in
        let less : rank_cmp p.0 p.0 ≡ Less = rank_cmp-total.trans p.0 q.0 p.0 above below in
        let equal : rank_cmp p.0 p.0 ≡ Equal = tied_itself rank_cmp-total p.0 in
        let no : Equal ≡ Less = sym equal ∙ less in
        absurd (cc)

pub loaded_ranks_are_those : LoadedRanksAreThose
loaded_ranks_are_those ranks b loaded ranked are n = by (cases_lt n (length ranks)) (cases_lt (places_before loaded.order (n + 1)) (length loaded.order))
  where
    count : length loaded.order ≡ length ranks
    count = length_permutation (numbered_from 1 ranks) loaded.order are.issues ∙ length-numbered_from 1 ranks

    x : Pair
    x = (get_or ranks n no_rank, numbered (1 + n))

    at : n < length ranks → Contains loaded.order x → rank_in loaded.order (n + 1) ≡ slice_get ranks n
    at lt (j, inside, here) =
        let pair : get_or loaded.order j nothing ≡ x = get_or_default loaded.order j nothing x inside ∙ here in
        let number : number_at loaded.order j ≡ n + 1 = let same = ap (λ (p : Pair). p.1.0) pair in omega (arith, same) in
        let place : places_before loaded.order (n + 1) ≡ j =
        sym (ap (places_before loaded.order) number) ∙ places_before-number_at loaded.order j ranked.order.once inside in
        rank_from_in loaded.order (n + 1) (omega (arith, place, inside)) ∙ ap (λ k. Some (rank_at loaded.order k)) place ∙ ap (λ (p : Pair). Some p.0) pair
        ∙ sym (slice_get-get_or ranks n no_rank lt)

    by : (n < length ranks) ⊎ (length ranks ≤ n) → (places_before loaded.order (n + 1) < length loaded.order) ⊎ (length loaded.order ≤ places_before loaded.order (n + 1)) →
        rank_in loaded.order (n + 1) ≡ slice_get ranks n
    by (inl lt) found =
        let m = length-numbered_from 1 ranks in
        at lt (Contains-permutation (numbered_from 1 ranks) loaded.order x are.issues (n, omega (arith, m, lt), pair_numbered 1 ranks n x no_rank lt))
    by (inr ge) (inl there) = let one = (ranked.numbered (n + 1)).0 there in let m = count in absurd (omega (arith, one, m, ge))
    by (inr ge) (inr past) = ap (option_map (λ (p : Pair). p.0)) (slice_get_past loaded.order (places_before loaded.order (n + 1)) past) ∙ sym (slice_get_past ranks n ge)
