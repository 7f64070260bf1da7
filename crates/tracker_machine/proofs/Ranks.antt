-- What is known of an order whose issues are ranked: its ranks are ranks, the issues of its moves are its own, and its balance
-- may be kept.
use Rattle.std.proofs.Common.{◌≡◌, ℕ, true, List, [], ◌∷◌, length, Some, sym, ◌∙◌, subst, refl, arith, lt-ltb, eq-eqb}
use Rattle.std.specs.List.{All}
use Rattle.std.proofs.lemmas.List.Elements.{All-nil, All-cons}
use Rattle.std.proofs.lemmas.Option.{same_Some}
use Rattle.rank_strings.specs.Rank.{RankParts, IsRank}
use Rattle.board.specs.Order.{Pair, IsOrder, IsIn, places_before, rank_in}
use Rattle.board.specs.Table.{nothing}
use Rattle.board.specs.Search.{rank_at}
use Rattle.board.proofs.Issues.{places_go_by_issues}
use Rattle.rank_balancer.specs.declared.balance.Balance.{Balance}
use Rattle.rank_balancer.specs.declared.balance.Balance.TheVariants.{Idle, Moving}
use Rattle.rank_balancer.specs.Balance.{Agrees, IsMoving, from_of, to_of, next_bucket}
use Rattle.rank_balancer.specs.Step.{Move, ArePicks, after_move}
use Rattle.rank_balancer.proofs.Keeps.{one_pick_keeps_all}
use Rattle.tracker_ranks.specs.Ranked.{IsOneOf, IsRanked}
use Rattle.tracker_ranks.proofs.Given.{rank_from_in, in_from_rank, gives_one_rank}
use Rattle.tracker_keeper.specs.Forms.{is_balance}

-- what stands in an order as a rank is one
pub rank_of_order : (ps : List Pair) (n : ℕ) (rank : RankParts) → IsOrder ps → rank_in ps n ≡ Some rank → IsRank rank
rank_of_order ps n rank order has =
    let there = in_from_rank ps n rank has in
    let is : rank_at ps (places_before ps n) ≡ rank = same_Some _ _ (sym (rank_from_in ps n there) ∙ has) in
    subst IsRank is (order.ranks (places_before ps n) nothing there)

-- ---- moves

-- the issue of a move is one of so many, and gets a rank
abbrev pub IsNumbered : ℕ → Move → Type 0
IsNumbered count m = IsOneOf count m.0.0 × IsRank m.1

picks_are_numbered : (ps : List Pair) (from to count : ℕ) (moves : List Move) → IsOrder ps → Agrees ps (Moving from to)
    → ((n : ℕ) → IsIn ps n → IsOneOf count n) → ArePicks ps from to moves → All (IsNumbered count) moves
picks_are_numbered ps from to count [] order agrees within picks = All-nil (IsNumbered count)
picks_are_numbered ps from to count (m ∷ ms) order agrees within picks =
    let kept = one_pick_keeps_all ps from to m order agrees picks.0 picks.1 in
    let same = places_go_by_issues (after_move ps m) ps kept.issues in
    All-cons (IsNumbered count) m ms
    (within m.0.0 kept.there, rank_of_order (after_move ps m) m.0.0 m.1 kept.order ((gives_one_rank ps m).own))
    (picks_are_numbered (after_move ps m) from to count ms kept.order kept.agrees
    (λ n there. within n (omega (arith, same.before n, same.count, there))) picks.2)

pub moves_are_numbered : (ps : List Pair) (b : Balance) (moves : List Move) → IsRanked ps b → IsMoving b → ArePicks ps (from_of b) (to_of b) moves
    → All (IsNumbered (length ps)) moves
moves_are_numbered ps (Idle bucket) moves ranked moving picks = absurd moving
moves_are_numbered ps (Moving from to) moves ranked moving picks =
    picks_are_numbered ps from to (length ps) moves ranked.order ranked.agrees (λ n there. (ranked.numbered n).0 there) picks

-- ---- a balance

pub balance_may_be_kept : (ps : List Pair) (b : Balance) → Agrees ps b → is_balance b ≡ true
balance_may_be_kept ps (Idle bucket) agrees = lt-ltb bucket 3 agrees.0
balance_may_be_kept ps (Moving from to) agrees = rw (lt-ltb from 3 agrees.0, eq-eqb to (next_bucket from) agrees.1) refl
