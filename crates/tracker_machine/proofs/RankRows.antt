-- The parts of ranks, as an issue comes, as one moves and as a step makes its moves.
use Rattle.std.proofs.Common.{◌≡◌, ℕ, ◌==◌, List, [], ◌∷◌, Option, Some, option_map, refl, sym, ap, ◌∙◌, inl, inr, ◌⊎◌, ne_eqb, eq-eqb}
use Rattle.std.specs.Prelude.{if◌then◌else◌}
use Rattle.std.proofs.lemmas.Bool.{cases_eq}
use mathlib.Core.Path.{fun_ext}
use Rattle.field_values.specs.declared.numbers.IssueNo.{IssueNo}
use Rattle.rank_strings.specs.Rank.{RankParts}
use Rattle.board.specs.Order.{Pair, rank_in}
use Rattle.rank_balancer.specs.declared.balance.Balance.{Balance}
use Rattle.rank_balancer.specs.Step.{Move, after_move, after_moves}
use Rattle.tracker_ranks.specs.Ranked.{IsRanked, IsNext, with_last, balance_moved}
use Rattle.tracker_ranks.proofs.Given.{gives_one_rank}
use Rattle.tracker_ranks.proofs.Keeping.{new_issues_go_last}
use Rattle.tracker_keeper.specs.declared.part.Part.{Part}
use Rattle.tracker_machine.specs.Machine.{Machine}
use Rattle.tracker_machine.specs.Effect.{with_new_rank, with_balance, with_moves}
use Rattle.tracker_machine.specs.Kept.{setup_part, present_part, rank_part, rank_numbered, rank_parts, part_at}
use Rattle.tracker_machine.proofs.Puts.{with_part, with_parts, part_set, lone_kind, issue_kind, group_kind, planned_kinds, other_kinds, present_set}

-- an issue that is given a rank has its part, and all others have theirs
pub rank_moved : (ps : List Pair) (issue : IssueNo) (rank : RankParts) (n : ℕ)
    → rank_numbered (after_move ps (issue, rank)) n ≡ (if issue.0 == n then Some (rank_part issue rank) else rank_numbered ps n)
rank_moved ps issue rank n = by (cases_eq issue.0 n)
  where
    kept : IssueNo → Option RankParts → Option Part
    kept i o = option_map (rank_part i) o

    by : (issue.0 ≡ n) ⊎ (issue.0 ≡ n → ⊥) → rank_numbered (after_move ps (issue, rank)) n ≡ (if issue.0 == n then Some (rank_part issue rank) else rank_numbered ps n)
    by (inl same) =
        rw (eq-eqb issue.0 n same)
        (ap (λ k. kept (record { 0 = k }) (rank_in (after_move ps (issue, rank)) k)) (sym same) ∙ ap (kept issue) (gives_one_rank ps (issue, rank)).own)
    by (inr differ) = rw (ne_eqb issue.0 n differ) (ap (kept (record { 0 = n })) ((gives_one_rank ps (issue, rank)).others n differ))

-- so has a new issue
pub rank_added : (ps : List Pair) (b : Balance) (issue : IssueNo) (rank : RankParts) (n : ℕ) → IsRanked ps b → IsNext ps b issue rank
    → rank_numbered (with_last ps issue rank) n ≡ (if issue.0 == n then Some (rank_part issue rank) else rank_numbered ps n)
rank_added ps b issue rank n ranked next =
    ap (λ qs. rank_numbered qs n) (sym (new_issues_go_last ps b issue rank ranked next).there) ∙ rank_moved ps issue rank n

-- ---- all parts

-- one rank is put
pub rank_applied : (m : Machine) (issue : IssueNo) (rank : RankParts) (k n : ℕ) → part_at (with_new_rank m issue rank) k n ≡ with_part (rank_part issue rank) (part_at m) k n
unfolding part_at
rank_applied m issue rank k n =
    part_set (lone_kind 1 (setup_part m) ∷ lone_kind 2 (present_part m) ∷ issue_kind m.histories ∷ group_kind m.histories ∷ []) (planned_kinds m) 5 issue.0
    (rank_numbered m.order) (rank_numbered (after_move m.order (issue, rank))) (Some (rank_part issue rank)) k n refl (rank_moved m.order issue rank n)

-- one after the other
ranks_applied : (moves : List Move) (m : Machine) → part_at (record m { order = after_moves m.order moves }) ≡ with_parts (rank_parts moves) (part_at m)
ranks_applied [] m = refl
ranks_applied (move ∷ moves) m =
    ranks_applied moves (with_new_rank m move.0 move.1)
    ∙ ap (with_parts (rank_parts moves)) (fun_ext (λ k. fun_ext (λ n. rank_applied m move.0 move.1 k n)))

-- another balance is put with all that present says
pub balance_applied : (m : Machine) (balance : Balance) (k n : ℕ) → part_at (with_balance m balance) k n ≡ with_part (present_part (with_balance m balance)) (part_at m) k n
unfolding part_at
balance_applied m balance k n = present_set (setup_part m) (present_part m) (present_part (with_balance m balance)) (other_kinds m) k n

pub moves_applied : (m : Machine) (moves : List Move) → part_at (with_moves m moves) ≡ with_parts (present_part (with_moves m moves) ∷ rank_parts moves) (part_at m)
moves_applied m moves =
    let balance : Balance = balance_moved m.order m.balance moves in
    ranks_applied moves (with_balance m balance)
    ∙ ap (with_parts (rank_parts moves)) (fun_ext (λ k. fun_ext (λ n. balance_applied m balance k n)))
