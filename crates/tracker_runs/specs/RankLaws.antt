-- What is proved of ranks: in every state of a run each issue has one, a move changes one issue's place alone, and a
-- rebalancing shows in ranks alone and ends after so many steps.
use Rattle.std.specs.Prelude.{ℕ, suc, Bool, true, false, not, ◌≡◌, ◌≢◌, ◌≤◌, ◌⊎◌, List, [], ◌∷◌, map, filter, length, Some, Result, Ok, Err, if◌then◌else◌}
use Rattle.field_values.specs.declared.numbers.IssueNo.{IssueNo}
use Rattle.field_values.specs.Parts.{Parts}
use Rattle.tracker_limits.specs.Limits.{most_issues}
use Rattle.change_history.specs.History.{History}
use Rattle.rank_strings.specs.Rank.{RankParts}
use Rattle.board.specs.declared.place.Place.{Place}
use Rattle.board.specs.Order.{rank_in}
use Rattle.board.specs.Issues.{issues_in, issues_moved}
use Rattle.rank_balancer.specs.declared.balance.Balance.TheVariants as balance
use Rattle.rank_balancer.specs.Laws.{IsOnTheWay}
use Rattle.tracker_ranks.specs.Ranked.{AreNumbered}
use Rattle.tracker_calls.specs.declared.call.Call.{Call}
use Rattle.tracker_calls.specs.declared.call.Call.TheVariants as call
use Rattle.tracker_calls.specs.declared.reply.Reply.{Reply}
use Rattle.tracker_calls.specs.declared.reply.Reply.TheVariants as reply
use Rattle.tracker_calls.specs.declared.reply.Answer.TheVariants as answer
use Rattle.tracker_calls.specs.declared.reply.BalanceState.TheVariants.{Idle}
use Rattle.tracker_calls.specs.declared.cause.Cause.{Cause}
use Rattle.tracker_calls.specs.declared.cause.Cause.TheVariants as cause
use Rattle.tracker_calls.specs.declared.reply.Refusal.TheVariants as refusal
use Rattle.call_lines.specs.Asked.{line_of}
use Rattle.tracker_machine.specs.Machine.{Machine, opening}
use Rattle.tracker_machine.specs.Tracker.{HasRanks, IsTracker}
use Rattle.tracker_machine.specs.Rank.{moved_rank}
use Rattle.tracker_machine.specs.Move.{newly_ranked}
use Rattle.tracker_machine.specs.Meaning.{next_after}
use Rattle.tracker_machine.specs.Step.{reply_of}
use Rattle.tracker_runs.specs.Run.{Marked, asked_reply, asked_next, end_of_run}

-- ---- every state

abbrev pub TrackersHaveRanks : Type 0
TrackersHaveRanks = (m : Machine) → IsTracker m → HasRanks m

abbrev pub NewTrackersHaveRanks : Type 0
NewTrackersHaveRanks = (text : List ℕ) (setup : Parts) → HasRanks (opening text setup)

-- after any lines, whatever their marks, each issue has one rank, which no other one has
abbrev pub RunsKeepRanks : Type 0
RunsKeepRanks = (m : Machine) (lines : List Marked) → HasRanks m → HasRanks (end_of_run m lines)

-- ---- a move

-- the issue is taken out of the list of issues and put in again at the place; no other issue has another rank, and nothing
-- else changes
pub record MovesOneIssue (m new : Machine) (issue : IssueNo) (place : Place) : Type 0 where
  pub issues : issues_in new.order ≡ issues_moved issue place (issues_in m.order)
  pub others : (other : ℕ) → issue.0 ≢ other → rank_in new.order other ≡ rank_in m.order other
  pub rest : new ≡ record m { order = new.order }

-- so it is where a rank is given for the place
abbrev pub MovesAreOfOneIssue : Type 0
MovesAreOfOneIssue =
    (m : Machine) (name : List ℕ) (h : History) (place : Place) (rank : RankParts) → HasRanks m →
    AreNumbered (length m.order) (Some h.no) place → moved_rank m h.no place ≡ Ok rank →
    MovesOneIssue m (next_after (newly_ranked m name h.no rank) m) h.no place

-- ---- a rebalancing

-- the line asks for a rebalancing to begin, or for a step of one
abbrev pub rebalances : Call → Bool
rebalances call.RebalanceStart = true
rebalances (call.RebalanceStep count) = true
rebalances _ = false

abbrev pub asks_to_rebalance : Result (List ℕ × Call) Cause → Bool
asks_to_rebalance (Ok asked) = rebalances asked.1
asks_to_rebalance (Err r) = false

abbrev pub is_rebalancing : List ℕ → Bool
is_rebalancing line = asks_to_rebalance (line_of line)

-- the replies to lines, none of which is marked
abbrev pub replies_of : Machine → List (List ℕ) → List Reply
replies_of m [] = []
replies_of m (line ∷ lines) =
    asked_reply m (line_of line) ∷ replies_of (asked_next m (line_of line)) lines

-- the replies to those of the lines that don't rebalance
abbrev pub other_replies : Machine → List (List ℕ) → List Reply
other_replies m [] = []
other_replies m (line ∷ lines) =
    if is_rebalancing line then other_replies (asked_next m (line_of line)) lines
    else asked_reply m (line_of line) ∷ other_replies (asked_next m (line_of line)) lines

-- the lines that don't rebalance
abbrev pub other_lines : List (List ℕ) → List (List ℕ)
other_lines lines = filter (λ line. not (is_rebalancing line)) lines

-- what a reply tells beside ranks: of a move all but the rank, and nothing of the answers of `ranks` and `balance`
abbrev pub without_ranks : Reply → Reply
without_ranks (reply.Ok (answer.Move issue rank)) = reply.Ok (answer.Move issue [])
without_ranks (reply.Ok (answer.Ranks ranks total)) = reply.Ok (answer.Ranks [] 0)
without_ranks (reply.Ok (answer.Balance state longest offer)) =
    reply.Ok (answer.Balance (Idle 0) 0 false)
without_ranks r = r

-- no call finds that no rank is left for a place
abbrev pub HasRoom : Reply → Type 0
HasRoom (reply.Refused (refusal.Cause (cause.NoRoom low high))) = ⊥
HasRoom r = Unit {0}

abbrev pub AllHaveRoom : List Reply → Type 0
AllHaveRoom [] = Unit {0}
AllHaveRoom (r ∷ rs) = HasRoom r × AllHaveRoom rs

-- where there is room for each rank, with the lines that rebalance and without them, all other lines have the same replies but
-- for ranks
abbrev pub RebalancingShowsInRanksAlone : Type 0
RebalancingShowsInRanksAlone =
    (m : Machine) (lines : List (List ℕ)) → HasRanks m → AllHaveRoom (replies_of m lines) →
    AllHaveRoom (replies_of m (other_lines lines)) →
    map without_ranks (other_replies m lines) ≡ map without_ranks (replies_of m (other_lines lines))

-- ---- the end of a rebalancing

-- the call of the line is answered, not refused
abbrev pub IsAccepted : Reply → Type 0
IsAccepted (reply.Ok a) = Unit {0}
IsAccepted (reply.Refused r) = ⊥

-- the line asks for this call, whoever asks, and it is accepted
pub record IsAcceptedCall (c : Call) (m : Machine) (line : List ℕ) : Type 0 where
  pub user : List ℕ
  pub asks : line_of line ≡ Ok (user, c)
  pub accepted : IsAccepted (reply_of m user c)

-- a create, a move, and what rebalances: no other call may change the order of ranks or their balance
abbrev pub changes_ranks : Call → Bool
changes_ranks (call.Create project issue_type summary set external) = true
changes_ranks (call.MoveBefore issue other) = true
changes_ranks (call.MoveAfter issue other) = true
changes_ranks c = rebalances c

abbrev pub asks_to_change_ranks : Result (List ℕ × Call) Cause → Bool
asks_to_change_ranks (Ok asked) = changes_ranks asked.1
asks_to_change_ranks (Err r) = false

-- the order of ranks and their balance are as before
pub record LeavesRanks (m next : Machine) : Type 0 where
  pub order : next.order ≡ m.order
  pub balance : next.balance ≡ m.balance

-- a line that isn't accepted as a create, a move, a start or a step leaves the ranks
abbrev pub OthersLeaveRanks : Type 0
OthersLeaveRanks =
    (m : Machine) (line : List ℕ) →
    (IsAccepted (asked_reply m (line_of line)) → asks_to_change_ranks (line_of line) ≡ false) →
    LeavesRanks m (asked_next m (line_of line))

-- so many of the lines, none of which is marked, are accepted steps of one count, and each other one leaves the ranks
abbrev pub StepsAmong : ℕ → ℕ → Machine → List (List ℕ) → Type 0
StepsAmong count steps m [] = steps ≡ 0
StepsAmong count steps m (line ∷ lines) =
    (LeavesRanks m (asked_next m (line_of line))
    × StepsAmong count steps (asked_next m (line_of line)) lines)
    ⊎ (IsAcceptedCall (call.RebalanceStep count) m line
    × ((fewer : ℕ) × (steps ≡ suc fewer)
    × StepsAmong count fewer (asked_next m (line_of line)) lines))

-- the state after lines, none of which is marked
abbrev pub end_of_lines : Machine → List (List ℕ) → Machine
end_of_lines m [] = m
end_of_lines m (line ∷ lines) = end_of_lines (asked_next m (line_of line)) lines

-- where so many steps of a count have led a tracker of so many issues since a start in a bucket
pub record HasComeSoFar (count steps issues bucket : ℕ) (m : Machine) : Type 0 where
  -- before the last step the balance moves on, and with it it is idle in the next bucket, and every rank has nine bytes
  pub ranks : IsOnTheWay count steps issues bucket m.order m.balance
  -- whoever asks for one step more, of whatever count, no reply says that no rank is left
  pub room : (user : List ℕ) (other : ℕ) → HasRoom (reply_of m user (call.RebalanceStep other))

-- from an idle balance with as many issues as a tracker may hold, after an accepted start and so many accepted steps of one count, among lines
-- that leave the ranks, it is known how far the rebalancing has come
abbrev pub RebalancingsEnd : Type 0
RebalancingsEnd =
    (m : Machine) (start : List ℕ) (lines : List (List ℕ)) (count steps bucket : ℕ) → HasRanks m →
    length m.histories ≤ most_issues → m.balance ≡ balance.Idle bucket → 1 ≤ count →
    IsAcceptedCall call.RebalanceStart m start
    → StepsAmong count steps (asked_next m (line_of start)) lines →
    HasComeSoFar count steps (length m.histories) bucket (end_of_lines m (start ∷ lines))
