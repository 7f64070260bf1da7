-- A rebalancing shows in ranks alone.
use Rattle.std.proofs.Common.{◌≡◌, ℕ, ◌∷◌, [], List, Bool, true, false, map, Option, Some, None, Result, Ok, Err, refl, sym, ◌∙◌, ap, ap₂, subst}
use Rattle.std.specs.Prelude.{not, if◌then◌else◌}
use Rattle.board.specs.Order.{Pair}
use Rattle.board.specs.Moved.{Sides}
use Rattle.board.specs.Issues.{issues_in}
use Rattle.rank_balancer.specs.declared.balance.Balance.{Balance}
use Rattle.rank_balancer.specs.declared.balance.Balance.TheVariants.{Idle, Moving}
use Rattle.rank_balancer.specs.Balance.{IsMoving, next_bucket, from_of, to_of}
use Rattle.rank_balancer.specs.Step.{Move, after_moves}
use Rattle.rank_balancer.specs.Planned.{planned}
use Rattle.tracker_ranks.specs.Ranked.{balance_moved}
use Rattle.tracker_ranks.proofs.Keeping.{steps_keep_ranks, plans_are_picks}
use Rattle.tracker_calls.specs.declared.call.Call.{Call}
use Rattle.tracker_calls.specs.declared.call.Call.TheVariants as call
use Rattle.tracker_calls.specs.declared.cause.Cause.{Cause}
use Rattle.call_lines.specs.Asked.{line_of}
use Rattle.tracker_machine.specs.Machine.{Machine}
use Rattle.tracker_machine.specs.Tracker.{HasRanks}
use Rattle.tracker_machine.specs.Effect.{applied}
use Rattle.tracker_machine.specs.Meaning.{Meaning, unless, next_after}
use Rattle.tracker_machine.specs.Rebalance.{started, stepped, with_planned}
use Rattle.tracker_machine.specs.Checks.{caller_refusal}
use Rattle.tracker_machine.specs.Step.{meaning, meaning_for, form_refusal, user_of, reply_of, next_of}
use Rattle.tracker_runs.specs.Run.{asked_reply, asked_next}
use Rattle.tracker_runs.specs.RankLaws.{rebalances, asks_to_rebalance, is_rebalancing, replies_of, other_replies, other_lines, without_ranks, HasRoom, AllHaveRoom, RebalancingShowsInRanksAlone}
use Rattle.tracker_runs.proofs.RunRanks.{asked_keeps}
use Rattle.tracker_runs.proofs.Alike.{reranked}
use Rattle.tracker_runs.proofs.AlikeCalls.{meaning_alike}

-- ---- a line that rebalances leaves all but ranks

record Reranks (m next : Machine) : Type 0 where
  order : List Pair
  balance : Balance
  next_is : next ≡ reranked m order balance
  issues : issues_in order ≡ issues_in m.order

stays : (m : Machine) → Reranks m m
stays m = record { order = m.order; balance = m.balance; next_is = refl; issues = refl }

unless_reranks : (m : Machine) (r : Option Cause) (due : Meaning) → Reranks m (next_after due m) → Reranks m (next_after (unless r due) m)
unless_reranks m None due reranks = reranks
unless_reranks m (Some r) due reranks = stays m

started_reranks : (m : Machine) (b : Balance) → Reranks m (next_after (started b) m)
unfolding applied
started_reranks m (Idle bucket) = record { order = m.order; balance = Moving bucket (next_bucket bucket); next_is = refl; issues = refl }
started_reranks m (Moving from to) = stays m

stepped_reranks : (m : Machine) (b : Balance) (count : ℕ) → m.balance ≡ b → HasRanks m → Reranks m (next_after (stepped m.order b count) m)
unfolding applied
stepped_reranks m (Idle bucket) count is has = stays m
stepped_reranks m (Moving from to) count is has = by (planned m.order from to count) refl
  where
    by : (moves : Result (List Move) Sides) → planned m.order from to count ≡ moves → Reranks m (next_after (with_planned m.order from moves) m)
    by (Err sides) are = stays m
    by (Ok moves) are =
        let moving : IsMoving m.balance = subst IsMoving (sym is) tt in
        let there : planned m.order (from_of m.balance) (to_of m.balance) count ≡ Ok moves =
        subst (λ b. planned m.order (from_of b) (to_of b) count ≡ Ok moves) (sym is) are in
        let kept = steps_keep_ranks m.order m.balance moves has.ranked moving (plans_are_picks m.order m.balance count moves has.ranked moving there) in
        record { order = after_moves m.order moves; balance = balance_moved m.order m.balance moves; next_is = refl; issues = kept.issues }

call_reranks : (m : Machine) (user : ℕ) (c : Call) → HasRanks m → rebalances c ≡ true → Reranks m (next_after (meaning_for m user c) m)
unfolding meaning_for
call_reranks m user (call.Create project issue_type summary given external) has is = absurd (cc)
call_reranks m user (call.Edit issue given) has is = absurd (cc)
call_reranks m user (call.Transition issue transition given) has is = absurd (cc)
call_reranks m user (call.Tick to) has is = absurd (cc)
call_reranks m user (call.Show issue) has is = absurd (cc)
call_reranks m user (call.History issue part) has is = absurd (cc)
call_reranks m user (call.Search jql part) has is = absurd (cc)
call_reranks m user (call.MoveBefore issue other) has is = absurd (cc)
call_reranks m user (call.MoveAfter issue other) has is = absurd (cc)
call_reranks m user (call.Ranks part) has is = absurd (cc)
call_reranks m user call.RebalanceStart has is = unless_reranks m _ (started m.balance) (started_reranks m m.balance)
call_reranks m user (call.RebalanceStep count) has is = unless_reranks m _ (stepped m.order m.balance count) (stepped_reranks m m.balance count refl has)
call_reranks m user call.Balance has is = absurd (cc)
call_reranks m user (call.SaveFilter name jql) has is = absurd (cc)
call_reranks m user (call.DropFilter filter_no) has is = absurd (cc)
call_reranks m user (call.Filter filter_no part) has is = absurd (cc)
call_reranks m user (call.MakeBoard name filter_no) has is = absurd (cc)
call_reranks m user (call.DropBoard board_no) has is = absurd (cc)
call_reranks m user (call.Board board_no part) has is = absurd (cc)
call_reranks m user (call.MakeSprint name) has is = absurd (cc)
call_reranks m user (call.StartSprint sprint) has is = absurd (cc)
call_reranks m user (call.CloseSprint sprint) has is = absurd (cc)
call_reranks m user (call.SetGroup group members) has is = absurd (cc)
call_reranks m user (call.Burndown sprint part) has is = absurd (cc)
call_reranks m user (call.List jql fields part) has is = absurd (cc)
call_reranks m user (call.Filters part) has is = absurd (cc)
call_reranks m user (call.Boards part) has is = absurd (cc)
call_reranks m user (call.Sprints part) has is = absurd (cc)
call_reranks m user call.Describe has is = absurd (cc)

asked_reranks : (m : Machine) (asked : Result (List ℕ × Call) Cause) → HasRanks m → asks_to_rebalance asked ≡ true → Reranks m (asked_next m asked)
unfolding next_of meaning
asked_reranks m (Ok asked) has is =
    unless_reranks m (form_refusal asked.1) (unless (caller_refusal m asked.0) (meaning_for m (user_of m asked.0) asked.1))
    (unless_reranks m (caller_refusal m asked.0) (meaning_for m (user_of m asked.0) asked.1) (call_reranks m (user_of m asked.0) asked.1 has is))
asked_reranks m (Err r) has is = stays m

-- ---- any other line has the same reply but for ranks, and leads to two trackers that differ in ranks alone

record LineAlike (m : Machine) (order : List Pair) (balance : Balance) (asked : Result (List ℕ × Call) Cause) : Type 0 where
  replies : without_ranks (asked_reply m asked) ≡ without_ranks (asked_reply (reranked m order balance) asked)
  next_order : List Pair
  next_balance : Balance
  next : asked_next (reranked m order balance) asked ≡ reranked (asked_next m asked) next_order next_balance
  issues : issues_in (asked_next m asked).order ≡ issues_in next_order

asked_alike : (m : Machine) (order : List Pair) (balance : Balance) (asked : Result (List ℕ × Call) Cause) → HasRanks m → HasRanks (reranked m order balance)
    → issues_in m.order ≡ issues_in order → asks_to_rebalance asked ≡ false → HasRoom (asked_reply m asked) → HasRoom (asked_reply (reranked m order balance) asked)
    → LineAlike m order balance asked
unfolding reply_of next_of
asked_alike m order balance (Ok asked) has has_too same other room more =
    let alike = meaning_alike m order balance has has_too same asked.0 asked.1 other room more in
    record { replies = alike.replies; next_order = alike.next_order; next_balance = alike.next_balance; next = alike.next; issues = alike.issues }
asked_alike m order balance (Err r) has has_too same other room more =
    record { replies = refl; next_order = order; next_balance = balance; next = refl; issues = same }

-- ---- all lines

abbrev ShowsInRanks : List (List ℕ) → Type 0
ShowsInRanks lines = (m : Machine) (order : List Pair) (balance : Balance) → HasRanks m → HasRanks (reranked m order balance)
    → issues_in m.order ≡ issues_in order → AllHaveRoom (replies_of m lines) → AllHaveRoom (replies_of (reranked m order balance) (other_lines lines))
    → map without_ranks (other_replies m lines) ≡ map without_ranks (replies_of (reranked m order balance) (other_lines lines))

shows_in_ranks : (lines : List (List ℕ)) (m : Machine) (order : List Pair) (balance : Balance) → HasRanks m → HasRanks (reranked m order balance)
    → issues_in m.order ≡ issues_in order → AllHaveRoom (replies_of m lines) → AllHaveRoom (replies_of (reranked m order balance) (other_lines lines))
    → map without_ranks (other_replies m lines) ≡ map without_ranks (replies_of (reranked m order balance) (other_lines lines))
shows_in_ranks [] m order balance has has_too same room more = refl
shows_in_ranks (line ∷ lines) m order balance has has_too same room more = by (shows_in_ranks lines) (is_rebalancing line) refl more
  where
    new : Machine
    new = reranked m order balance

    next : Machine
    next = asked_next m (line_of line)

    has_next : HasRanks next
    has_next = asked_keeps m (line_of line) has

    -- the machine with other ranks isn't asked
    after_rebalancing : ShowsInRanks lines → Reranks m next → AllHaveRoom (replies_of new (other_lines lines))
        → map without_ranks (other_replies next lines) ≡ map without_ranks (replies_of new (other_lines lines))
    after_rebalancing shows reranks rest =
        let back : new ≡ reranked next order balance = sym (ap (λ n. reranked n order balance) reranks.next_is) in
        let issues : issues_in next.order ≡ issues_in order = ap (λ (n : Machine). issues_in n.order) reranks.next_is ∙ reranks.issues ∙ same in
        subst (λ n. map without_ranks (other_replies next lines) ≡ map without_ranks (replies_of n (other_lines lines))) (sym back)
        (shows next order balance has_next (subst HasRanks back has_too) issues room.1 (subst (λ n. AllHaveRoom (replies_of n (other_lines lines))) back rest))

    after_another : ShowsInRanks lines → LineAlike m order balance (line_of line) → AllHaveRoom (replies_of (asked_next new (line_of line)) (other_lines lines))
        → map without_ranks (other_replies next lines) ≡ map without_ranks (replies_of (asked_next new (line_of line)) (other_lines lines))
    after_another shows alike rest =
        let has_new : HasRanks (reranked next alike.next_order alike.next_balance) = subst HasRanks alike.next (asked_keeps new (line_of line) has_too) in
        subst (λ n. map without_ranks (other_replies next lines) ≡ map without_ranks (replies_of n (other_lines lines))) (sym alike.next)
        (shows next alike.next_order alike.next_balance has_next has_new alike.issues room.1
        (subst (λ n. AllHaveRoom (replies_of n (other_lines lines))) alike.next rest))

    by : ShowsInRanks lines → (b : Bool) → is_rebalancing line ≡ b → AllHaveRoom (replies_of new (if not b then line ∷ other_lines lines else other_lines lines))
        → map without_ranks (if b then other_replies next lines else asked_reply m (line_of line) ∷ other_replies next lines)
        ≡ map without_ranks (replies_of new (if not b then line ∷ other_lines lines else other_lines lines))
    by shows true is rest = after_rebalancing shows (asked_reranks m (line_of line) has is) rest
    by shows false is rest =
        let alike = asked_alike m order balance (line_of line) has has_too same is room.0 rest.0 in
        ap₂ (λ r rs. r ∷ rs) alike.replies (after_another shows alike rest.1)

pub rebalancing_shows_in_ranks_alone : RebalancingShowsInRanksAlone
rebalancing_shows_in_ranks_alone m lines has room more = shows_in_ranks lines m m.order m.balance has has refl room more
