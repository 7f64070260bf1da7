-- After an accepted start, accepted steps of one count end a rebalancing, whatever lines that leave the ranks come among them.
use Rattle.std.proofs.Common.{◌≡◌, ℕ, suc, List, [], ◌∷◌, inl, inr, Option, Some, None, Result, Ok, Err, refl, sym, ◌∙◌, ap, subst, arith}
use Rattle.std.specs.Prelude.{MatchResult}
use Rattle.board.specs.Order.{Pair}
use Rattle.board.specs.Moved.{Sides}
use Rattle.rank_balancer.specs.declared.balance.Balance.{Balance}
use Rattle.rank_balancer.specs.declared.balance.Balance.TheVariants.{Idle, Moving}
use Rattle.rank_balancer.specs.Balance.{Agrees, IsMoving, next_bucket, from_of, to_of}
use Rattle.rank_balancer.specs.Step.{Move, IsStep, IsStuck}
use Rattle.rank_balancer.specs.Planned.{planned}
use Rattle.rank_balancer.specs.Laws.{StepsLead, IsOnTheWay}
use Rattle.rank_balancer.proofs.Planned.{step_is_computed_law}
use Rattle.rank_balancer.proofs.Ends.{steps_end}
use Rattle.tracker_calls.specs.declared.call.Call.{Call}
use Rattle.tracker_calls.specs.declared.call.Call.TheVariants as call
use Rattle.tracker_calls.specs.declared.cause.Cause.{Cause}
use Rattle.call_lines.specs.Asked.{line_of}
use Rattle.tracker_machine.specs.Machine.{Machine}
use Rattle.tracker_machine.specs.Tracker.{HasRanks}
use Rattle.tracker_machine.specs.Effect.{applied, with_balance, with_moves}
use Rattle.tracker_machine.specs.Meaning.{Meaning, unless, reply_to, next_after}
use Rattle.tracker_machine.specs.Rebalance.{started, stepped, with_planned}
use Rattle.tracker_machine.specs.Checks.{caller_refusal}
use Rattle.tracker_machine.specs.Step.{meaning, meaning_for, form_refusal, user_of, reply_of, next_of}
use Rattle.tracker_runs.specs.Run.{asked_next}
use Rattle.tracker_runs.specs.RankLaws.{IsAccepted, IsAcceptedCall, LeavesRanks, StepsAmong, end_of_lines, RebalancingsEnd}
use Rattle.tracker_runs.proofs.RunRanks.{asked_keeps}
use Rattle.tracker_runs.proofs.RoomForSteps.{step_has_room}

-- ---- what an accepted call means

-- where what it means is accepted, so is what stands behind a check, and the state after it is the same
record GoesThrough (m : Machine) (due whole : Meaning) : Type 0 where
  accepted : IsAccepted (reply_to due)
  next_is : next_after whole m ≡ next_after due m

passes_check : (m : Machine) (r : Option Cause) (due : Meaning) → IsAccepted (reply_to (unless r due)) → GoesThrough m due (unless r due)
passes_check m None due accepted = record { accepted = accepted; next_is = refl }
passes_check m (Some r) due accepted = absurd accepted

passes_all : (m : Machine) (user : List ℕ) (c : Call) → IsAccepted (reply_of m user c)
    → GoesThrough m (meaning_for m (user_of m user) c) (meaning m user c)
unfolding reply_of meaning
passes_all m user c accepted =
    let due : Meaning = meaning_for m (user_of m user) c in
    let form = passes_check m (form_refusal c) (unless (caller_refusal m user) due) accepted in
    let caller = passes_check m (caller_refusal m user) due form.accepted in
    record { accepted = caller.accepted; next_is = form.next_is ∙ caller.next_is }

-- ---- a start

started_moves : (m : Machine) (b : Balance) → IsAccepted (reply_to (started b)) → (bucket : ℕ) → b ≡ Idle bucket
    → next_after (started b) m ≡ with_balance m (Moving bucket (next_bucket bucket))
unfolding applied
started_moves m b accepted bucket is = subst (λ b. next_after (started b) m ≡ with_balance m (Moving bucket (next_bucket bucket))) (sym is) refl

-- ---- a step

-- a step of that count is made
record MakesStep (count : ℕ) (m next : Machine) : Type 0 where
  moving : IsMoving m.balance
  moves : List Move
  step : IsStep m.order (from_of m.balance) (to_of m.balance) count moves
  next_is : next ≡ with_moves m moves

stepped_makes : (m : Machine) (b : Balance) (count : ℕ) → m.balance ≡ b → HasRanks m → IsAccepted (reply_to (stepped m.order b count))
    → MakesStep count m (next_after (stepped m.order b count) m)
unfolding applied
stepped_makes m (Idle bucket) count is has accepted = absurd accepted
stepped_makes m (Moving from to) count is has accepted = by (planned m.order from to count) refl accepted
  where
    by : (moves : Result (List Move) Sides) → planned m.order from to count ≡ moves → IsAccepted (reply_to (with_planned m.order from moves))
        → MakesStep count m (next_after (with_planned m.order from moves) m)
    by (Err sides) are accepted = absurd accepted
    by (Ok moves) are accepted = record {
      moving = subst IsMoving (sym is) tt;
      moves = moves;
      step = subst (λ b. IsStep m.order (from_of b) (to_of b) count moves) (sym is)
          (subst (λ (answer : Result (List Move) Sides). MatchResult answer (IsStep m.order from to count) (λ sides. IsStuck m.order from to count sides.0 sides.1)) are
          (step_is_computed_law m.order from to count has.ranked.order (subst (Agrees m.order) is has.ranked.agrees)));
      next_is = refl;
    }

-- ---- accepted lines

start_moves : (m : Machine) (line : List ℕ) (bucket : ℕ) → m.balance ≡ Idle bucket → IsAcceptedCall call.RebalanceStart m line
    → asked_next m (line_of line) ≡ with_balance m (Moving bucket (next_bucket bucket))
unfolding next_of meaning_for
start_moves m line bucket is start =
    let all = passes_all m start.user call.RebalanceStart start.accepted in
    let one = passes_check m _ (started m.balance) all.accepted in
    ap (asked_next m) start.asks ∙ all.next_is ∙ one.next_is ∙ started_moves m m.balance one.accepted bucket is

step_makes : (m : Machine) (line : List ℕ) (count : ℕ) → HasRanks m → IsAcceptedCall (call.RebalanceStep count) m line
    → MakesStep count m (asked_next m (line_of line))
unfolding next_of meaning_for
step_makes m line count has step =
    let all = passes_all m step.user (call.RebalanceStep count) step.accepted in
    let one = passes_check m _ (stepped m.order m.balance count) all.accepted in
    subst (MakesStep count m) (sym (ap (asked_next m) step.asks ∙ all.next_is ∙ one.next_is))
    (stepped_makes m m.balance count refl has one.accepted)

-- ---- all lines

-- a line that leaves the ranks comes before steps
left_before : (m next : Machine) (count steps : ℕ) (qs : List Pair) (e : Balance) → LeavesRanks m next
    → StepsLead count steps next.order next.balance qs e → StepsLead count steps m.order m.balance qs e
left_before m next count steps qs e leaves lead =
    subst (λ b. StepsLead count steps m.order b qs e) leaves.balance
    (subst (λ ps. StepsLead count steps ps next.balance qs e) leaves.order lead)

-- so does a step
made_before : (m next : Machine) (count fewer steps : ℕ) (qs : List Pair) (e : Balance) → steps ≡ suc fewer → MakesStep count m next
    → StepsLead count fewer next.order next.balance qs e → StepsLead count steps m.order m.balance qs e
made_before m next count fewer steps qs e is makes lead =
    subst (λ steps. StepsLead count steps m.order m.balance qs e) (sym is)
    (makes.moving, (makes.moves, makes.step, subst (λ (n : Machine). StepsLead count fewer n.order n.balance qs e) makes.next_is lead))

lines_lead : (lines : List (List ℕ)) (count steps : ℕ) (m : Machine) → HasRanks m → StepsAmong count steps m lines
    → StepsLead count steps m.order m.balance (end_of_lines m lines).order (end_of_lines m lines).balance
lines_lead [] count steps m has among =
    subst (λ steps. StepsLead count steps m.order m.balance m.order m.balance) (sym among) (refl, refl)
lines_lead (line ∷ lines) count steps m has (inl (leaves, rest)) =
    left_before m (asked_next m (line_of line)) count steps _ _ leaves
    (lines_lead lines count steps (asked_next m (line_of line)) (asked_keeps m (line_of line) has) rest)
lines_lead (line ∷ lines) count steps m has (inr (step, (fewer, is, rest))) =
    made_before m (asked_next m (line_of line)) count fewer steps _ _ is (step_makes m line count has step)
    (lines_lead lines count fewer (asked_next m (line_of line)) (asked_keeps m (line_of line) has) rest)

lines_keep : (lines : List (List ℕ)) (m : Machine) → HasRanks m → HasRanks (end_of_lines m lines)
lines_keep [] m has = has
lines_keep (line ∷ lines) m has = lines_keep lines (asked_next m (line_of line)) (asked_keeps m (line_of line) has)

pub rebalancings_end : RebalancingsEnd
rebalancings_end m start lines count steps bucket has few is at_least starts among =
    let next : Machine = asked_next m (line_of start) in
    let has_next : HasRanks next = asked_keeps m (line_of start) has in
    let last : Machine = end_of_lines next lines in
    let lead = lines_lead lines count steps next has_next among in
    let way =
    steps_end m.order bucket count steps last.order last.balance has.ranked.order (subst (Agrees m.order) is has.ranked.agrees)
    (omega (arith, has.each, few)) at_least
    (subst (λ (n : Machine). StepsLead count steps n.order n.balance last.order last.balance) (start_moves m start bucket is starts) lead) in
    record {
      ranks = subst (λ n. IsOnTheWay count steps n bucket last.order last.balance) has.each way;
      room = λ user other. step_has_room last user other (lines_keep lines next has_next) (way.has_room other);
    }
