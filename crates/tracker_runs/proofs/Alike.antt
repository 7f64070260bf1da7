-- Two trackers that differ in ranks alone: what a call means in both.
use Rattle.std.proofs.Common.{◌≡◌, List, Option, Some, None, Result, Ok, Err, refl}
use Rattle.board.specs.Order.{Pair}
use Rattle.board.specs.Moved.{Sides}
use Rattle.board.specs.Issues.{issues_in}
use Rattle.rank_strings.specs.Rank.{RankParts}
use Rattle.rank_balancer.specs.declared.balance.Balance.{Balance}
use Rattle.tracker_calls.specs.declared.reply.Answer.{Answer}
use Rattle.tracker_calls.specs.declared.cause.Cause.{Cause}
use Rattle.tracker_calls.specs.declared.reply.Reply.TheVariants as reply
use Rattle.tracker_machine.specs.Machine.{Machine}
use Rattle.tracker_machine.specs.Effect.{Effect, applied}
use Rattle.tracker_machine.specs.Effect.Effect.{NewMoment, NewIssue, NewGroup, NewRank, NewBalance, NewRanks, NewSprint, NewState, NewFilter, NoFilter, NewBoard, NoBoard, NewMembers}
use Rattle.tracker_machine.specs.Meaning.{Meaning, unless, reply_to, next_after}
use Rattle.tracker_machine.specs.Meaning.Meaning.{Refuses, Tells, Finds, Makes}
use Rattle.tracker_machine.specs.Rank.{with_given}
use Rattle.tracker_runs.specs.RankLaws.{without_ranks, HasRoom}
use Rattle.tracker_runs.proofs.Plain.{IsPlain}

-- the tracker with other ranks
abbrev pub reranked : Machine → List Pair → Balance → Machine
reranked m order balance = record m { order = order; balance = balance }

-- what a call means in both has the same reply but for ranks, and leads to two trackers that differ in ranks alone, with the
-- same list of issues
pub record GoesAlike (m : Machine) (order : List Pair) (balance : Balance) (due other : Meaning) : Type 0 where
  pub replies : without_ranks (reply_to due) ≡ without_ranks (reply_to other)
  pub next_order : List Pair
  pub next_balance : Balance
  pub next : next_after other (reranked m order balance) ≡ reranked (next_after due m) next_order next_balance
  pub issues : issues_in (next_after due m).order ≡ issues_in next_order

-- so it is where there is room in both
abbrev pub AreAlike : Machine → List Pair → Balance → Meaning → Meaning → Type 0
AreAlike m order balance due other = HasRoom (reply_to due) → HasRoom (reply_to other) → GoesAlike m order balance due other

module _ (m : Machine) (order : List Pair) (balance : Balance) (same : issues_in m.order ≡ issues_in order) where
  effect_alike : (a : Answer) (effect : Effect) → IsPlain (Makes a effect) → GoesAlike m order balance (Makes a effect) (Makes a effect)
  unfolding applied
  effect_alike a (NewMoment to) plain = record { replies = refl; next_order = order; next_balance = balance; next = refl; issues = same }
  effect_alike a (NewIssue h rank external) plain = absurd plain
  effect_alike a (NewGroup place group) plain = record { replies = refl; next_order = order; next_balance = balance; next = refl; issues = same }
  effect_alike a (NewRank issue rank) plain = absurd plain
  effect_alike a (NewBalance other) plain = absurd plain
  effect_alike a (NewRanks moves) plain = absurd plain
  effect_alike a (NewSprint name) plain = record { replies = refl; next_order = order; next_balance = balance; next = refl; issues = same }
  effect_alike a (NewState sprint state) plain = record { replies = refl; next_order = order; next_balance = balance; next = refl; issues = same }
  effect_alike a (NewFilter f) plain = record { replies = refl; next_order = order; next_balance = balance; next = refl; issues = same }
  effect_alike a (NoFilter filter_no) plain = record { replies = refl; next_order = order; next_balance = balance; next = refl; issues = same }
  effect_alike a (NewBoard b) plain = record { replies = refl; next_order = order; next_balance = balance; next = refl; issues = same }
  effect_alike a (NoBoard board_no) plain = record { replies = refl; next_order = order; next_balance = balance; next = refl; issues = same }
  effect_alike a (NewMembers group members) plain = record { replies = refl; next_order = order; next_balance = balance; next = refl; issues = same }

  -- one meaning, whose effect changes no rank
  pub plain_alike : (due : Meaning) → IsPlain due → GoesAlike m order balance due due
  plain_alike (Refuses r) plain = record { replies = refl; next_order = order; next_balance = balance; next = refl; issues = same }
  plain_alike (Tells a) plain = record { replies = refl; next_order = order; next_balance = balance; next = refl; issues = same }
  plain_alike (Finds a) plain = record { replies = refl; next_order = order; next_balance = balance; next = refl; issues = same }
  plain_alike (Makes a effect) plain = effect_alike a effect plain

  -- two answers that are the same but for ranks
  pub tells_alike : (one other : Answer) → without_ranks (reply.Ok one) ≡ without_ranks (reply.Ok other) → GoesAlike m order balance (Tells one) (Tells other)
  tells_alike one other replies = record { replies = replies; next_order = order; next_balance = balance; next = refl; issues = same }

  pub unless_alike : (r : Option Cause) (due other : Meaning) → AreAlike m order balance due other → AreAlike m order balance (unless r due) (unless r other)
  unless_alike None due other alike = alike
  unless_alike (Some r) due other alike = λ room more. plain_alike (Refuses r) tt

  -- what comes of two ranks that are given
  pub given_alike : (one other : Result RankParts Sides) (due then_due : RankParts → Meaning)
      → ((rank another : RankParts) → one ≡ Ok rank → other ≡ Ok another → AreAlike m order balance (due rank) (then_due another))
      → AreAlike m order balance (with_given one due) (with_given other then_due)
  given_alike (Ok rank) (Ok another) due then_due alike = alike rank another refl refl
  given_alike (Err sides) other due then_due alike = λ room more. absurd room
  given_alike (Ok rank) (Err sides) due then_due alike = λ room more. absurd more
