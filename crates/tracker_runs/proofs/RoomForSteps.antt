-- Where no step is stuck, no reply to one says that no rank is left.
use Rattle.std.proofs.Common.{◌≡◌, ℕ, List, Bool, true, false, Option, Some, None, Result, Ok, Err, refl, subst}
use Rattle.std.specs.Prelude.{MatchResult, nat_le, ◌&&◌}
use Rattle.field_values.specs.declared.rules.Permission.TheVariants as permission
use Rattle.field_forms.specs.Names.{place_named}
use Rattle.fields.specs.SetupParts.{may}
use Rattle.rank_strings.specs.Rank.{RankParts}
use Rattle.board.specs.Moved.{Sides}
use Rattle.rank_balancer.specs.declared.balance.Balance.{Balance}
use Rattle.rank_balancer.specs.declared.balance.Balance.TheVariants.{Idle, Moving}
use Rattle.rank_balancer.specs.Balance.{Agrees, IsMoving, from_of, to_of}
use Rattle.rank_balancer.specs.Step.{Move, IsStep, IsStuck}
use Rattle.rank_balancer.specs.Planned.{planned}
use Rattle.rank_balancer.proofs.Planned.{step_is_computed_law}
use Rattle.tracker_calls.specs.declared.call.Call.TheVariants as call
use Rattle.tracker_calls.specs.declared.cause.Cause.{Cause}
use Rattle.tracker_calls.specs.declared.reply.Refusal.TheVariants as refusal
use Rattle.tracker_calls.specs.declared.reply.Reply.TheVariants as reply
use Rattle.tracker_machine.specs.Machine.{Machine}
use Rattle.tracker_machine.specs.Tracker.{HasRanks}
use Rattle.tracker_machine.specs.Meaning.{Meaning, unless, reply_to}
use Rattle.tracker_machine.specs.Checks.{only_if, unless_known}
use Rattle.tracker_machine.specs.Rebalance.{stepped, with_planned}
use Rattle.tracker_machine.specs.Step.{meaning, meaning_for, form_refusal, user_of, reply_of}
use Rattle.tracker_runs.specs.RankLaws.{HasRoom}

-- a check that refuses for something else says nothing of room
check_room : (holds : Bool) (r : Cause) (due : Meaning) → HasRoom (reply.Refused (refusal.Cause r)) → HasRoom (reply_to due) → HasRoom (reply_to (unless (only_if holds r) due))
check_room true r due other room = room
check_room false r due other room = other

known_room : {A : Type 0} (o : Option A) (r : Cause) (due : Meaning) → HasRoom (reply.Refused (refusal.Cause r)) → HasRoom (reply_to due)
    → HasRoom (reply_to (unless (unless_known o r) due))
known_room None r due other room = other
known_room (Some x) r due other room = room

-- no pick of the next step finds no rank
abbrev pub HasRoomFor : ℕ → Machine → Balance → Type 0
HasRoomFor count m b = (low high : Option RankParts) → IsMoving b → ¬ IsStuck m.order (from_of b) (to_of b) count low high

stepped_room : (m : Machine) (b : Balance) (count : ℕ) → m.balance ≡ b → HasRanks m → HasRoomFor count m b → HasRoom (reply_to (stepped m.order b count))
stepped_room m (Idle bucket) count is has room = tt
stepped_room m (Moving from to) count is has room = by (planned m.order from to count) refl
  where
    by : (moves : Result (List Move) Sides) → planned m.order from to count ≡ moves → HasRoom (reply_to (with_planned m.order from moves))
    by (Ok moves) are = tt
    by (Err sides) are =
        absurd
        (room sides.0 sides.1 tt
        (subst (λ (answer : Result (List Move) Sides). MatchResult answer (IsStep m.order from to count) (λ sides. IsStuck m.order from to count sides.0 sides.1)) are
        (step_is_computed_law m.order from to count has.ranked.order (subst (Agrees m.order) is has.ranked.agrees))))

pub step_has_room : (m : Machine) (user : List ℕ) (count : ℕ) → HasRanks m → HasRoomFor count m m.balance → HasRoom (reply_of m user (call.RebalanceStep count))
unfolding reply_of meaning meaning_for form_refusal
step_has_room m user count has room =
    check_room (nat_le 1 count && nat_le count 1_000) _ _ tt
    (known_room (place_named user m.setup.users) _ _ tt
    (check_room (may m.setup (user_of m user) permission.Administer None) _ _ tt
    (stepped_room m m.balance count refl has room)))
