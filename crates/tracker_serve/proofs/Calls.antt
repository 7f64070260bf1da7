-- What the calls of a round leave: the rows that are kept, and the keeper's count of faults.
use Rattle.std.proofs.Common.{ℕ, List, [], ◌∷◌, Option, ap, arith}
use Rattle.tracker_calls.specs.declared.call.Call.{Call}
use Rattle.tracker_calls.specs.declared.reply.Refusal.TheVariants as refusal
use Rattle.tracker_calls.specs.declared.reply.Reply.{Reply}
use Rattle.tracker_calls.specs.declared.reply.Reply.TheVariants as reply
use Rattle.tracker_core.specs.Desk.{DeskParts, IsOwed}
use Rattle.tracker_core.specs.Left.{IsWithCall}
use Rattle.tracker_core.proofs.Left.{leaves_more}
use Rattle.tracker_keeper.specs.Rows.{Rows}
use Rattle.tracker_server.specs.Events.{Lead}
use Rattle.tracker_server.specs.Served.{makes_event}
use Rattle.tracker_server.specs.declared.event.Event.{Event}
use Rattle.tracker_cli.specs.Answering.{RoseBy}
use Rattle.tracker_cli.specs.Serving.{MakesCall, IsWithSomeCall, failures_told, failures_among}
use Rattle.tracker_cli.proofs.Counted.{rose_again, rose_none}
use Rattle.tracker_cli.proofs.Outcomes.{Stays, stays_same, stays_on}
use Rattle.tracker_rounds.specs.Serving.{MakesDue}
use Rattle.tracker_rounds.specs.declared.ask.UserCall.{UserCall}

-- that worker 0 made what was due is left out
pub made_led : {State : Type 0} (makes : State → List ℕ → Call → Reply → State → Type 0) (due : State → Option UserCall) (old : State) (events : List Event) (new : State)
    → Lead (MakesDue makes due) old events new → Lead (makes_event makes) old events new
made_led makes due old [] new same = same
made_led makes due old (e ∷ events) new (next, one, rest) = (next, one.makes_it, made_led makes due next events new rest)

-- the count rises with each refusal that tells of a fault
told_counted : (r : Reply) (a b : ℕ) → IsOwed r a b → RoseBy a b (failures_told r)
told_counted (reply.Ok x) a b owed = omega arith
told_counted (reply.Refused refusal.Keeper) a b owed = owed
told_counted (reply.Refused refusal.Memory) a b owed = omega arith
told_counted (reply.Refused (refusal.Cause c)) a b owed = omega arith

module _ {P : Type 0} (keeps : P → Rows → Type 0) (tells : P → Type 0) (faults : P → ℕ) (leaves : P → Rows → Rows → Type 0) where
  stays_event : (old new : DeskParts P) (e : Event) → makes_event (MakesCall keeps tells faults leaves) old e new → Stays keeps tells leaves IsWithSomeCall old new
  stays_event old new e makes = record {
    rows = makes.rows;
    told = makes.told;
    left = λ kept.
        leaves_more leaves (IsWithCall _ _) IsWithSomeCall (λ m later is. (_, _, is)) old.keeper old.machine new.keeper new.machine (makes.left kept);
  }

  -- the rows of the tracker stay kept from call to call
  pub stays_led : (old : DeskParts P) (events : List Event) (new : DeskParts P) → Lead (makes_event (MakesCall keeps tells faults leaves)) old events new
      → Stays keeps tells leaves IsWithSomeCall old new
  stays_led old [] new same = stays_same keeps tells leaves IsWithSomeCall old new same
  stays_led old (e ∷ events) new (next, makes, rest) =
      stays_on keeps tells leaves IsWithSomeCall old next new (stays_event old next e makes) (stays_led next events new rest)

  -- and the count is that of the faults that were told
  pub counted_led : (old : DeskParts P) (events : List Event) (new : DeskParts P) → Lead (makes_event (MakesCall keeps tells faults leaves)) old events new
      → RoseBy (faults old.keeper) (faults new.keeper) (failures_among events)
  counted_led old [] new same = rose_none _ _ (ap (λ (d : DeskParts _). faults d.keeper) same)
  counted_led old (e ∷ events) new (next, makes, rest) =
      rose_again (faults old.keeper) (faults next.keeper) (faults new.keeper) (failures_told e.reply) (failures_among events)
      (told_counted e.reply _ _ makes.owed) (counted_led next events new rest)
