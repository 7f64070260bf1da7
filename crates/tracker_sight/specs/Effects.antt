-- An effect changes the tracker: a call that would leave it as it is has none, and no keeper is asked for it.
use Rattle.std.specs.Prelude.{◌≢◌, ℕ, List}
use Rattle.tracker_calls.specs.declared.call.Call.{Call}
use Rattle.tracker_calls.specs.declared.reply.Refusal.TheVariants as refusal
use Rattle.tracker_calls.specs.declared.reply.Reply.TheVariants as reply
use Rattle.tracker_machine.specs.Machine.{Machine}
use Rattle.tracker_machine.specs.Meaning.{HasEffect}
use Rattle.tracker_machine.specs.Step.{meaning, next_of, IsStep}
use Rattle.tracker_machine.specs.Tracker.{IsTracker}

-- where a call has an effect, the tracker after it is another one
abbrev pub EffectsChangeTheTracker : Type 0
EffectsChangeTheTracker =
    (m : Machine) (caller : List ℕ) (c : Call) → IsTracker m
    → HasEffect (meaning m caller c) → next_of m caller c ≢ m

-- so that the keeper failed is told of no call but one that would change the tracker
abbrev pub KeepersFailChangesAlone : Type 0
KeepersFailChangesAlone =
    (m new : Machine) (caller : List ℕ) (c : Call) → IsTracker m
    → IsStep m caller c (reply.Refused refusal.Keeper) new → next_of m caller c ≢ m
