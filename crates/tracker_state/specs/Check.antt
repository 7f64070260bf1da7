-- What a check tells.
use Rattle.std.specs.Prelude.{◌≡◌, ◌≢◌, Option, Some, None, Result, Ok, Err}
use Rattle.tracker_calls.specs.declared.cause.Cause.{Cause}
use Rattle.tracker_calls.specs.declared.reply.Refusal.{Refusal}
use Rattle.board.specs.Moved.{Sides}
use Rattle.tracker_calls.specs.declared.reply.Refusal.TheVariants as refusal
use Rattle.tracker_machine.specs.Rank.{no_room}

-- a refusal for the cause that is due, or for want of memory; no check asks a keeper
abbrev pub IsRefusal : Option Cause → Refusal → Type 0
IsRefusal due r = (r ≢ refusal.Keeper) × ((c : Cause) → r ≡ refusal.Cause c → due ≡ Some c)

-- it passes where no cause is due
abbrev pub Checks : {T : Type 0} → Option Cause → Result T Refusal → Type 0
Checks due (Ok x) = due ≡ None
Checks due (Err r) = IsRefusal due r

-- there is room where something is given, and else not between these sides
abbrev pub room_refusal : {T : Type 0} → Result T Sides → Option Cause
room_refusal (Ok x) = None
room_refusal (Err sides) = Some (no_room sides)
