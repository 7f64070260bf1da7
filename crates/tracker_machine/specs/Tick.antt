-- The call `tick`: the moment moves on.
use Rattle.std.specs.Prelude.{ℕ, Option, Some, None, ◌==◌, nat_lt, if◌then◌else◌}
use Rattle.tracker_calls.specs.declared.reply.Answer.TheVariants as answer
use Rattle.tracker_calls.specs.declared.cause.Cause.{Cause}
use Rattle.tracker_calls.specs.declared.cause.Cause.TheVariants as cause
use Rattle.tracker_machine.specs.Machine.{Machine}
use Rattle.tracker_machine.specs.Effect.Effect.{NewMoment}
use Rattle.tracker_machine.specs.Meaning.{Meaning, unless}
use Rattle.tracker_machine.specs.Meaning.Meaning.{Tells, Makes}

-- time doesn't go back
abbrev pub tick_refusal : Machine → ℕ → Option Cause
tick_refusal m to = if nat_lt to m.moment then Some (cause.Earlier m.moment) else None

-- the moment is this one; where it is already, nothing is done
abbrev pub ticked : Machine → ℕ → Meaning
ticked m to =
    if to == m.moment then Tells (answer.Tick to) else Makes (answer.Tick to) (NewMoment to)

abbrev pub tick_meaning : Machine → ℕ → Meaning
tick_meaning m to = unless (tick_refusal m to) (ticked m to)
