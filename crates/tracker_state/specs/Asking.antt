-- What a text asks for, told by a refusal where it has a fault.
use Rattle.std.specs.Prelude.{◌≡◌, ◌≢◌, Result, Err}
use Rattle.jql_syntax.specs.declared.reader.JqlFault.{JqlFault}
use Rattle.jql_syntax.specs.declared.reader.JqlFault.TheVariants as fault
use Rattle.tracker_calls.specs.declared.cause.Cause.{Cause}
use Rattle.tracker_calls.specs.declared.reply.Refusal.{Refusal}
use Rattle.tracker_calls.specs.declared.cause.Cause.TheVariants as cause
use Rattle.tracker_calls.specs.declared.reply.Refusal.TheVariants as refusal
use Rattle.tracker_machine.specs.Query.{Query}

-- a refusal for the cause that is due, or for want of memory
abbrev pub Faults : Result Query Cause → Refusal → Type 0
Faults due r = (r ≢ refusal.Keeper) × ((c : Cause) → r ≡ refusal.Cause c → due ≡ Err c)

-- the refusal that tells a text's fault
abbrev pub text_refusal : JqlFault → Refusal
text_refusal (fault.Bad place kind) = refusal.Cause (cause.Query kind place)
text_refusal fault.Memory = refusal.Memory
