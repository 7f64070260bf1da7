-- What a line asks for, with names that are lent.
use Rattle.std.specs.Prelude.{◌≡◌, ℕ, List, Result, Ok, Err}
use Rattle.call_lines.specs.Asked.{ErrUnlessMemory}
use Rattle.tracker_calls.specs.declared.call.Call.{Call}
use Rattle.tracker_calls.specs.declared.call.Call.TheVariants as call
use Rattle.call_lines.specs.declared.line.AskedLine.{AskedLine}
use Rattle.call_lines.specs.declared.line.AskedLine.TheVariants as asked
use Rattle.tracker_calls.specs.declared.cause.Cause.{Cause}
use Rattle.tracker_calls.specs.declared.reply.Refusal.{Refusal}

-- the user and the call
abbrev pub asked_of : AskedLine → List ℕ × Call
asked_of (asked.Show user issue) = (user.now, call.Show issue.now)
asked_of (asked.Call user call) = (user, call)

-- these are expected; want of memory may be answered in place of anything else
abbrev pub AsksUnlessMemory : Result AskedLine Refusal → Result (List ℕ × Call) Cause → Type 0
AsksUnlessMemory (Ok line) expected = expected ≡ Ok (asked_of line)
AsksUnlessMemory (Err r) expected = ErrUnlessMemory r expected
