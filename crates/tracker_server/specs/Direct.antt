-- The reply to the last call of a teller that keeps its events.
use Rattle.std.specs.Prelude.{◌-◌, List, length, slice_get, Bool, true, false, Option, Some, None}
use Rattle.tracker_calls.specs.declared.reply.Reply.{Reply}
use Rattle.tracker_server.specs.Events.{lacks_memory}
use Rattle.tracker_server.specs.declared.event.Event.{Event}

-- that of the last event, where the last call was entered
abbrev pub reply_in : Bool → Option Event → Reply
reply_in true (Some e) = e.reply
reply_in true None = lacks_memory
reply_in false last = lacks_memory

abbrev pub last_of : List Event → Option Event
last_of events = slice_get events (length events - 1)
