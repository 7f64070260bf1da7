use Rattle.std.proofs.Common.{◌≡◌, take}
use Rattle.tracker_calls.proofs.reply.ShownFields.copy.Given as goal

abbrev pub invariant-loop-field : goal.invariant-loop-field
invariant-loop-field l = l.fields ≡ take l.field-index l.field-items
