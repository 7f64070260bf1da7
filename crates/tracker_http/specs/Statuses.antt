-- The statuses of replies.
use Rattle.std.specs.Prelude.{ℕ}
use Rattle.tracker_calls.specs.declared.reply.Refusal.{Refusal}
use Rattle.tracker_calls.specs.declared.cause.Cause.{Cause}
use Rattle.tracker_calls.specs.declared.cause.Cause.TheVariants as cause
use Rattle.tracker_calls.specs.declared.reply.Refusal.TheVariants as refusal
use Rattle.tracker_calls.specs.declared.reply.Reply.{Reply}
use Rattle.tracker_calls.specs.declared.reply.Reply.TheVariants as reply

abbrev pub cause_status : Cause → ℕ
cause_status (cause.Form member) = 400
cause_status (cause.Unknown kind name) = 404
cause_status (cause.Forbidden permission project) = 403
cause_status (cause.Condition index) = 422
cause_status (cause.Validator index) = 422
cause_status (cause.Unfit field) = 422
cause_status (cause.Query kind place) = 422
cause_status (cause.NoRoom low high) = 409
cause_status (cause.SprintIs state) = 409
cause_status (cause.Limit limit) = 422
cause_status (cause.Earlier kept) = 409
cause_status (cause.BalanceIs kept) = 409
cause_status (cause.ExternalIs external kept) = 409

abbrev pub refusal_status : Refusal → ℕ
refusal_status (refusal.Cause c) = cause_status c
refusal_status refusal.Keeper = 503
refusal_status refusal.Memory = 507

abbrev pub status_of : Reply → ℕ
status_of (reply.Ok answer) = 200
status_of (reply.Refused r) = refusal_status r
