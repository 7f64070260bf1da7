-- What a call means: a refusal, an answer, or an answer and an effect.
use Rattle.std.specs.Prelude.{◌≡◌, ℕ, ◌*◌, length, Option, Some, None}
use Rattle.tracker_calls.specs.declared.reply.Answer.{Answer}
use Rattle.tracker_calls.specs.declared.cause.Cause.{Cause}
use Rattle.tracker_calls.specs.declared.reply.Refusal.{Refusal}
use Rattle.tracker_calls.specs.declared.reply.Refusal.TheVariants as refusal
use Rattle.tracker_calls.specs.declared.reply.Reply.{Reply}
use Rattle.tracker_calls.specs.declared.reply.Reply.TheVariants as reply
use Rattle.tracker_machine.specs.Machine.{Machine}
use Rattle.tracker_machine.specs.Effect.{Effect, applied}
use Rattle.tracker_machine.specs.SprintRules.{sum_in_sprint}
use Rattle.tracker_machine.specs.Effect.Effect.{NewMoment, NewIssue, NewGroup, NewState, NewFilter, NewMembers}

pub data Meaning : Type 0 where
  Refuses : Cause → Meaning
  Tells : Answer → Meaning
  -- an answer for which each issue is asked once whether a query holds of it
  Finds : Answer → Meaning
  Makes : Answer → Effect → Meaning

-- a refusal comes before what else the call would mean
abbrev pub unless : Option Cause → Meaning → Meaning
unless None due = due
unless (Some c) due = Refuses c

abbrev pub reply_to : Meaning → Reply
reply_to (Refuses c) = reply.Refused (refusal.Cause c)
reply_to (Tells a) = reply.Ok a
reply_to (Finds a) = reply.Ok a
reply_to (Makes a effect) = reply.Ok a

abbrev pub next_after : Meaning → Machine → Machine
next_after (Makes a effect) m = applied effect m
next_after _ m = m

-- how often at most an effect has it asked whether a query holds of an issue, where so many kept verdicts end up to a moment:
-- a saved filter once for each issue, a new or a changed issue once for each filter, a sprint's start or close once for each filter
-- and issue in it, other members of a group once for each filter and issue, and a later moment once for each such verdict
abbrev pub cost : (ℕ → ℕ) → Effect → Machine → ℕ
cost ended (NewMoment to) m = ended to
cost ended (NewIssue h rank external) m = length m.filters
cost ended (NewGroup place group) m = length m.filters
cost ended (NewState sprint state) m = sum_in_sprint (length m.filters) sprint.0 m.histories
cost ended (NewFilter f) m = length m.histories
cost ended (NewMembers group members) m = length m.filters * length m.histories
cost ended _ m = 0

abbrev pub allowance : (ℕ → ℕ) → Meaning → Machine → ℕ
allowance ended (Finds a) m = length m.histories
allowance ended (Makes a effect) m = cost ended effect m
allowance ended _ m = 0

-- something is to be kept
abbrev pub HasEffect : Meaning → Type 0
HasEffect (Makes a effect) = Unit {0}
HasEffect _ = ⊥

-- the cause is the one that is due; want of memory may come in place of any reply, and a keeper's fault where there is
-- something to keep
abbrev pub IsDue : Meaning → Refusal → Type 0
IsDue due (refusal.Cause c) = due ≡ Refuses c
IsDue due refusal.Keeper = HasEffect due
IsDue due refusal.Memory = Unit {0}

-- a reply that is due and the state that it leads to; a refusal leaves all as it is
abbrev pub Performs : Meaning → Machine → Reply → Machine → Type 0
Performs due old (reply.Ok a) new = (reply_to due ≡ reply.Ok a) × (new ≡ next_after due old)
Performs due old (reply.Refused r) new = IsDue due r × (new ≡ old)
