-- An import that is made again does nothing, and tells the issues that it made.
use Rattle.std.specs.Prelude.{◌≡◌, ℕ, Bool, true, false, List, [], ◌∷◌, map}
use Rattle.std.specs.Option.{is_some}
use Rattle.fields.specs.Sound.{IsSound}
use Rattle.tracker_calls.specs.declared.call.Call.{Call}
use Rattle.tracker_calls.specs.declared.call.Call.TheVariants as call
use Rattle.tracker_calls.specs.declared.reply.Answer.TheVariants as answer
use Rattle.tracker_calls.specs.declared.reply.Reply.{Reply}
use Rattle.tracker_calls.specs.declared.reply.Reply.TheVariants as reply
use Rattle.tracker_machine.specs.Machine.{Machine}
use Rattle.tracker_machine.specs.Tracker.{IsTracker}
use Rattle.tracker_machine.specs.Step.{reply_of, next_of}
use Rattle.tracker_runs.specs.RankLaws.{IsAccepted}

-- the call is a create with an external id, as a record of an import that has one asks for
abbrev pub is_import : Call → Bool
is_import (call.Create project issue_type summary set external) = is_some external
is_import _ = false

-- calls of one user in turn: the tracker after them, and their replies
abbrev pub after_calls : Machine → List ℕ → List Call → Machine
after_calls m caller [] = m
after_calls m caller (c ∷ cs) = after_calls (next_of m caller c) caller cs

abbrev pub replies_to : Machine → List ℕ → List Call → List Reply
replies_to m caller [] = []
replies_to m caller (c ∷ cs) = reply_of m caller c ∷ replies_to (next_of m caller c) caller cs

-- each is such a create, and is accepted
abbrev pub AreImported : Machine → List ℕ → List Call → Type 0
AreImported m caller [] = Unit {0}
AreImported m caller (c ∷ cs) =
    (is_import c ≡ true) × IsAccepted (reply_of m caller c)
    × AreImported (next_of m caller c) caller cs

-- the reply to a create, as one that was made before
abbrev pub as_made_before : Reply → Reply
as_made_before (reply.Ok (answer.Create already change issue)) =
    reply.Ok (answer.Create true change issue)
as_made_before r = r

-- made again they leave the tracker as it is, and each has the reply that it had, as one that was made before
pub record AreMadeOnce (m : Machine) (caller : List ℕ) (calls : List Call) : Type 0 where
  pub state : after_calls (after_calls m caller calls) caller calls ≡ after_calls m caller calls
  pub replies : replies_to (after_calls m caller calls) caller calls
      ≡ map as_made_before (replies_to m caller calls)

-- so it is of each import whose records have external ids and are all accepted
abbrev pub ImportsAreMadeOnce : Type 0
ImportsAreMadeOnce =
    (m : Machine) (caller : List ℕ) (calls : List Call) → IsTracker m → IsSound m.setup
    → AreImported m caller calls → AreMadeOnce m caller calls
