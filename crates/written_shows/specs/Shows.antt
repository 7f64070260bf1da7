-- The text of a reply to a call that is answered from the state.
use Rattle.std.specs.Prelude.{◌≡◌, ℕ, List, Some}
use Rattle.reply_texts.specs.Reply.{reply_text}
use Rattle.tracker_calls.specs.declared.call.Call.{Call}
use Rattle.tracker_calls.specs.declared.reply.Answer.{Answer}
use Rattle.tracker_calls.specs.declared.reply.Reply.TheVariants as reply
use Rattle.tracker_machine.specs.Machine.{Machine}
use Rattle.tracker_machine.specs.Meaning.{Meaning}
use Rattle.tracker_machine.specs.Step.{IsStep}
use Rattle.tracker_state.specs.Plan.{told}

-- this is the text of a reply with what a call tells that makes nothing
abbrev pub IsToldText : Meaning → List ℕ → Type 0
IsToldText due text = (a : Answer) × (told due ≡ Some a) × (text ≡ reply_text (reply.Ok a))

-- this is the text of the reply to a call that is answered and leaves all as it is
pub record IsReplyText (m : Machine) (caller : List ℕ) (c : Call) (text : List ℕ) : Type 0 where
  pub answer : Answer
  pub step : IsStep m caller c (reply.Ok answer) m
  pub text_is : text ≡ reply_text (reply.Ok answer)
