-- What is told of issues by the calls `show` and `history`, whoever may ask.
use Rattle.std.specs.Prelude.{◌≡◌, ℕ, List, is_some}
use Rattle.tracker_calls.specs.declared.call.Part.{Part}
use Rattle.tracker_calls.specs.declared.reply.Reply.TheVariants as reply
use Rattle.reply_texts.specs.Reply.{reply_text}
use Rattle.tracker_machine.specs.Machine.{Machine}
use Rattle.tracker_machine.specs.Known.{history_named}
use Rattle.tracker_machine.specs.Entries.{history_answer_of}
use Rattle.tracker_machine.specs.Show.{show_answer_of}

-- the reply to a call that asks for a part of an issue's history and isn't refused
abbrev pub history_text : Machine → Part → List ℕ → List ℕ
history_text m part issue = reply_text (reply.Ok (history_answer_of m part (history_named m issue)))

-- the reply to a call that asks for an issue's present values and isn't refused
abbrev pub show_text : Machine → List ℕ → List ℕ
show_text m issue = reply_text (reply.Ok (show_answer_of m (history_named m issue)))

-- both trackers have the same issues, and tell the same of each, byte for byte
pub record TellTheSame (m later : Machine) : Type 0 where
  pub there : (issue : List ℕ)
      → is_some (history_named later issue) ≡ is_some (history_named m issue)
  pub histories : (part : Part) (issue : List ℕ)
      → history_text later part issue ≡ history_text m part issue
  pub shows : (issue : List ℕ) → show_text later issue ≡ show_text m issue
