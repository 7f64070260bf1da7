-- Shows whose texts are written from the state.
use Rattle.std.proofs.Common.{◌≡◌, ℕ, List, Option, Some, None, refl, ap, ◌∙◌}
use Rattle.field_forms.specs.Names.{place_named}
use Rattle.reply_texts.specs.Reply.{reply_text}
use Rattle.tracker_calls.specs.declared.call.Call.TheVariants as call
use Rattle.tracker_calls.specs.declared.cause.Cause.{Cause}
use Rattle.tracker_calls.specs.declared.reply.Refusal.{Refusal}
use Rattle.tracker_calls.specs.declared.cause.Cause.TheVariants as cause
use Rattle.tracker_calls.specs.declared.reply.Reply.TheVariants as reply
use Rattle.tracker_calls.specs.declared.cause.Thing.TheVariants as thing
use Rattle.tracker_machine.specs.Known.{history_named}
use Rattle.tracker_machine.specs.Machine.{Machine}
use Rattle.tracker_machine.specs.Meaning.{unless}
use Rattle.tracker_machine.specs.Meaning.Meaning.{Refuses, Tells}
use Rattle.tracker_machine.specs.Show.{show_refusal, show_meaning, show_answer_of}
use Rattle.tracker_machine.specs.Step.{IsStep, meaning, meaning_for, form_refusal}
use Rattle.tracker_state.specs.Check.{IsRefusal}
use Rattle.tracker_state.specs.Plan.{told}
use Rattle.written_shows.specs.Shows.{IsReplyText}
use Rattle.tracker_core.proofs.Steps.{told_step, refused_step}

-- what a show by a user means: it has no fault of form
meant : (m : Machine) (caller issue : List ℕ) (user : ℕ) → Some user ≡ place_named caller m.setup.users → meaning m caller (call.Show issue) ≡ show_meaning m user issue
unfolding meaning meaning_for form_refusal
meant m caller issue user named = rw (← named) refl

-- by nobody who is known it is refused
meant_stranger : (m : Machine) (caller issue : List ℕ) → None ≡ place_named caller m.setup.users → meaning m caller (call.Show issue) ≡ Refuses (cause.Unknown thing.User caller)
unfolding meaning form_refusal
meant_stranger m caller issue none = rw (← none) refl

pub told_show : (m : Machine) (caller issue text : List ℕ) (user : ℕ) → Some user ≡ place_named caller m.setup.users → show_refusal m user issue ≡ None
    → text ≡ reply_text (reply.Ok (show_answer_of m (history_named m issue))) → IsReplyText m caller (call.Show issue) text
unfolding IsStep
told_show m caller issue text user named passes is = record {
  answer = show_answer_of m (history_named m issue);
  step = told_step _ _ m m (ap told (meant m caller issue user named ∙ ap (λ (o : Option Cause). unless o (Tells (show_answer_of m (history_named m issue)))) passes)) refl;
  text_is = is;
}

pub refused_show : (m : Machine) (caller issue : List ℕ) (user : ℕ) (r : Refusal) → Some user ≡ place_named caller m.setup.users → IsRefusal (show_refusal m user issue) r
    → IsStep m caller (call.Show issue) (reply.Refused r) m
unfolding IsStep
refused_show m caller issue user r named due = refused_step _ r m m
    (due.0, λ c is. meant m caller issue user named ∙ ap (λ (o : Option Cause). unless o (Tells (show_answer_of m (history_named m issue)))) (due.1 c is)) refl

pub refused_stranger : (m : Machine) (caller issue : List ℕ) (r : Refusal) → None ≡ place_named caller m.setup.users → IsRefusal (Some (cause.Unknown thing.User caller)) r
    → IsStep m caller (call.Show issue) (reply.Refused r) m
unfolding IsStep
refused_stranger m caller issue r none due = refused_step _ r m m
    (due.0, λ c is. meant_stranger m caller issue none ∙ ap (λ (o : Option Cause). unless o (show_meaning m 0 issue)) (due.1 c is)) refl
