-- Lists whose texts are written from the state.
use Rattle.std.proofs.Common.{◌≡◌, ◌≤◌, ◌+◌, ℕ, List, Option, Some, None, Ok, Err, refl, sym, ap, ◌∙◌, arith}
use Rattle.std.specs.Prelude.{Result}
use Rattle.field_forms.specs.Names.{place_named}
use Rattle.reply_texts.specs.Reply.{reply_text}
use Rattle.tracker_calls.specs.declared.call.Call.{Call}
use Rattle.tracker_calls.specs.declared.call.Call.TheVariants as call
use Rattle.tracker_calls.specs.declared.call.Part.{Part}
use Rattle.tracker_calls.specs.declared.cause.Cause.{Cause}
use Rattle.tracker_calls.specs.declared.cause.Cause.TheVariants as cause
use Rattle.tracker_calls.specs.declared.cause.Thing.TheVariants as thing
use Rattle.tracker_calls.specs.declared.reply.Refusal.{Refusal}
use Rattle.tracker_calls.specs.declared.reply.Reply.TheVariants as reply
use Rattle.tracker_machine.specs.Checks.{few_fields_refusal, or_then, part_refusal}
use Rattle.tracker_machine.specs.IssueList.{fields_refusal, wanted_fields, issues_listed, list_answer, list_meaning}
use Rattle.tracker_machine.specs.Machine.{Machine}
use Rattle.tracker_machine.specs.Meaning.{Meaning, allowance, unless}
use Rattle.tracker_machine.specs.Meaning.Meaning.{Refuses}
use Rattle.tracker_machine.specs.Query.{Query, asked}
use Rattle.tracker_machine.specs.Step.{IsStep, evaluations, meaning, meaning_for, form_refusal}
use Rattle.tracker_state.specs.Check.{IsRefusal}
use Rattle.tracker_state.specs.Plan.{IsRefused, cost_to_prepare, told}
use Rattle.tracker_core.proofs.Steps.{told_step, refused_step}
use Rattle.written_shows.specs.Shows.{IsReplyText, IsToldText}

-- what is written of what the query finds is told where nothing refuses the call
pub list_told : (m : Machine) (caller : ℕ) (jql : List ℕ) (fields : Option (List (List ℕ))) (part : Part) (numbers : List ℕ) (query : Query) (text : List ℕ)
    → fields_refusal m.setup.field fields ≡ None → asked m.setup caller jql ≡ Ok query → numbers ≡ wanted_fields m.setup.field fields
    → text ≡ reply_text (reply.Ok (list_answer m caller numbers part query)) → IsToldText (list_meaning m caller jql fields part) text
unfolding list_meaning
list_told m caller jql fields part numbers query text none asks wanted is = (
  list_answer m caller numbers part query,
  rw (none, asks) (ap (λ (ns : List ℕ). Some (list_answer m caller ns part query)) (sym wanted)),
  is,
)

-- what a list asks as it is prepared is what it may cost
module _ (ended : ℕ → ℕ) (m : Machine) where
  abbrev IsWithin : Meaning → Type 0
  IsWithin due = cost_to_prepare due m ≤ allowance ended due m

  unless_within : (o : Option Cause) (due : Meaning) → IsWithin due → IsWithin (unless o due)
  unless_within None due within = within
  unless_within (Some c) due within = omega arith

  found_within : (caller : ℕ) (numbers : List ℕ) (part : Part) (r : Result Query Cause) → IsWithin (issues_listed m caller numbers part r)
  found_within caller numbers part (Err c) = omega arith
  found_within caller numbers part (Ok query) = omega arith

  list_costs : (caller : ℕ) (jql : List ℕ) (fields : Option (List (List ℕ))) (part : Part) → IsWithin (list_meaning m caller jql fields part)
  unfolding list_meaning
  list_costs caller jql fields part =
      unless_within (fields_refusal m.setup.field fields) _ (found_within caller (wanted_fields m.setup.field fields) part (asked m.setup caller jql))

module _ (m : Machine) (caller jql : List ℕ) (fields : Option (List (List ℕ))) (part : Part) where
  -- the call's form, by what its fields and its part are
  abbrev fault : Option Cause
  fault = or_then (few_fields_refusal fields) (part_refusal 100 part)

  abbrev this : Call
  this = call.List jql fields part

  -- what a list by a user means that has no fault of form
  meant : (user : ℕ) → None ≡ fault → Some user ≡ place_named caller m.setup.users → meaning m caller this ≡ list_meaning m user jql fields part
  unfolding meaning meaning_for form_refusal
  meant user formed named = rw (← formed, ← named) refl

  -- by nobody who is known it is refused
  meant_stranger : None ≡ fault → None ≡ place_named caller m.setup.users → meaning m caller this ≡ Refuses (cause.Unknown thing.User caller)
  unfolding meaning form_refusal
  meant_stranger formed none = rw (← formed, ← none) refl

  -- and where its form is at fault
  meant_fault : (c : Cause) → Some c ≡ fault → meaning m caller this ≡ Refuses c
  unfolding meaning form_refusal
  meant_fault c is = rw (← is) refl

  pub told_list : (user : ℕ) (text : List ℕ) → None ≡ fault → Some user ≡ place_named caller m.setup.users → IsToldText (list_meaning m user jql fields part) text
      → IsReplyText m caller this text
  unfolding IsStep
  told_list user text formed named is = record {
    answer = is.0;
    step = told_step _ _ m m (ap told (meant user formed named) ∙ is.1) refl;
    text_is = is.2;
  }

  pub refused_list : (user : ℕ) (r : Refusal) → None ≡ fault → Some user ≡ place_named caller m.setup.users → IsRefused (list_meaning m user jql fields part) r
      → IsStep m caller this (reply.Refused r) m
  unfolding IsStep
  refused_list user r formed named due = refused_step _ r m m (due.0, λ c is. meant user formed named ∙ due.1 c is) refl

  pub refused_list_stranger : (r : Refusal) → None ≡ fault → None ≡ place_named caller m.setup.users → IsRefusal (Some (cause.Unknown thing.User caller)) r
      → IsStep m caller this (reply.Refused r) m
  unfolding IsStep
  refused_list_stranger r formed none due = refused_step _ r m m
      (due.0, λ c is. meant_stranger formed none ∙ ap (λ (o : Option Cause). unless o (list_meaning m 0 jql fields part)) (due.1 c is)) refl

  pub refused_list_fault : (name : List ℕ) (r : Refusal) → Some (cause.Form name) ≡ fault → IsRefusal (Some (cause.Form name)) r → IsStep m caller this (reply.Refused r) m
  unfolding IsStep
  refused_list_fault name r at due = refused_step _ r m m
      (due.0, λ c is. meant_fault (cause.Form name) at ∙ ap (λ (o : Option Cause). unless o (list_meaning m 0 jql fields part)) (due.1 c is)) refl

  pub list_within : (ended : ℕ → ℕ) (user before now : ℕ) → None ≡ fault → Some user ≡ place_named caller m.setup.users
      → now ≤ before + cost_to_prepare (list_meaning m user jql fields part) m → now ≤ before + evaluations ended m caller this
  unfolding evaluations
  list_within ended user before now formed named within =
      let same : allowance ended (list_meaning m user jql fields part) m ≡ allowance ended (meaning m caller this) m =
      ap (λ (due : Meaning). allowance ended due m) (sym (meant user formed named)) in
      omega (arith, within, list_costs ended m user jql fields part, same)
