use Rattle.std.proofs.Common.{◌≡◌, ℕ, List, option_map, refl, subst, sym, ◌∙◌, ap, Err}
use Rattle.std.specs.Prelude.{IfOk, IfErr, Result, Ok}
use Rattle.fields.specs.SetupParts.{parts}
use Rattle.jql_syntax.specs.View.{view as tree}
use Rattle.jql_syntax.specs.Fault.{Explains}
use Rattle.jql_syntax.specs.declared.reader.JqlFault.{JqlFault}
use Rattle.jql_syntax.specs.declared.reader.JqlFault.TheVariants as fault
use Rattle.field_values.specs.Parts.{Parts}
use Rattle.tracker_calls.specs.declared.cause.Cause.{Cause}
use Rattle.tracker_calls.specs.declared.cause.Cause.TheVariants as cause
use Rattle.tracker_calls.specs.declared.reply.Refusal.TheVariants as refusal
use Rattle.tracker_machine.specs.Query.{Query, asked}
use Rattle.tracker_machine.proofs.Asking.{asked_query, asked_fault}
use Rattle.tracker_state.specs.State.{query_of}
use Rattle.tracker_state.specs.Asking.{text_refusal, Faults}
use Rattle.tracker_state.proofs.asking.asked.Goals as goal

pub returns-in-Ok-clause-query : goal.returns-in-Ok-clause-query
returns-in-Ok-clause-query c =
    let is = asked_query (parts c.args.setup.now) c.args.caller.0 c.args.jql.now (option_map tree c.in-Ok.query.0) c.in-Ok.query.1 c.in-Ok.ensures.found in
    subst (λ (due : Result Query Cause). IfOk c.bound.result (λ bound. due ≡ Ok (query_of bound))) (sym is) c.bound.ensures.query

pub returns-in-Ok-clause-fault : goal.returns-in-Ok-clause-fault
returns-in-Ok-clause-fault c =
    let is = asked_query (parts c.args.setup.now) c.args.caller.0 c.args.jql.now (option_map tree c.in-Ok.query.0) c.in-Ok.query.1 c.in-Ok.ensures.found in
    subst (λ (due : Result Query Cause). IfErr c.bound.result (Faults due)) (sym is) c.bound.ensures.fault

same_cause : (a b : Cause) → refusal.Cause a ≡ refusal.Cause b → a ≡ b
same_cause a b e = cc

explained : (setup : Parts) (user : ℕ) (text : List ℕ) (f : JqlFault) → Explains text f → Faults (asked setup user text) (text_refusal f)
explained setup user text (fault.Bad place n) e = (λ same. cc, λ c is. asked_fault setup user text place e.0 e.2 ∙ ap (λ v. Err (cause.Query v place)) (sym e.1) ∙ ap Err (same_cause _ c is))
explained setup user text fault.Memory e = (λ same. cc, λ c is. absurd (cc))

pub returns-in-Err-clause-fault : goal.returns-in-Err-clause-fault
returns-in-Err-clause-fault c =
    subst (Faults (asked (parts c.args.setup.now) c.args.caller.0 c.args.jql.now)) (sym c.refusal_of.ensures)
    (explained (parts c.args.setup.now) c.args.caller.0 c.args.jql.now c.in-Err.fault c.in-Err.ensures.fault)
