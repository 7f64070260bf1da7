use Rattle.std.proofs.Common.{◌≡◌, ℕ, List, Option, Some, ◌∙◌, ap, ap₂, sym, subst}
use Rattle.std.specs.Prelude.{Ok}
use Rattle.tracker_calls.specs.declared.reply.Answer.{Answer}
use Rattle.tracker_machine.specs.Effect.Effect.{NewGroup}
use Rattle.tracker_machine.specs.Kept.{ops_of}
use Rattle.tracker_state.specs.State.{Held}
use Rattle.tracker_state.specs.Plan.{GroupFits, IsReady}
use Rattle.tracker_state.specs.declared.plan.GroupPlan.{GroupPlan}
use Rattle.tracker_state.specs.declared.plan.Plan.TheVariants as plans
use Rattle.issue_calls.specs.Group.{ComesToGroup, group_answer}
use Rattle.issue_calls.specs.declared.group.DueGroup.{DueGroup}
use Rattle.issue_calls.proofs.Grouping.{group_ready}
use Rattle.issue_calls.proofs.group.ready.Goals as goal

pub returns-clause-prepared : goal.returns-clause-prepared
returns-clause-prepared c = λ meaning comes.
    let m = c.args.state.now.machine in
    let answer = group_answer c.args.call c.args.name.now in
    let new = c.in-Some.new in
    let plan = c.in_ok-plan.plan in
    let rows = c.in_ok-plan.rows in
    let s = c.kept.new.state in
    let same = c.kept.ensures.same in
    let own = c.in_ok-plan.ensures.plan in
    let is : ComesToGroup m answer meaning (Ok (Some new)) = subst (λ (due : Option DueGroup). ComesToGroup m answer meaning (Ok due)) c.in-Some.is comes in
    let said : c.told_group-answer.result ≡ answer (Some new.plan.group.change) =
    c.told_group-answer.ensures ∙ ap₂ (λ (text : List ℕ) (p : GroupPlan). group_answer c.args.call text (Some p.group.change)) c.in_ok-told.ensures own in
    subst (λ (a : Answer). IsReady meaning s (plans.Group plan) a rows.items) (sym said)
    (group_ready m s is.1.0 meaning new plan (answer (Some new.plan.group.change)) rows.items is.1.1
    (ap (λ (h : Held). h.machine) same ∙ c.reserve.ensures.machine) own is.0
    (subst (λ (h : Held). GroupFits h new.plan) (sym same) c.in_ok-reserve.ensures.fits)
    (c.in_ok-plan.ensures.rows ∙ ap (ops_of (NewGroup new.plan.place new.plan.group)) c.reserve.ensures.machine))
