use Rattle.std.proofs.Common.{◌≤◌, ◌+◌, Ok, subst}
use Rattle.tracker_machine.specs.Meaning.{Meaning}
use Rattle.tracker_machine.specs.Step.{evaluations, meaning}
use Rattle.tracker_state.specs.declared.plan.Prepared.{Prepared}
use Rattle.tracker_state.specs.State.{Held}
use Rattle.tracker_state.specs.Plan.{IsPrepared, IsReady, effect_of}
use Rattle.tracker_machine.specs.Kept.{rows_of}
use Rattle.tracker_core.specs.Left.{IsWithCall, LeavesOn}
use Rattle.tracker_core.proofs.Left.{made_leaves, same_leaves}
use Rattle.tracker_core.specs.Desk.{DeskParts, due_in}
use Rattle.tracker_core.proofs.Counts.{made_counted}
use Rattle.tracker_core.proofs.Steps.{counted}
use Rattle.tracker_core.specs.Counts.{IsCounted}
use Rattle.tracker_core.proofs.desk.Desk.call.Goals as goal

pub returns-in-Ok-Make-clause-steps : goal.returns-in-Ok-Make-clause-steps
unfolding evaluations
returns-in-Ok-Make-clause-steps g c =
    let old : Held = c.self.inside.state in
    let meant : Meaning = meaning old.machine c.args.caller.now c.args.call.now in
    let ready : IsReady meant c.prepare.new.state c.in-Ok-Make.plan c.in-Ok-Make.answer c.in-Ok-Make.rows.items =
    subst (λ (p : Prepared). IsPrepared meant c.prepare.new.state (Ok p)) c.in-Ok-Make.field-0-is c.in-Ok-Make.ensures.prepared in
    subst (λ (d : DeskParts _). c.make.new.steps ≤ c.args.steps.now + evaluations (due_in d.cells) d.machine c.args.caller.now c.args.call.now) c.self.view_is
    (counted old c.prepare.new.state meant c.in-Ok-Make.answer c.in-Ok-Make.plan
    c.args.steps.now c.prepare.new.steps c.make.new.steps c.prepare.ensures.same c.prepare.ensures.table c.prepare.ensures.filters
    c.have_seen.ensures.filters ready.means c.prepare.ensures.steps c.make.ensures.steps)

pub returns-in-Ok-Make-clause-left : goal.returns-in-Ok-Make-clause-left
returns-in-Ok-Make-clause-left g c =
    let old : Held = c.self.inside.state in
    let meant : Meaning = meaning old.machine c.args.caller.now c.args.call.now in
    let ready : IsReady meant c.prepare.new.state c.in-Ok-Make.plan c.in-Ok-Make.answer c.in-Ok-Make.rows.items =
    subst (λ (p : Prepared). IsPrepared meant c.prepare.new.state (Ok p)) c.in-Ok-Make.field-0-is c.in-Ok-Make.ensures.prepared in
    subst
    (λ (d : DeskParts _). g.P.Keeper.keeps d.keeper (rows_of d.machine) → LeavesOn g.P.Keeper.leaves (IsWithCall c.args.caller.now c.args.call.now) d.keeper d.machine c.make.new.keeper c.make.new.state.machine)
    c.self.view_is
    (made_leaves g.P.Keeper.leaves g.P.Keeper.keeps c.args.caller.now c.args.call.now old.machine c.prepare.new.state.machine c.in-Ok-Make.answer (effect_of c.in-Ok-Make.plan)
    c.self.inside.keeper c.make.new.keeper c.make.new.state.machine c.prepare.ensures.same ready.means c.make.ensures.left)

pub returns-in-Ok-Tell-clause-left : goal.returns-in-Ok-Tell-clause-left
returns-in-Ok-Tell-clause-left g c =
    subst
    (λ (d : DeskParts _). g.P.Keeper.keeps d.keeper (rows_of d.machine) → LeavesOn g.P.Keeper.leaves (IsWithCall c.args.caller.now c.args.call.now) d.keeper d.machine c.self.inside.keeper c.prepare.new.state.machine)
    c.self.view_is
    (λ _. same_leaves g.P.Keeper.leaves (IsWithCall c.args.caller.now c.args.call.now) c.self.inside.keeper c.self.inside.state.machine c.prepare.new.state.machine c.prepare.ensures.same)

pub returns-in-Err-clause-left : goal.returns-in-Err-clause-left
returns-in-Err-clause-left g c =
    subst
    (λ (d : DeskParts _). g.P.Keeper.keeps d.keeper (rows_of d.machine) → LeavesOn g.P.Keeper.leaves (IsWithCall c.args.caller.now c.args.call.now) d.keeper d.machine c.self.inside.keeper c.prepare.new.state.machine)
    c.self.view_is
    (λ _. same_leaves g.P.Keeper.leaves (IsWithCall c.args.caller.now c.args.call.now) c.self.inside.keeper c.self.inside.state.machine c.prepare.new.state.machine c.prepare.ensures.same)

pub returns-in-Ok-Make-clause-exact : goal.returns-in-Ok-Make-clause-exact
returns-in-Ok-Make-clause-exact g c = λ answer is quiet.
    let old : Held = c.self.inside.state in
    let meant : Meaning = meaning old.machine c.args.caller.now c.args.call.now in
    let ready : IsReady meant c.prepare.new.state c.in-Ok-Make.plan c.in-Ok-Make.answer c.in-Ok-Make.rows.items =
    subst (λ (p : Prepared). IsPrepared meant c.prepare.new.state (Ok p)) c.in-Ok-Make.field-0-is c.in-Ok-Make.ensures.prepared in
    subst (λ (d : DeskParts _). IsCounted (due_in d.cells) d.machine c.args.call.now (meaning d.machine c.args.caller.now c.args.call.now) c.args.steps.now c.make.new.steps) c.self.view_is
    (made_counted old c.prepare.new.state c.args.call.now meant c.in-Ok-Make.answer c.in-Ok-Make.plan
    c.args.steps.now c.prepare.new.steps c.make.new.steps c.prepare.ensures.same c.prepare.ensures.table c.prepare.ensures.filters
    c.have_seen.ensures.filters ready.means (c.prepare.ensures.exact _ c.in-Ok-Make.is quiet) (c.make.ensures.exact answer is))
