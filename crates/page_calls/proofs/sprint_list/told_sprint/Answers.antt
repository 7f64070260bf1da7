use Rattle.std.proofs.Common.{◌≡◌, ◌-◌, ℕ, List, Option, Some, slice_get, ap, ap₂, subst, sym, ◌∙◌}
use Rattle.field_values.specs.declared.numbers.SprintNo.{SprintNo}
use Rattle.sprints.specs.declared.sprint.Sprint.{Sprint}
use Rattle.tracker_calls.specs.declared.listed.ToldSprint.{ToldSprint}
use Rattle.tracker_calls.specs.declared.reply.SprintPhase.{SprintPhase}
use Rattle.tracker_machine.specs.Overviews.{sprints_from}
use Rattle.tracker_work.specs.Seen.{Seen}
use Rattle.page_calls.proofs.Listing.{told_by_number}
use Rattle.page_calls.proofs.sprint_list.told_sprint.Goals as goal

abbrev one : SprintNo → List ℕ → SprintPhase → Option ToldSprint
one sprint name phase = Some (record { name = name; sprint = sprint; state = phase })

pub returns : goal.returns
returns c =
    let n = c.args.sprint.0 in
    let seen : List Sprint = c.work-work.result.now.seen.sprints in
    let told = told_by_number seen n c.in-Some-name.name.now c.in-Some.kept (sym c.in-Some-name.ensures.name) (sym c.in-Some.ensures.state)
    ∙ ap₂ (one c.args.sprint) (sym c.in_ok-name.ensures) (sym c.phase_of.ensures) in
    subst (λ (ss : List Sprint). slice_get (sprints_from 1 ss) (n - 1) ≡ one c.args.sprint c.in_ok-name.name c.phase_of.result)
    (ap (λ (w : Seen). w.sprints) c.work-work.ensures.seen) told
