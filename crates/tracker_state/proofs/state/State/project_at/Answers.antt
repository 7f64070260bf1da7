use Rattle.std.proofs.Common.{◌≡◌, ap, option_map, slice_get, subst, ◌∙◌}
use Rattle.std.specs.Prelude.{option_and_then}
use Rattle.field_values.specs.declared.numbers.ProjectNo.{ProjectNo}
use Rattle.workflow.specs.Conditions.{project_number}
use Rattle.tracker_issues.proofs.Tallies.{project_at}
use Rattle.tracker_state.specs.State.{Held}
use Rattle.tracker_state.specs.contracts.state.State.{the_view}
use Rattle.tracker_state.proofs.state.State.project_at.Goals as goal

pub returns : goal.returns
returns c =
    let m = (the_view c.self.inside).machine in
    subst (λ (s : Held). option_map (λ (no : ProjectNo). no.0) c.project_at.result ≡ option_and_then (project_number s.machine.setup) (slice_get s.machine.histories c.args.place)) c.self.view_is
    (ap (option_map (λ (no : ProjectNo). no.0)) c.project_at.ensures ∙ project_at m.setup m.histories c.self.inside.issues.tally c.args.place c.self.invariant.counted)
