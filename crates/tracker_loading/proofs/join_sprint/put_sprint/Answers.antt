use Rattle.std.proofs.Common.{List, subst}
use Rattle.sprints.specs.declared.sprint.Sprint.{Sprint}
use Rattle.sprints.specs.Sprint.{future}
use Rattle.sprints.specs.Change.{IsInState}
use Rattle.tracker_loading.proofs.Brought.{last_turned}
use Rattle.tracker_loading.proofs.join_sprint.put_sprint.Goals as goal

pub returns : goal.returns
returns c =
    let front = c.args.sprints.now.sprints in
    let sprint = c.args.sprint in
    let new = c.turn.new.self.sprints in
    last_turned front new (future sprint.name) c.in-Ok.no.0 sprint.state c.in-Ok.ensures.created.0
    (subst (λ (ss : List Sprint). IsInState ss new c.in-Ok.no.0 sprint.state) c.in-Ok.ensures.created.1 c.turn.ensures.turned)
