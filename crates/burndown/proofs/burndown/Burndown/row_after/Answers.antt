use Rattle.std.proofs.Common.{subst}
use Rattle.burndown.specs.Group.{group_of}
use Rattle.burndown.specs.Burndown.{TellsNamed}
use Rattle.burndown.proofs.Courses.{tells_group}
use Rattle.burndown.proofs.burndown.Burndown.row_after.Goals as goal

pub returns : goal.returns
returns c =
    let group = group_of c.args.change c.args.at c.args.issue c.args.before c.args.after in
    let first = subst (λ n. TellsNamed c.args.self.now c.tell_named.new.self n group) c.first_sprint-first.ensures c.tell_named.ensures in
    let second = subst (λ n. TellsNamed c.tell_named.new.self c.tell_named-2.new.self n group) c.second_sprint-second.ensures c.tell_named-2.ensures in
    tells_group c.args.self.now c.tell_named.new.self c.tell_named-2.new.self group first second
