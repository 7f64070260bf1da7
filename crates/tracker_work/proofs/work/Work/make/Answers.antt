use Rattle.std.proofs.Common.{◌≡◌, ◌<◌, ◌≤◌, length, sym, subst, arith}
use Rattle.std.proofs.lemmas.Result.{IfErr-weaker}
use Rattle.tracker_limits.specs.Limits.{most_sprints}
use Rattle.tracker_work.specs.Work.{TrackedWork}
use Rattle.tracker_work.proofs.Answered.{only_full}
use Rattle.tracker_work.proofs.work.Work.make.Goals as goal

pub returns-clause-refused : goal.returns-clause-refused
returns-clause-refused c =
    let old = c.self.inside.sprints in
    let most : length old.sprints ≤ most_sprints = omega (arith, c.count-count.ensures.number, c.count-count.ensures.most) in
    let room : length old.sprints < old.room = subst (λ (w : TrackedWork). length w.seen.sprints < w.room) (sym c.self.view_is) c.requires.sprints in
    let only = only_full (length old.sprints) c.create.result (c.create.new.self ≡ old) most c.create.ensures.full (c.create.ensures.reserved room) c.create.ensures.refused in
    IfErr-weaker c.create.result _ _ (λ fault is. (is.0, rw is.1 c.self.view_is)) only
