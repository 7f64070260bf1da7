use Rattle.std.proofs.Common.{Some, sym, ◌∙◌, ap}
use Rattle.std.specs.Option.{option_copied}
use Rattle.rank_balancer.specs.Step.{Move}
use Rattle.rank_balancer.proofs.Plans.{neighbour_after-last}
use Rattle.rank_balancer.proofs.plan.neighbour.Goals as goal

pub returns-in-len1-up : goal.returns-in-len1-up
returns-in-len1-up c =
    ap (λ (m : Move). Some m.1) c.last-item.is ∙ sym (neighbour_after-last c.args.moves.now (option_copied c.args.first) c.last-item.result c.in-len1-up.len_at_least)
