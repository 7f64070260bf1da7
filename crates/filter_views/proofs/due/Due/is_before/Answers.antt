use Rattle.std.proofs.Common.{rules}
use Rattle.filter_views.specs.Due.{is_before}
use Rattle.filter_views.proofs.due.Due.is_before.Goals as goal

pub returns : goal.returns
unfolding is_before
returns c = search rules
