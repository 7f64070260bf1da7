use Rattle.std.proofs.Common.{ap, ◌∙◌, sym, subst, append-nil, ◌++◌}
use Rattle.tracker_http.specs.Requests.{IsCut}
use Rattle.tracker_http.proofs.laws.requests_read.Goals as goal

pub returns-clause-taken : goal.returns-clause-taken
returns-clause-taken c bytes rest r rs ending step are = (step.0, rest, step.2, step.1, are)

pub returns-clause-end : goal.returns-clause-end
returns-clause-end c bytes rest step = step.0 ∙ step.1

pub returns-clause-cut : goal.returns-clause-cut
returns-clause-cut c bytes rest step = subst IsCut (sym (step.2 ∙ ap (λ l. step.0 ++ l) step.3 ∙ append-nil step.0)) step.1

pub returns-clause-refused : goal.returns-clause-refused
returns-clause-refused c bytes rest status allow is_head step = (step.0, rest, step.2, step.1)
