use Rattle.std.proofs.Common.{sym, arith}
use Rattle.std.proofs.lemmas.List.{take_all}
use Rattle.tracker_http.proofs.held.front.Goals as goal

pub returns-then-held-lt-HEAD_LIMIT : goal.returns-then-held-lt-HEAD_LIMIT
returns-then-held-lt-HEAD_LIMIT c = sym (take_all 8192 c.args.held.now (omega (arith, c.if-held-lt-HEAD_LIMIT.true)))
