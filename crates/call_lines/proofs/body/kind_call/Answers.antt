use Rattle.std.proofs.Common.{subst}
use Rattle.call_lines.specs.Asked.{UnlessMemory}
use Rattle.call_lines.specs.Body.{of_line}
use Rattle.call_lines.proofs.Bodies.{of_line_is}
use Rattle.call_lines.proofs.body.kind_call.Goals as goal

pub returns : goal.returns
returns c =
    of_line_is c.args.kind _ _ c.args.user.now c.asked_in-asked.result c.of_line.result c.asked_in-asked.ensures
    (λ expected asks. subst (λ unknown. UnlessMemory c.of_line.result (of_line c.args.kind unknown c.args.user.now expected)) c.in_ok-unknown.ensures (c.of_line.ensures expected asks))
