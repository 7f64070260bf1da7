use Rattle.std.proofs.Common.{List, codes, option_map, ap, sym, ◌∙◌}
use Rattle.serde_json.specs.Data.{object, no_members}
use Rattle.serde_json.specs.Read.{of_members}
use Rattle.json.specs.Value.{members_view}
use Rattle.call_lines.specs.Asked.{call_of, need}
use Rattle.call_lines.specs.Plain.{Named}
use Rattle.call_lines.proofs.PlainLines.{show_in_order, three}
use Rattle.call_lines.proofs.plain_line.plain_show.Goals as goal

pub returns : goal.returns
returns c =
    let members = three _ _ _ _ c.in-len3.len_at_least c.in-len3.len_below c.user-item.is c.call-item.is c.issue-item.is in
    ap (λ (ms : List Named). need (option_map object (of_members (members_view ms) no_members)) (codes "line") call_of) members
    ∙ show_in_order c.user-item.result c.call-item.result c.issue-item.result _ _ _ c.in_ok-user.ensures c.in_ok-call.ensures c.in_ok-issue.ensures (sym c.is_same.ensures ∙ c.if-not-is_same.false)
