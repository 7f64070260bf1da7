use Rattle.std.proofs.Common.{◌≡◌, List, Option, Ok, IfOk, IfSome, codes, option_map, subst, ap, sym, ◌∙◌}
use Rattle.json.specs.Value.{value_view, members_view}
use Rattle.json.proofs.Trees.{view-Object}
use Rattle.serde_json.specs.Data.{Data, object, no_members}
use Rattle.serde_json.specs.Read.{of_json, of_members}
use Rattle.call_lines.specs.Asked.{call_of, need}
use Rattle.call_lines.specs.Lent.{asked_of}
use Rattle.call_lines.specs.Plain.{Named}
use Rattle.call_lines.proofs.plain_line.value_call.Goals as goal

pub returns-in-Object : goal.returns-in-Object
returns-in-Object c =
    let read : of_json (value_view c.args.value.now) ≡ option_map object (of_members (members_view c.deref.result.now) no_members) =
    ap of_json (ap value_view c.in-Object.is ∙ view-Object c.in-Object.members)
    ∙ ap (λ (ms : List Named). option_map object (of_members (members_view ms) no_members)) (sym c.deref.ensures.value) in
    subst (λ (o : Option Data). IfOk c.members_call.result (λ found. IfSome found (λ asked. need o (codes "line") call_of ≡ Ok (asked_of asked))))
    (sym read) c.members_call.ensures
