use Rattle.std.proofs.Common.{ap, sym, ◌∙◌}
use Rattle.std.specs.List.{list_all}
use Rattle.json.specs.Value.{value_view}
use Rattle.call_lines.specs.Plain.{Named, is_plain, is_text}
use Rattle.call_lines.proofs.PlainLines.{object_is_plain}
use Rattle.call_lines.proofs.plain_line.is_plain.Goals as goal

pub returns-in-Object : goal.returns-in-Object
returns-in-Object c = λ holds.
    ap (λ v. is_plain (value_view v)) c.in-Object.is
    ∙ object_is_plain c.in-Object.members
    (ap (list_all (λ (m : Named). is_text m.1)) (sym c.deref.ensures.value) ∙ (sym c.are_texts.ensures ∙ holds))
