use Rattle.std.proofs.Common.{ap, sym, ◌∙◌}
use Rattle.std.specs.Prelude.{option_and_then}
use Rattle.serde_json.specs.Errors.{IsMemory}
use Rattle.serde_json.specs.Find.{as_object}
use Rattle.call_lines.proofs.AskedLines.{data_of-text, refute}
use Rattle.call_lines.proofs.body.members_of.Goals as goal

pub returns-in-Ok : goal.returns-in-Ok
returns-in-Ok c = c.object_of.ensures ∙ sym (ap (option_and_then as_object) (data_of-text _ c.utf8.text ∙ c.in-Ok.ensures.ok))

pub returns-else-is_memory : goal.returns-else-is_memory
returns-else-is_memory c =
    let not_memory = λ (memory : IsMemory c.in-Err.e). refute c.is_memory.result (c.is_memory.ensures.1 memory) c.if-is_memory.false in
    sym (ap (option_and_then as_object) (data_of-text _ c.utf8.text ∙ c.in-Err.ensures.err not_memory))
