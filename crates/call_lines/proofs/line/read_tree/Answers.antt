use Rattle.std.proofs.Common.{sym, ◌∙◌}
use Rattle.serde_json.specs.Errors.{IsMemory}
use Rattle.call_lines.proofs.AskedLines.{UnlessMemory-along, data_of-text, line_of-data, line_of-none, refute}
use Rattle.call_lines.proofs.line.read_tree.Goals as goal

pub returns-in-Ok : goal.returns-in-Ok
returns-in-Ok c = UnlessMemory-along _ (sym (line_of-data _ _ (data_of-text _ c.utf8.text ∙ c.in-Ok.ensures.ok))) c.call_of.ensures

pub returns-else-is_memory : goal.returns-else-is_memory
returns-else-is_memory c =
    let not_memory = λ (memory : IsMemory c.in-Err.e). refute c.is_memory.result (c.is_memory.ensures.1 memory) c.if-is_memory.false in
    UnlessMemory-along _ (sym (line_of-none _ (data_of-text _ c.utf8.text ∙ c.in-Err.ensures.err not_memory))) c.misses.ensures
