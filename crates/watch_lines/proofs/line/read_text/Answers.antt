use Rattle.std.proofs.Common.{sym, subst, ◌∙◌}
use Rattle.serde_json.specs.Errors.{IsMemory}
use Rattle.call_lines.proofs.AskedLines.{data_of-text, refute}
use Rattle.watch_lines.specs.Asked.{AskedWatch, AsksWatch}
use Rattle.watch_lines.proofs.Lines.{watch_line-data, watch_line-none}
use Rattle.watch_lines.proofs.line.read_text.Goals as goal

pub returns-in-Ok : goal.returns-in-Ok
returns-in-Ok c = subst (AsksWatch c.watch_in.result) (sym (watch_line-data _ _ (data_of-text _ c.utf8.text ∙ c.in-Ok.ensures.ok))) c.watch_in.ensures

pub returns-else-is_memory : goal.returns-else-is_memory
returns-else-is_memory c =
    let not_memory = λ (memory : IsMemory c.in-Err.e). refute c.is_memory.result (c.is_memory.ensures.1 memory) c.if-is_memory.false in
    watch_line-none _ (data_of-text _ c.utf8.text ∙ c.in-Err.ensures.err not_memory)
