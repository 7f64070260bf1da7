use Rattle.std.proofs.Common.{◌≡◌, Ok, IfOk, IfSome, Some, subst, ap, sym, ◌∙◌}
use Rattle.json.specs.Json.{value}
use Rattle.json.specs.Lex.{tokens}
use Rattle.json.specs.Value.{value_view}
use Rattle.call_lines.specs.Asked.{Asked}
use Rattle.call_lines.specs.Lent.{asked_of}
use Rattle.call_lines.proofs.PlainLines.{line_read}
use Rattle.call_lines.proofs.plain_line.plain_line.Goals as goal

pub returns-in-Ok-read : goal.returns-in-Ok-read
returns-in-Ok-read c =
    let is : value 127 (tokens c.args.text.now) ≡ Some (value_view c.in-Ok-read.value, c.read.new.reader) =
    ap (value 127) (sym c.in-Ok.ensures.ok) ∙ c.in-Ok-read.ensures.ok in
    subst (λ (e : Asked). IfOk c.last_value_call.result (λ found. IfSome found (λ asked. e ≡ Ok (asked_of asked))))
    (line_read _ _ _ c.utf8.text is) c.last_value_call.ensures
