use Rattle.std.proofs.Common.{Some, ap, sym, ◌∙◌}
use Rattle.tracker_http.proofs.Texts.{utf8_text-text, utf8_text-none}
use Rattle.tracker_http.proofs.named.utf8_text.Goals as goal

pub returns-in-Ok : goal.returns-in-Ok
returns-in-Ok c = ap Some c.in-Ok.ensures.cases.0 ∙ sym (utf8_text-text _ c.in-Ok.ensures.cases.1)

pub returns-in-Err : goal.returns-in-Err
returns-in-Err c = sym (utf8_text-none _ c.in-Err.ensures.cases.0)
