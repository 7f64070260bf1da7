use Rattle.std.proofs.Common.{sym, ◌∙◌}
use Rattle.tracker_import.proofs.import.answer_call.Goals as goal

pub returns-clause-run : goal.returns-clause-run
returns-clause-run g c =
    let cut = c.in-Err.ensures.bytes in
    record {
      reply = c.make_call-reply.result;
      made = c.make_call-reply.ensures;
      written = (cut.0, cut.1, sym (c.deref.ensures.value ∙ c.in-Ok.ensures) ∙ cut.2, cut.3);
    }
