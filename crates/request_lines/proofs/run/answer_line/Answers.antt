use Rattle.request_lines.proofs.InTurn.{read_ok, read_cut, made_ok, made_cut, before_cut, no_memory}
use Rattle.request_lines.proofs.run.answer_line.Goals as goal

pub returns-in-Ok-clause-ok : goal.returns-in-Ok-clause-ok
returns-in-Ok-clause-ok g c = λ first all start one.
    let passes = rw c.deref.ensures.value at c.in-Ok.ensures.bytes in
    rw c.in-Ok-Answered.ensures.same (read_ok _ first _ all _ _ start _ _ _ _ one (rw c.in-Ok-Answered.field-0-is at c.in-Ok-Answered.ensures.looked) passes)

pub returns-in-Err-keep-clause-err : goal.returns-in-Err-keep-clause-err
returns-in-Err-keep-clause-err g c = λ first all rest start one within.
    let cut = rw c.deref.ensures.value at c.in-Err-keep.ensures.bytes in
    rw c.in-Ok-Answered.ensures.same (read_cut _ first _ all rest _ _ start _ _ _ one within (rw c.in-Ok-Answered.field-0-is at c.in-Ok-Answered.ensures.looked) cut)

pub returns-in-Ok-send-clause-ok : goal.returns-in-Ok-send-clause-ok
returns-in-Ok-send-clause-ok g c = λ first all start one.
    made_ok _ first _ _ all _ start _ _ _ _ _ _ one c.in-Ok-send.ensures.bytes c.in-Ok-send.ensures.none (rw c.in-Ok-Asks.ensures.same at c.make.ensures.run _ (rw c.in-Ok-Asks.field-0-is at c.in-Ok-Asks.ensures.looked))

pub returns-in-Ok-send-clause-err : goal.returns-in-Ok-send-clause-err
returns-in-Ok-send-clause-err g c = λ first all rest start one within.
    made_cut _ first _ _ all rest _ start _ _ _ _ _ one within c.in-Ok-send.ensures.bytes (rw c.in-Ok-Asks.ensures.same at c.make.ensures.run _ (rw c.in-Ok-Asks.field-0-is at c.in-Ok-Asks.ensures.looked))

pub returns-in-Err-send-clause-err : goal.returns-in-Err-send-clause-err
returns-in-Err-send-clause-err g c = λ first all rest start one within.
    rw c.in-Ok-Asks.ensures.same (before_cut _ first _ all rest _ start _ _ _ one within c.in-Err-send.ensures.bytes)

pub returns-in-Ok-send-2-clause-err : goal.returns-in-Ok-send-2-clause-err
returns-in-Ok-send-2-clause-err g c = λ first all rest start one within.
    rw c.in-Err.ensures.same (no_memory _ first _ all rest _ start _ _ _ one within c.in-Ok-send-2.ensures.bytes)

pub returns-in-Err-send-2-clause-err : goal.returns-in-Err-send-2-clause-err
returns-in-Err-send-2-clause-err g c = λ first all rest start one within.
    rw c.in-Err.ensures.same (before_cut _ first _ all rest _ start _ _ _ one within c.in-Err-send-2.ensures.bytes)
