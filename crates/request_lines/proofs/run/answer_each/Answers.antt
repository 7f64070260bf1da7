use Rattle.std.proofs.Common.{arith, refl}
use Rattle.request_lines.proofs.InTurn.{all_sent, begun, cut_here, cut_last_at, cut_line_at, finished, last_finished, one_more, still, within_more}
use Rattle.request_lines.proofs.Progress.{ends_done, ends_memory, ends_read_fault, ends_long, ends_many, within_none, within_part}
use Rattle.request_lines.proofs.run.answer_each.Goals as goal

pub loop-count-init : goal.loop-count-init
loop-count-init g c = record {
  so_far = rw c.requires.unread (begun g.R.Responder.answers c.args.responder.now (g.S.Source.left c.args.input.now) (g.T.Sink.taken c.args.out.now) c.args.waiting.now.items c.requires.none);
  read_later = omega arith;
  write_later = omega arith;
}

pub returns-in-Err-clause-run : goal.returns-in-Err-clause-run
returns-in-Err-clause-run g c = cut_here _ _ _ _ _ _ _ _ _ _ _ c.loop-count.invariant.so_far (omega arith) c.in-Err.ensures.bytes

pub returns-in-Err-Write-clause-run : goal.returns-in-Err-Write-clause-run
returns-in-Err-Write-clause-run g c =
    let so_far = still _ _ _ _ _ _ _ _ _ _ _ c.loop-count.invariant.so_far c.in-Ok.ensures.bytes in
    let taken = c.in-Line.ensures.bytes in
    let cut = rw c.deref.ensures.value at c.in-Err-Write.ensures.err in
    cut_line_at _ _ _ _ _ _ _ _ _ _ c.next_line.new.self _ _ _ so_far taken.0 taken.1 (λ rest. cut _ so_far.done rest _ so_far.answered (within_more _ _ _ _ _ _ _ _ _ _ so_far (omega arith) taken.0))

pub returns-in-Err-Memory-clause-run : goal.returns-in-Err-Memory-clause-run
returns-in-Err-Memory-clause-run g c =
    let so_far = still _ _ _ _ _ _ _ _ _ _ _ c.loop-count.invariant.so_far c.in-Ok.ensures.bytes in
    let taken = c.in-Line.ensures.bytes in
    let cut = rw c.deref.ensures.value at c.in-Err-Memory.ensures.err in
    cut_line_at _ _ _ _ _ _ _ _ _ _ c.next_line.new.self _ _ _ so_far taken.0 taken.1 (λ rest. cut _ so_far.done rest _ so_far.answered (within_more _ _ _ _ _ _ _ _ _ _ so_far (omega arith) taken.0))

pub loop-count-preserved : goal.loop-count-preserved
loop-count-preserved g c =
    let before = c.loop-count.invariant in
    let so_far = still _ _ _ _ _ _ _ _ _ _ _ c.loop-count.invariant.so_far c.in-Ok.ensures.bytes in
    let taken = c.in-Line.ensures.bytes in
    let answered = rw c.deref.ensures.value at c.in-Ok-answer_line.ensures.ok in
    record {
      so_far = one_more _ _ _ _ _ _ _ _ _ _ _ _ _ _ so_far taken.0 taken.1 (answered _ so_far.done _ so_far.answered);
      read_later = omega (arith, before.read_later, c.next_line.ensures.later);
      write_later = omega (arith, before.write_later, c.send_unless_line.ensures.cause.later, c.answer_line.ensures.later);
    }

pub returns-in-Ok-answer_line-2-clause-run : goal.returns-in-Ok-answer_line-2-clause-run
returns-in-Ok-answer_line-2-clause-run g c =
    let so_far = still _ _ _ _ _ _ _ _ _ _ _ c.loop-count.invariant.so_far c.in-Ok.ensures.bytes in
    let taken = c.in-Last.ensures.bytes in
    let answered = rw c.deref-in-Last.ensures.value at c.in-Ok-answer_line-2.ensures.ok in
    last_finished _ _ _ _ _ _ _ _ _ _ _ c.next_line.new.self _ _ _ _ _ so_far (omega arith) taken.0 taken.1 taken.2 taken.3 (answered _ so_far.done _ so_far.answered) c.finish.ensures.run

pub returns-in-Err-Write-answer_line-clause-run : goal.returns-in-Err-Write-answer_line-clause-run
returns-in-Err-Write-answer_line-clause-run g c =
    let so_far = still _ _ _ _ _ _ _ _ _ _ _ c.loop-count.invariant.so_far c.in-Ok.ensures.bytes in
    let taken = c.in-Last.ensures.bytes in
    let cut = rw c.deref-in-Last.ensures.value at c.in-Err-Write-answer_line.ensures.err in
    cut_last_at _ _ _ _ _ _ _ _ _ _ c.next_line.new.self _ _ _ so_far taken.0 taken.1 taken.2 taken.3 (λ rest. cut _ so_far.done rest _ so_far.answered (within_more _ _ _ _ _ _ _ _ _ _ so_far (omega arith) taken.0))

pub returns-in-Err-Memory-answer_line-clause-run : goal.returns-in-Err-Memory-answer_line-clause-run
returns-in-Err-Memory-answer_line-clause-run g c =
    let so_far = still _ _ _ _ _ _ _ _ _ _ _ c.loop-count.invariant.so_far c.in-Ok.ensures.bytes in
    let taken = c.in-Last.ensures.bytes in
    let cut = rw c.deref-in-Last.ensures.value at c.in-Err-Memory-answer_line.ensures.err in
    cut_last_at _ _ _ _ _ _ _ _ _ _ c.next_line.new.self _ _ _ so_far taken.0 taken.1 taken.2 taken.3 (λ rest. cut _ so_far.done rest _ so_far.answered (within_more _ _ _ _ _ _ _ _ _ _ so_far (omega arith) taken.0))

pub returns-in-End-clause-run : goal.returns-in-End-clause-run
returns-in-End-clause-run g c =
    let so_far = still _ _ _ _ _ _ _ _ _ _ _ c.loop-count.invariant.so_far c.in-Ok.ensures.bytes in
    let taken = c.in-End.ensures.bytes in
    finished _ _ _ _ _ _ _ _ _ c.next_line.new.self _ _ _ _ _ so_far (omega arith) taken.0 c.finish-in-End.ensures.run
    (λ sent. ends_done _ _ _ _ _ _ _ _ c.next_line.new.self _ sent (omega arith) taken.0 taken.1)

pub returns-in-TooLong-clause-run : goal.returns-in-TooLong-clause-run
returns-in-TooLong-clause-run g c =
    let so_far = still _ _ _ _ _ _ _ _ _ _ _ c.loop-count.invariant.so_far c.in-Ok.ensures.bytes in
    let taken = c.in-TooLong.ensures.bytes in
    finished _ _ _ _ _ _ _ _ _ c.next_line.new.self taken.0 _ _ _ _ so_far (omega arith) taken.3 c.finish-in-TooLong.ensures.run
    (λ sent. ends_long _ _ _ _ _ _ _ _ c.next_line.new.self taken.0 _ sent (omega arith) taken.1 taken.2 taken.3)

pub returns-in-Failed-clause-run : goal.returns-in-Failed-clause-run
returns-in-Failed-clause-run g c =
    let so_far = still _ _ _ _ _ _ _ _ _ _ _ c.loop-count.invariant.so_far c.in-Ok.ensures.bytes in
    let taken = c.in-Failed.ensures.bytes in
    finished _ _ _ _ _ _ _ _ _ c.next_line.new.self _ _ _ _ _ so_far (omega arith) taken.1 c.finish-in-Failed.ensures.run
    (λ sent. ends_read_fault _ _ _ _ _ _ _ _ c.next_line.new.self _ _ sent (within_part _ _ _ _ _ _ _ _ _ sent (omega arith) taken.0) (c.in-Failed.ensures.held refl) (taken.0).one taken.1)

pub returns-in-Memory-clause-run : goal.returns-in-Memory-clause-run
returns-in-Memory-clause-run g c =
    let so_far = still _ _ _ _ _ _ _ _ _ _ _ c.loop-count.invariant.so_far c.in-Ok.ensures.bytes in
    let taken = c.in-Memory.ensures.bytes in
    finished _ _ _ _ _ _ _ _ _ c.next_line.new.self taken.0 _ _ _ _ so_far (omega arith) taken.1 c.finish-in-Memory.ensures.run
    (λ sent. ends_memory _ _ _ _ _ _ _ _ c.next_line.new.self taken.0 _ sent (omega arith) taken.1)

pub returns-in-Err-send-clause-run : goal.returns-in-Err-send-clause-run
returns-in-Err-send-clause-run g c = cut_here _ _ _ _ _ _ _ _ _ _ _ c.loop-count.invariant.so_far (omega arith) c.in-Err-send.ensures.bytes

pub returns-in-Ok-false-clause-run : goal.returns-in-Ok-false-clause-run
returns-in-Ok-false-clause-run g c =
    let some = rw c.in-Ok-false.field-0-test at c.in-Ok-false.ensures.some in
    let sent = all_sent _ _ _ _ _ _ _ _ _ _ c.loop-count.invariant.so_far c.in-Ok-send.ensures.bytes in
    ends_done _ _ _ _ _ _ _ _ c.fill.new.self _ sent (omega arith) c.in-Ok-false.ensures.same some

pub returns-in-Ok-true-clause-run : goal.returns-in-Ok-true-clause-run
returns-in-Ok-true-clause-run g c =
    let some = rw c.in-Ok-true.field-0-test at c.in-Ok-true.ensures.some in
    let sent = all_sent _ _ _ _ _ _ _ _ _ _ c.loop-count.invariant.so_far c.in-Ok-send.ensures.bytes in
    ends_many _ _ _ _ _ _ _ _ c.fill.new.self _ sent (omega arith) some c.in-Ok-true.ensures.same

pub returns-in-Err-fill-clause-run : goal.returns-in-Err-fill-clause-run
returns-in-Err-fill-clause-run g c =
    let sent = all_sent _ _ _ _ _ _ _ _ _ _ c.loop-count.invariant.so_far c.in-Ok-send.ensures.bytes in
    ends_read_fault _ _ _ _ _ _ _ _ c.fill.new.self _ _ sent (within_none _ _ _ _ _ _ _ _ sent (omega arith)) c.in-Err-fill.ensures.failed tt c.in-Err-fill.ensures.same
