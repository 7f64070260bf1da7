use Rattle.std.proofs.Common.{arith, subst}
use Rattle.issue_csv.specs.Reader.{HandsOut, TellsFault}
use Rattle.tracker_import.proofs.CallByCall.{so_far_none, so_far_more, cut_so_far, begun_so_far, ends_done, ends_bad}
use Rattle.tracker_import.proofs.import.import_each.Goals as goal

pub calls-init : goal.calls-init
calls-init g c = record { so_far = λ batch is. so_far_none _ _ _ _ _ batch _ _ is; write_later = omega arith }

pub calls-preserved : goal.calls-preserved
calls-preserved g c = record {
  so_far = λ batch is.
      so_far_more _ _ _ _ _ _ _ batch _ _ _ _ _ _ _ (c.calls.invariant.so_far batch is)
      (subst (λ o. HandsOut c.calls.reader o c.next_call.new.self) c.in-Ok-Some.field-0-is c.in-Ok-Some.ensures.ok) c.in-Ok.ensures.run;
  write_later = omega (arith, c.calls.invariant.write_later, c.answer_call.ensures.later);
}

pub returns-in-Err-Write-clause-run : goal.returns-in-Err-Write-clause-run
returns-in-Err-Write-clause-run g c = λ batch is.
    cut_so_far _ _ _ _ _ _ _ batch _ _ _ _ _ _ _ (c.calls.invariant.so_far batch is)
    (subst (λ o. HandsOut c.calls.reader o c.next_call.new.self) c.in-Ok-Some.field-0-is c.in-Ok-Some.ensures.ok) c.in-Err-Write.ensures.run

pub returns-in-Err-Memory-answer_call-clause-run : goal.returns-in-Err-Memory-answer_call-clause-run
returns-in-Err-Memory-answer_call-clause-run g c = λ batch is.
    cut_so_far _ _ _ _ _ _ _ batch _ _ _ _ _ _ _ (c.calls.invariant.so_far batch is)
    (subst (λ o. HandsOut c.calls.reader o c.next_call.new.self) c.in-Ok-Some.field-0-is c.in-Ok-Some.ensures.ok) c.in-Err-Memory-answer_call.ensures.run

pub returns-in-Ok-None-clause-run : goal.returns-in-Ok-None-clause-run
returns-in-Ok-None-clause-run g c = λ batch is.
    ends_done _ _ _ _ _ _ batch _ _ _ _ (c.calls.invariant.so_far batch is)
    (subst (λ o. HandsOut c.calls.reader o c.next_call.new.self) c.in-Ok-None.field-0-is c.in-Ok-None.ensures.ok)

pub returns-in-Err-BadRecord-clause-run : goal.returns-in-Err-BadRecord-clause-run
returns-in-Err-BadRecord-clause-run g c = λ batch is.
    rw c.in-Err-BadRecord.number-is
    (ends_bad _ _ _ _ _ _ batch _ _ _ _ _ (c.calls.invariant.so_far batch is)
    (subst (λ f. TellsFault c.calls.reader f c.next_call.new.self) c.in-Err-BadRecord.field-0-is c.in-Err-BadRecord.ensures.err))

pub returns-in-Err-Memory-clause-run : goal.returns-in-Err-Memory-clause-run
returns-in-Err-Memory-clause-run g c = λ batch is. begun_so_far _ _ _ _ _ _ batch _ _ _ (c.calls.invariant.so_far batch is)
