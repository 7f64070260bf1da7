use Rattle.std.proofs.Common.{inl, inr}
use Rattle.tracker_cli.proofs.Outcomes.{at_end, long_told, many_told, long_cut, many_cut, bad_front}
use Rattle.tracker_cli.proofs.lines.run_lines.Goals as goal

pub returns-in-Ok-clause-limit : goal.returns-in-Ok-clause-limit
returns-in-Ok-clause-limit g c = λ _. long_told _ _ _ _ _ (at_end _ _ _ _ _ _ _ _ c.in-Ok-LongLine-default.field-0-0-is c.in-Ok-LongLine-default.ensures.run) c.in-Ok.ensures.bytes

pub returns-in-Err-clause-written : goal.returns-in-Err-clause-written
returns-in-Err-clause-written g c = λ _. inl (long_cut _ _ _ _ _ _ (at_end _ _ _ _ _ _ _ _ c.in-Ok-LongLine-default.field-0-0-is c.in-Ok-LongLine-default.ensures.run) c.in-Err.ensures.bytes)

pub returns-in-Ok-write_all-clause-limit : goal.returns-in-Ok-write_all-clause-limit
returns-in-Ok-write_all-clause-limit g c = λ _. many_told _ _ _ _ _ (at_end _ _ _ _ _ _ _ _ c.in-Ok-ManyLines-default.field-0-0-is c.in-Ok-ManyLines-default.ensures.run) c.in-Ok-write_all.ensures.bytes

pub returns-in-Err-write_all-clause-written : goal.returns-in-Err-write_all-clause-written
returns-in-Err-write_all-clause-written g c = λ _. inl (many_cut _ _ _ _ _ _ (at_end _ _ _ _ _ _ _ _ c.in-Ok-ManyLines-default.field-0-0-is c.in-Ok-ManyLines-default.ensures.run) c.in-Err-write_all.ensures.bytes)

pub returns-in-Err-BadRow-default-clause-written : goal.returns-in-Err-BadRow-default-clause-written
returns-in-Err-BadRow-default-clause-written g c = λ is.
    let bad = c.in-Err-BadRow-default in
    inr (bad_front _ bad.field-0-0 bad.kind bad.no _ _ _ bad.ensures.fault bad.field-0-0-is bad.ensures.unwritten (c.tell_row.ensures.written is), bad.ensures.same)
