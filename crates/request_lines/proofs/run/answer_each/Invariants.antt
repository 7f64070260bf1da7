use Rattle.std.proofs.Common.{◌≤◌}
use Rattle.std.specs.Io.KnownBytes.{prepend_known}
use Rattle.request_lines.proofs.InTurn.{IsReadSoFar}
use Rattle.request_lines.proofs.run.answer_each.Given as goal

abbrev pub invariant-loop-count : goal.invariant-loop-count
invariant-loop-count g l = record {
  so_far : IsReadSoFar g.R.Responder.answers l.fn.responder (g.S.Source.left l.fn.input) (prepend_known l.reader (g.S.Source.left l.input)) (g.T.Sink.taken l.fn.out) (g.T.Sink.taken l.out) l.waiting.items l._count l.responder;
  read_later : g.S.Source.faults l.fn.input ≤ g.S.Source.faults l.input;
  write_later : g.T.Sink.faults l.fn.out ≤ g.T.Sink.faults l.out;
}
