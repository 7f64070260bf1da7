use Rattle.std.proofs.Common.{◌≤◌, length}
use Rattle.std.specs.Io.KnownBytes.{Consumes, prepend_known}
use Rattle.request_lines.specs.Lines.{IsLine}
use Rattle.request_lines.proofs.reader.LineReader.next_line.Given as goal

abbrev pub invariant-loop-count : goal.invariant-loop-count
invariant-loop-count g l = record {
  count : l._count ≤ length l.line.items;
  line : IsLine l.line.items;
  taken : Consumes (prepend_known l.fn.self (g.S.Source.left l.fn.source)) (prepend_known l.self (g.S.Source.left l.source)) l.line.items;
  later : g.S.Source.faults l.fn.source ≤ g.S.Source.faults l.source;
}
