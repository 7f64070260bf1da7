use Rattle.std.proofs.Common.{◌≤◌, length}
use Rattle.std.specs.Prelude.{◌<◌}
use Rattle.std.specs.Io.KnownBytes.{Consumes}
use Rattle.request_lines.proofs.whole_input.read_whole.Given as goal

abbrev pub invariant-loop-count : goal.invariant-loop-count
invariant-loop-count g l = record {
  count : l._count ≤ length l.bytes.items;
  within : length l.bytes.items ≤ l.fn.most;
  room : 0 < length l.room.items;
  taken : Consumes (g.S.Source.left l.fn.source) (g.S.Source.left l.source) l.bytes.items;
  later : g.S.Source.faults l.fn.source ≤ g.S.Source.faults l.source;
}
