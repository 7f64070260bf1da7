use Rattle.std.proofs.Common.{◌≡◌, ℕ, ◌≤◌, List, ◌++◌, length}
use Rattle.std.specs.Io.KnownBytes.{Appends}
use Rattle.request_lines.proofs.write.write_all.Given as goal

abbrev pub invariant-loop-rest : goal.invariant-loop-rest
invariant-loop-rest g l = record {
  later : g.T.Sink.faults l.fn.out ≤ g.T.Sink.faults l.out;
  parts : (done : List ℕ) × (l.bytes ≡ done ++ l.rest) × Appends (g.T.Sink.taken l.fn.out) (g.T.Sink.taken l.out) done;
}

abbrev pub decreases-loop-rest : goal.decreases-loop-rest
decreases-loop-rest g l = length l.rest
