use Rattle.std.proofs.Common.{◌≤◌, ◌-◌, [], length}
use Rattle.std.specs.Io.KnownBytes.{Consumes, prepend_known}
use Rattle.tracker_http.specs.Held.{Grew}
use Rattle.tracker_http.proofs.held.hold_all.Given as goal

abbrev pub invariant-more : goal.invariant-more
invariant-more g l = record {
  same : Consumes (prepend_known l.fn.held.items (g.S.Source.left l.fn.source)) (prepend_known l.held.items (g.S.Source.left l.source)) [];
  grew : Grew l.fn.held.items l.held.items;
  later : g.S.Source.faults l.fn.source ≤ g.S.Source.faults l.source;
}

abbrev pub decreases-more : goal.decreases-more
decreases-more g l = l.wanted - length l.held.items
