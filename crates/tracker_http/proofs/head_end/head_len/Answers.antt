use Rattle.std.proofs.Common.{sym, ◌∙◌}
use Rattle.tracker_http.proofs.PlacesLemmas.{ends_here, never_ends}
use Rattle.tracker_http.proofs.head_end.head_len.Goals as goal

pub returns-in_default : goal.returns-in_default
returns-in_default c = ends_here c.loop-at.place c.args.bytes.now c.loop-at.at c.loop-at-test.true (sym c.next_place.ensures ∙ c.in_default.is) c.loop-at.invariant

pub returns : goal.returns
returns c = never_ends c.loop-at.place c.args.bytes.now c.loop-at.at c.loop-at-test.false c.loop-at.invariant
