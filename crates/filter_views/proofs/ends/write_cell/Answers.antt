use Rattle.std.proofs.Common.{arith}
use Rattle.filter_views.proofs.AllRows.{agree_alike}
use Rattle.filter_views.proofs.Seen.{length_sized, filter_at_sized, width_sized}
use Rattle.filter_views.proofs.Calls.{writes_cell}
use Rattle.filter_views.proofs.ends.write_cell.Goals as goal

pub put_end-requires-clause-agree : goal.put_end-requires-clause-agree
put_end-requires-clause-agree c =
    let t = c.set_truth.ensures in
    let rs = c.args.rows.now in
    let ss = c.set_truth.new.rows in
    agree_alike c.args.heap.now.items rs ss (length_sized rs ss t.same) (filter_at_sized rs ss t.same) t.places c.requires.agree

pub put_end-requires-clause-there : goal.put_end-requires-clause-there
put_end-requires-clause-there c =
    let width = width_sized c.args.rows.now c.set_truth.new.rows c.set_truth.ensures.same c.args.filter.0 in
    (c.requires.there.0, omega (arith, c.requires.there.1, width))

pub put_end-requires-clause-room : goal.put_end-requires-clause-room
put_end-requires-clause-room c = λ none. c.requires.room (omega (arith, none, c.set_truth.ensures.places c.args.filter.0 c.args.issue.0))

pub returns-clause-written : goal.returns-clause-written
returns-clause-written c = writes_cell _ _ _ _ _ _ _ _ _ c.set_truth.ensures c.put_end.ensures.put
