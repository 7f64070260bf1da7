use Rattle.row_lines.proofs.Told.{none_behind, told_next}
use Rattle.row_lines.proofs.reading.read_rows.Goals as goal

pub returns-in_default-found-clause-fault : goal.returns-in_default-found-clause-fault
returns-in_default-found-clause-fault c =
    none_behind c.args.bytes.now c.loop-rest.rest.now c.cut.result.0.now c.cut.result.1.now c.loop-rest.rows.items c.as_slice-told.result.now c.in-Ok.found _ c.number_behind.result
    c.loop-rest.invariant c.cut.ensures.lines c.as_slice-told.ensures.value c.in-Ok.ensures c.in_default-found.is c.number_behind.ensures

pub loop-rest-preserved : goal.loop-rest-preserved
loop-rest-preserved c =
    told_next c.args.bytes.now c.loop-rest.rest.now c.cut.result.0.now c.cut.result.1.now c.loop-rest.rows.items c.as_slice-told.result.now c.push.new.self.items c.in-Some.row
    c.loop-rest.invariant c.cut.ensures.lines c.as_slice-told.ensures.value (rw c.in-Some.is at c.in-Ok.ensures) c.in-Ok-push.ensures.items
