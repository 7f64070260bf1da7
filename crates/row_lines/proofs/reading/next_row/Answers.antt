use Rattle.std.proofs.Common.{subst, All}
use Rattle.std.proofs.lemmas.Bool.{false≢true}
use Rattle.tracker_keeper.specs.Rows.{IsBelow}
use Rattle.row_lines.proofs.Told.{one_row}
use Rattle.row_lines.proofs.reading.next_row.Goals as goal

pub returns-else-is_behind : goal.returns-else-is_behind
returns-else-is_behind c row is all =
    let same = one_row c.args.line.now row c.in-Ok-Some.row is (rw c.in-Ok-Some.field-0-is at c.in-Ok-Some.ensures) in
    false≢true (c.if-is_behind.ensures.1 (subst (λ r. All (λ before. IsBelow before r) c.args.rows.now) same all))

pub returns-in-Ok-None : goal.returns-in-Ok-None
returns-in-Ok-None c row is all = (rw c.in-Ok-None.field-0-is at c.in-Ok-None.ensures) row is
