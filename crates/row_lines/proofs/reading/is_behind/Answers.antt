use Rattle.std.proofs.Common.{◌∙◌, sym, length}
use Rattle.row_lines.proofs.Behind.{behind_all, behind_last, some_length}
use Rattle.row_lines.proofs.reading.is_behind.Goals as goal

pub returns : goal.returns
returns c =
    let some = some_length (length c.args.rows.now) (sym c.is_empty.ensures ∙ c.if-is_empty.false) in (
      (λ yes. behind_all c.args.rows.now c.index-rows-rows.result c.args.row.now some c.index-rows-rows.is c.requires (c.is_below.ensures.0 yes)),
      (λ all. c.is_below.ensures.1 (behind_last c.args.rows.now c.index-rows-rows.result c.args.row.now some c.index-rows-rows.is all)),
    )
