use Rattle.std.proofs.Common.{◌∙◌, ◌≤◌, length, arith, sym}
use Rattle.issue_csv.proofs.Readings.{short_text, text_with, text_without}
use Rattle.issue_csv.proofs.csv_records.text_len.Goals as goal

pub returns-then-bytes-lt3-clause-text : goal.returns-then-bytes-lt3-clause-text
returns-then-bytes-lt3-clause-text c = short_text c.args.bytes.now c.if-bytes-lt3.true

pub returns-then-is_mark-clause-text : goal.returns-then-is_mark-clause-text
returns-then-is_mark-clause-text c =
    let long : 3 ≤ length c.args.bytes.now = omega (arith, c.if-bytes-lt3.false) in
    text_with c.args.bytes.now long (sym c.is_mark.ensures ∙ c.if-is_mark.true)

pub returns-clause-text : goal.returns-clause-text
returns-clause-text c =
    let long : 3 ≤ length c.args.bytes.now = omega (arith, c.if-bytes-lt3.false) in
    text_without c.args.bytes.now long (sym c.is_mark.ensures ∙ c.if-is_mark.false)
