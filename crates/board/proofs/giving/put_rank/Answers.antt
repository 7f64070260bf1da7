use Rattle.std.proofs.Common.{◌≡◌, Some, length, set, vec_len, ap, ◌∙◌, rules, arith}
use Rattle.std.specs.Option.{option_copied}
use Rattle.board.specs.Order.{rank_in}
use Rattle.board.specs.Table.{pairs_by}
use Rattle.board.proofs.Counts.{times_long-le}
use Rattle.board.proofs.Tabled.{length-pairs}
use Rattle.board.proofs.Ranked.{counted_if, pairs_after, kept_after}
use Rattle.board.proofs.giving.put_rank.Goals as goal

pub recount-requires-clause-counted : goal.recount-requires-clause-counted
recount-requires-clause-counted c =
    let t = c.args.ranks.now in
    let ps = pairs_by t c.args.issues.now.items in
    counted_if ps c.args.issue.0 c.args.counts.now (option_copied c.rank_by.result) c.requires.kept.order c.requires.kept.counted (c.rank_by.ensures ∙ c.requires.kept.table c.args.issue.0)

pub recount-requires-clause-fits : goal.recount-requires-clause-fits
recount-requires-clause-fits c n =
    let t = c.args.ranks.now in
    let v = c.args.issues.now in
    let le = times_long-le (pairs_by t v.items) n in
    let many = length-pairs t v.items in
    let counted = c.requires.kept.counted n in
    let len : length v.items ≡ vec_len v = search rules in
    omega (arith, le, many, counted, len)

pub returns-clause-pairs : goal.returns-clause-pairs
returns-clause-pairs c =
    let t = c.args.ranks.now in
    let is = c.args.issues.now.items in
    ap (pairs_by (set t c.args.issue.0 (Some c.args.rank))) c.put_issue-place.ensures.issues
    ∙ pairs_after t is c.args.issue c.requires.kept.order c.requires.kept.table c.args.rank c.length_of-bytes.ensures.is_rank c.requires.free c.requires.number c.put_issue-place.result c.put_issue-place.ensures.fits

pub returns-clause-kept : goal.returns-clause-kept
returns-clause-kept c =
    let t = c.args.ranks.now in
    let is = c.args.issues.now.items in
    let ps = pairs_by t is in
    let was : option_copied c.rank_by.result ≡ rank_in ps c.args.issue.0 = c.rank_by.ensures ∙ c.requires.kept.table c.args.issue.0 in
    let bytes = c.length_of-bytes.ensures.length in
    let after = rw (was, bytes) at c.recount.ensures in
    let same : length c.recount.new.counts ≡ length c.args.counts.now = c.recount.auto.counts in
    kept_after t is c.args.issue c.requires.kept.order c.requires.kept.table c.args.rank c.length_of-bytes.ensures.is_rank c.requires.free c.requires.number c.put_issue-place.result c.put_issue-place.ensures.fits
    c.put_issue-place.new.issues.items c.args.counts.now c.recount.new.counts c.put_issue-place.new.issues.cap c.put_issue-place.ensures.issues c.requires.kept.counted after
    (λ some. omega (arith, same, c.requires.kept.all_lengths (omega (arith, c.requires.number))))
    (omega (arith, c.requires.kept.enough, c.put_issue-place.ensures.capacity))
