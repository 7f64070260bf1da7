use Rattle.std.proofs.Common.{◌≡◌, length, vec_len, sym, arith, rules}
use Rattle.board.proofs.Counts.{slice_index-filled}
use Rattle.board.proofs.lengths.room_for_lengths.Goals as goal

pub returns-in_ok-resize-clause-same : goal.returns-in_ok-resize-clause-same
returns-in_ok-resize-clause-same c bytes =
    let len : length c.args.counts.now.items ≡ vec_len c.args.counts.now = search rules in
    rw (c.in_ok-resize.ensures.items, sym len) (slice_index-filled c.args.counts.now.items 255 bytes (omega arith))
