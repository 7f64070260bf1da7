use Rattle.std.proofs.Common.{◌≡◌, length, arith}
use Rattle.move_feeds.specs.Changes.{lacking}
use Rattle.move_feeds.proofs.Lacking.{length-lacking}
use Rattle.move_feeds.proofs.feed.Feed.ready.Goals as goal

pub overflow_add-most : goal.overflow_add-most
overflow_add-most g c =
    let out : c.count_lacking.result ≡ length (lacking c.deref.result.now c.deref-2.result.now) = c.count_lacking.ensures in
    let come : c.count_lacking-2.result ≡ length (lacking c.deref-3.result.now c.deref-4.result.now) = c.count_lacking-2.ensures in
    omega (arith, out, come, length-lacking 1 c.deref.result.now c.deref-2.result.now, length-lacking 1 c.deref-3.result.now c.deref-4.result.now, c.deref.type_inv.1, c.deref-3.type_inv.1)
