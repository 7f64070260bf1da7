use Rattle.std.proofs.Common.{◌≡◌, length, vec_len, rules, arith}
use Rattle.board.proofs.Kept.{kept_with_room}
use Rattle.board.proofs.order.Order.reserve.Goals as goal

pub invariant_of-self : goal.invariant_of-self
invariant_of-self c =
    let room = c.room_for_issues in
    let old = c.self.inside in
    let was : length old.ranks.items ≡ vec_len old.ranks = search rules in
    let is : length room.new.ranks.items ≡ vec_len room.new.ranks = search rules in
    let counted : length old.counts.items ≡ vec_len old.counts = search rules in
    let counts : length room.new.counts.items ≡ vec_len room.new.counts = search rules in
    rw room.ensures.issues
    (kept_with_room old.issues.items old.ranks.items room.new.ranks.items old.counts.items room.new.counts.items old.issues.cap room.new.issues.cap
    c.self.invariant room.ensures.ranks room.ensures.counts
    (omega (arith, was, is, room.ensures.more_ranks)) (omega (arith, counted, counts, room.ensures.more_counts)) room.ensures.more_slots
    (λ more. omega (arith, counts, room.ensures.all_lengths (omega (arith, was, is, more))))
    (λ more. omega (arith, is, room.ensures.enough (omega (arith, was, is, more)))))
