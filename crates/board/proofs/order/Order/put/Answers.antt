use Rattle.std.proofs.Common.{◌≡◌, length, vec_len, rules, arith}
use Rattle.board.proofs.Viewed.{number_fits, room_fits}
use Rattle.board.proofs.order.Order.put.Goals as goal

pub put_rank-requires-clause-room : goal.put_rank-requires-clause-room
put_rank-requires-clause-room c none =
    let t = c.self.inside.ranks.items in
    let is = c.self.inside.issues.items in
    let room = rw (← c.self.view_is) at c.requires.room in
    let many : vec_len c.self.inside.ranks ≡ length t = search rules in
    let len : length is ≡ vec_len c.self.inside.issues = search rules in
    let absent = rw c.deref_mut.ensures.value at none in
    let fits = room_fits t is c.args.issue.0 (vec_len c.self.inside.ranks) c.self.inside.issues.cap many c.self.invariant.enough room absent in
    omega (arith, len, fits)

pub put_rank-requires-clause-number : goal.put_rank-requires-clause-number
put_rank-requires-clause-number c =
    let t = c.self.inside.ranks.items in
    let room = rw (← c.self.view_is) at c.requires.room in
    let many : vec_len c.self.inside.ranks ≡ length t = search rules in
    rw c.deref_mut.ensures.value (number_fits t c.self.inside.issues.items c.args.issue.0 (vec_len c.self.inside.ranks) c.self.invariant.table many room)
