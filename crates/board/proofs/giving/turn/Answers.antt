use Rattle.std.proofs.Common.{◌≡◌, ◌+◌, ◌-◌, length, take, drop, arith}
use Rattle.std.proofs.lemmas.List.{length-take, length-drop}
use Rattle.board.specs.Table.{nothing}
use Rattle.board.proofs.Rotations.{put_mid-rotate_left, put_mid-rotate_right}
use Rattle.board.proofs.giving.turn.Goals as goal

pub returns-then-from-to : goal.returns-then-from-to
returns-then-from-to c =
    rw c.rotate_left.ensures.after (put_mid-rotate_left c.args.issues.now c.args.from c.args.to (c.args.to + 1 - c.args.from) nothing.1 (omega arith) (omega arith) (omega arith))

pub returns-else-from-to : goal.returns-else-from-to
returns-else-from-to c =
    let whole : length (take (c.args.from + 1 - c.args.to) (drop c.args.to c.args.issues.now)) ≡ c.args.from + 1 - c.args.to = simp (length-take, length-drop) (omega arith) in
    rw (c.rotate_right.ensures.after, whole) (put_mid-rotate_right c.args.issues.now c.args.from c.args.to (c.args.from + 1 - c.args.to) nothing.1 (omega arith) (omega arith) (omega arith))
