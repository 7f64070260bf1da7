use Rattle.std.proofs.Common.{string_bytes}
use Rattle.tracker_keeper.proofs.PresentText.{left_is}
use Rattle.tracker_keeper.proofs.written.push_present.Goals as goal

pub returns : goal.returns
returns c =
    let args = c.args in
    let begun = c.in_ok-push_str.ensures.bytes in
    let balanced = c.in_ok-push_balance.ensures in
    let left = left_is args.balance args.change args.format args.moment (string_bytes args.text.now) (string_bytes c.push_str.new.self) (string_bytes c.push_balance.new.text) begun balanced in
    rw (left, ← c.number-format.ensures, ← c.seconds-moment.ensures) c.write.ensures.bytes
