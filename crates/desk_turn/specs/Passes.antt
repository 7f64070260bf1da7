-- What contracts see of a turn, its passes and its receipts.
use Rattle.std.specs.Prelude.{◌≡◌, ℕ, List}
use Rattle.desk_turn.specs.declared.entry.Entry.{Entry}
use Rattle.desk_turn.specs.declared.kept.Kept.{Ghosts}
use Rattle.desk_turn.specs.declared.pass.Pass.{Pass}
use Rattle.desk_turn.specs.declared.receipt.Receipt.{Receipt}
use Rattle.desk_turn.specs.declared.turn.Turn.{Turn}

module _ {V A T O S : Type 0} where
  -- the value with which the turn was opened
  abbrev pub opened_with : Turn V A T O S → V
  opened_with turn = turn.table.shared.key.value.value

module _ {V A T O S : Type 0} {G : Ghosts V A T O S} where
  -- it is a pass of this turn
  abbrev pub IsPassOf : Turn V A T O S → Pass V A T O S G → Type 0
  IsPassOf turn pass = pass.seat.table_id ≡ turn.table.shared.table_id

  -- its caller number
  abbrev pub caller_of : Pass V A T O S G → ℕ
  caller_of pass = pass.caller

  -- how many calls it may still make
  abbrev pub left_of : Pass V A T O S G → ℕ
  left_of pass = pass.left

  -- how many passes were split from it, which is the last number that was given out
  abbrev pub made_of : Pass V A T O S G → ℕ
  made_of pass = pass.made

  -- how many of these are not yet joined
  abbrev pub out_of : Pass V A T O S G → ℕ
  out_of pass = pass.out

  -- the history, as far as the pass has seen it
  abbrev pub seen : Pass V A T O S G → List (Entry A T)
  seen pass = pass.seat.me.0.seen

  -- the calls that were made with it and entered
  abbrev pub own : Pass V A T O S G → List (Entry A T)
  own pass = pass.seat.me.0.mine

  -- each joined pass's number and calls
  abbrev pub lists : Pass V A T O S G → List (ℕ × List (Entry A T))
  lists pass = pass.seat.me.0.joined

  -- the calls that the receipt lists
  abbrev pub listed : Receipt V A T O S G → List (Entry A T)
  listed receipt = receipt.seat.me.0.noted
