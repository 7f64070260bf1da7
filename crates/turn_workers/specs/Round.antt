-- What contracts see of a round.
use Rattle.std.specs.Prelude.{◌+◌, ℕ, zero, suc, List, [], ◌∷◌}
use Rattle.desk_turn.specs.declared.entry.Entry.{Entry}
use Rattle.desk_turn.specs.declared.kept.Kept.{Ghosts}
use Rattle.desk_turn.specs.declared.pass.Pass.{Pass}
use Rattle.desk_turn.specs.Passes.{caller_of, own, listed}
use Rattle.turn_workers.specs.declared.ended.Ended.{Ended}

-- so many numbers from this one on
abbrev pub numbers_from : ℕ → ℕ → List ℕ
numbers_from n zero = []
numbers_from n (suc count) = n ∷ numbers_from (1 + n) count

module _ {V A T O S : Type 0} {G : Ghosts V A T O S} where
  -- the number and the calls of a pass
  abbrev pub owned : Pass V A T O S G → ℕ × List (Entry A T)
  owned pass = (caller_of pass, own pass)

  -- the number and the calls of a worker that has ended
  abbrev pub signed : Ended V A T O S G → ℕ × List (Entry A T)
  signed ended = (ended.caller, listed ended.receipt)
