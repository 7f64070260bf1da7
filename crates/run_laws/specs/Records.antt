-- The records of an import do as lines that ask for their creates.
use Rattle.std.specs.Prelude.{◌≡◌, ℕ, List, [], ◌∷◌, Ok}
use Rattle.call_lines.specs.Asked.{line_of}
use Rattle.tracker_calls.specs.declared.call.Call.{Call}
use Rattle.tracker_machine.specs.Machine.{Machine}
use Rattle.tracker_runs.specs.Run.{IsRun}
use Rattle.tracker_import.specs.Calls.{AreMade}

-- each line asks for the call in its place, by the user
abbrev pub AskForEach : List ℕ → List Call → List (List ℕ) → Type 0
AskForEach user [] [] = Unit {0}
AskForEach user (c ∷ calls) (line ∷ lines) =
    (line_of line ≡ Ok (user, c)) × AskForEach user calls lines
AskForEach user _ _ = ⊥

-- calls of an import that are answered by a text, and lead to a tracker, are so as lines of `exec` too: the same bytes, the same
-- tracker, and as many faults of the keeper
abbrev pub RecordsDoAsLines : Type 0
RecordsDoAsLines =
    (user : List ℕ) (old new : Machine) (calls : List Call) (lines : List (List ℕ))
    (text : List ℕ) (failures : ℕ) → AskForEach user calls lines
    → AreMade user old calls text new failures → IsRun old lines text new failures
