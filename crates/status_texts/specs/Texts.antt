-- What commands write beside their replies, where a status tells something.
use Rattle.std.specs.Prelude.{ℕ, List, [], ◌∷◌, ◌++◌, Option, Some, None, codes, decimal}
use Rattle.setup_drafts.specs.declared.fault.SetupFault.{SetupFault}
use Rattle.setup_drafts.specs.Faults.{fault_kind, name_of}

-- the words of all commands, where those that were given are none's
abbrev pub usage : List ℕ
usage = codes "usage: exec, check, init, import USER, export, generate N\n"

-- there are rows already
abbrev pub held : List ℕ
held = codes "held\n"

-- an input passes its limit
abbrev pub limit_input : List ℕ
limit_input = codes "limit input\n"

-- which row is bad
abbrev pub kept_line : ℕ → ℕ → List ℕ
kept_line kind number = codes "kept " ++ (decimal kind ++ (32 ∷ decimal number) ++ 10 ∷ [])

-- the kind of a fault, and the key, name or text that it tells
abbrev pub named_line : ℕ → List ℕ → List ℕ
named_line kind name = codes "setup " ++ (decimal kind ++ (32 ∷ name) ++ 10 ∷ [])

abbrev pub line_of : ℕ → Option (List ℕ) → List ℕ
line_of kind None = codes "setup " ++ (decimal kind ++ 10 ∷ [])
line_of kind (Some name) = named_line kind name

-- why a text is no setup
abbrev pub setup_line : SetupFault → List ℕ
setup_line fault = line_of (fault_kind fault) (name_of fault)
