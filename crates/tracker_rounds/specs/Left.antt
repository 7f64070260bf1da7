-- Connections that are still to come.
use Rattle.std.specs.Prelude.{Bool, true, false, List, [], ◌∷◌, Option, Some, None}

-- they are told, and there is none
abbrev pub none_left : {L : Type 0} → Option (List L) → Bool
none_left None = false
none_left (Some []) = true
none_left (Some (link ∷ links)) = false
