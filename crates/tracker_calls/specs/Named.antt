-- The users and the fields that a call names.
use Rattle.std.specs.Prelude.{ℕ, List, length, nat_le, Bool}

-- a call names at most 200 members
abbrev pub are_few : List (List ℕ) → Bool
are_few names = nat_le (length names) 200

-- and at most 50 fields
abbrev pub are_few_fields : List (List ℕ) → Bool
are_few_fields names = nat_le (length names) 50
