-- What holds of all things by rising numbers.
use Rattle.std.specs.Prelude.{ℕ, List}
use Rattle.rising_numbers.specs.ByNumber.{RiseFrom, IsLeastFree, free_from}

-- the number that is given is the least one from 1 on that none has
abbrev pub FreeNumbersAreLeast : {X : Type 0} → (X → ℕ) → Type 0
FreeNumbersAreLeast {X =
    X} number = (xs : List X) → RiseFrom number 1 xs
    → IsLeastFree number xs 1 (free_from number 1 xs)
