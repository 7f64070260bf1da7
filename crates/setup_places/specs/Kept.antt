-- What is kept of bytes that are read.
use Rattle.std.specs.Prelude.{◌≡◌, ◌⊎◌, ◌<◌, ℕ, List, [], ◌++◌, Option, Some}
use Rattle.std.specs.Io.KnownBytes.{prepend_known}

-- where some may be kept: what is kept, and what is left now, are all bytes that were left at first
abbrev pub AreKept : Option (List ℕ) → Option (List ℕ) → List ℕ → ℕ → Type 0
AreKept first now kept most =
    0 < most → (all : List ℕ) → first ≡ Some all → prepend_known kept now ≡ Some all

-- these bytes are kept behind the others; or none are kept, and no more may be
abbrev pub AreAdded : ℕ → List ℕ → List ℕ → ℕ → List ℕ → Type 0
AreAdded most kept bytes new_most new_kept =
    (new_kept ≡ kept ++ bytes) × (new_most ≡ most) ⊎ (new_kept ≡ []) × (new_most ≡ 0)
