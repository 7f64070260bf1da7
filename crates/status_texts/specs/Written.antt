-- By how much a sink grew.
use Rattle.std.specs.Prelude.{◌≡◌, ℕ, List, ◌++◌, Option}
use Rattle.std.specs.Io.KnownBytes.{Appends}
use Rattle.status_texts.specs.Texts.{kept_line}

-- by a text that is as wanted
abbrev pub GrewBy : Option (List ℕ) → Option (List ℕ) → (List ℕ → Type 0) → Type 0
GrewBy old new P = (text : List ℕ) × P text × Appends old new text

-- or by a front of one
abbrev pub GrewByFront : Option (List ℕ) → Option (List ℕ) → (List ℕ → Type 0) → Type 0
GrewByFront old new P =
    (front : List ℕ) × (back : List ℕ) × P (front ++ back) × Appends old new front

-- the text tells a bad row
abbrev pub IsKeptText : (ℕ → ℕ → Type 0) → List ℕ → Type 0
IsKeptText Bad text = (kind : ℕ) × (number : ℕ) × Bad kind number × (text ≡ kept_line kind number)
