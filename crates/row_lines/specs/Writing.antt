-- How the writing of rows ends.
use Rattle.std.specs.Prelude.{◌≡◌, ℕ, List, ◌++◌, Option, Result, Ok, Err}
use Rattle.std.specs.Io.KnownBytes.{Appends}
use Rattle.row_lines.specs.declared.writing.WriteEnd.{WriteEnd}
use Rattle.row_lines.specs.declared.writing.WriteEnd.TheVariants.{Done, WriteFault, Memory}

-- a front of a text was written
abbrev pub WritesFront : Option (List ℕ) → Option (List ℕ) → List ℕ → Type 0
WritesFront old new text =
    (front : List ℕ) × (back : List ℕ) × (text ≡ front ++ back) × Appends old new front

-- all of the text was written, or a front of it
abbrev pub Ends : List ℕ → Option (List ℕ) → Option (List ℕ) → WriteEnd → Type 0
Ends text old new Done = Appends old new text
Ends text old new WriteFault = WritesFront old new text
Ends text old new Memory = WritesFront old new text

-- what was pending was written, or is pending still; or a front of it was written
abbrev pub PassesOn : {T E : Type 0} → Option (List ℕ) → Option (List ℕ) → List ℕ → List ℕ
    → Result T E → Type 0
PassesOn old new before after (Ok x) =
    (written : List ℕ) × (before ≡ written ++ after) × Appends old new written
PassesOn old new before after (Err e) = WritesFront old new before
