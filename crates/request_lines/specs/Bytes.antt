-- What the calls that write and take bytes do.
use Rattle.std.specs.Prelude.{◌≡◌, ◌⊎◌, ◌<◌, ◌≤◌, ◌+◌, ℕ, length, List, [], ◌∷◌, ◌++◌, Option, Some, None, Result, Ok, Err, take, drop}
use Rattle.std.specs.Io.KnownBytes.{Appends, Consumes, IsAtEnd}
use Rattle.request_lines.specs.Lines.{IsLine, IsOneLine}
use Rattle.request_lines.specs.declared.reader.Next.{Next}
use Rattle.request_lines.specs.declared.reader.Next.TheVariants.{Line, Last, End, TooLong, Failed, Memory}
use Rattle.request_lines.specs.declared.reader.Piece.{Piece}
use Rattle.request_lines.specs.declared.reader.Piece.TheVariants as piece

-- all bytes are written, or a front of them
abbrev pub WritesAll : {T E : Type 0} → Option (List ℕ) → Option (List ℕ) → Result T E → List ℕ
    → Type 0
WritesAll old new (Ok x) bytes = Appends old new bytes
WritesAll old new (Err e) bytes =
    (front : List ℕ) × (back : List ℕ) × (bytes ≡ front ++ back) × Appends old new front

-- these bytes wait on, or all of them are written and none waits, or a front of them is written where the sink fails
abbrev pub Passes : {T E : Type 0} → Option (List ℕ) → Option (List ℕ) → List ℕ → List ℕ
    → Result T E → Type 0
Passes old new before after (Ok x) =
    ((new ≡ old) × (after ≡ before)) ⊎ (Appends old new before × (after ≡ []))
Passes old new before after (Err e) =
    (front : List ℕ) × (back : List ℕ) × (before ≡ front ++ back) × Appends old new front

-- a line is taken with its line feed, or without one at the end; of a line that is too long, more bytes than it may have
abbrev pub TakesLine : Option (List ℕ) → Option (List ℕ) → Next → List ℕ → Type 0
TakesLine old new Line line = IsLine line × Consumes old new (line ++ 10 ∷ [])
TakesLine old new Last line = IsLine line × Consumes old new line × (0 < length line) × IsAtEnd new
TakesLine old new End line = Consumes old new [] × IsAtEnd new
TakesLine old new TooLong line =
    (front : List ℕ) × IsOneLine front × (65536 < length front) × Consumes old new front
TakesLine old new Failed line = IsLine line × Consumes old new line
TakesLine old new Memory line = (front : List ℕ) × Consumes old new front

-- the first line feed stands there, or there is none
abbrev pub IsLineEnd : List ℕ → Option ℕ → Type 0
IsLineEnd held None = IsOneLine held
IsLineEnd held (Some count) =
    (count < length held) × IsOneLine (take count held)
    × (drop count held ≡ 10 ∷ drop (count + 1) held)

-- what is held up to its first line feed, or all of it, is moved to the end of the line
abbrev pub TakesPiece : List ℕ → List ℕ → List ℕ → List ℕ → Piece → Type 0
TakesPiece held held' line line' piece.Ended =
    (taken : List ℕ) × (held ≡ taken ++ 10 ∷ held') × (line' ≡ line ++ taken) × IsOneLine taken
    × (length line' ≤ 65536)
TakesPiece held held' line line' piece.Open =
    (taken : List ℕ) × (held ≡ taken ++ held') × (line' ≡ line ++ taken) × IsOneLine taken
    × (length line' ≤ 65536) × (0 < length taken)
TakesPiece held held' line line' piece.TooLong =
    (taken : List ℕ) × (held ≡ taken ++ held') × (line' ≡ line) × IsOneLine taken
    × (65536 < length line + length taken)
TakesPiece held held' line line' piece.Memory = (held' ≡ held) × (line' ≡ line)
