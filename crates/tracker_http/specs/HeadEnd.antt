-- Where the head of a request ends: at the first empty line after its request line.
use Rattle.std.specs.Prelude.{◌≡◌, ◌==◌, ℕ, ◌+◌, ◌≤◌, List, [], ◌∷◌, length, Bool, true, false, Option, Some, None, option_map, if◌then◌else◌}
use Rattle.request_lines.specs.Lines.{whole_lines}

-- beside its line feed an empty line has nothing, or one carriage return
abbrev pub is_empty_line : List ℕ → Bool
is_empty_line [] = true
is_empty_line (b ∷ []) = b == 13
is_empty_line (b ∷ c ∷ more) = false

-- the bytes of a line with its line feed, and so many more
abbrev pub with_line : List ℕ → Option ℕ → Option ℕ
with_line line more = option_map (λ n. length line + 1 + n) more

-- how many bytes the lines have up to the first empty one
abbrev pub fields_len : List (List ℕ) → Option ℕ
fields_len [] = None
fields_len (line ∷ lines) = with_line line (if is_empty_line line then Some 0 else fields_len lines)

-- the same with the request line, before which empty lines may stand
abbrev pub lines_len : List (List ℕ) → Option ℕ
lines_len [] = None
lines_len (line ∷ lines) =
    with_line line (if is_empty_line line then lines_len lines else fields_len lines)

-- how many bytes the whole head has with which these bytes begin, where they do
unfoldable pub head_len : List ℕ → Option ℕ
head_len bytes = lines_len (whole_lines bytes)

-- the bytes are a whole head, of at most 8,192 bytes
pub record IsWholeHead (bytes : List ℕ) : Type 0 where
  pub whole : head_len bytes ≡ Some (length bytes)
  pub short : length bytes ≤ 8192
