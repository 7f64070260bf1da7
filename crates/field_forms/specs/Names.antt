-- The forms of names, and names in a list. Two names are the same where they differ at most in the case of ASCII letters.
use Rattle.std.specs.Prelude.{◌≡◌, ℕ, List, [], ◌∷◌, ◌++◌, Bool, false, not, ◌&&◌, ◌||◌, ◌==◌, nat_le, length, Option, Some, None, position, if◌then◌else◌}
use Rattle.std.specs.List.{list_all, list_any, AllPairs}
use Rattle.std.specs.Char.{is_control}
use Rattle.std.specs.Int.{is_in_range}
use Rattle.std.specs.Str.{chars, str_eq_ignore_ascii_case}

-- a number from the least to the most
abbrev pub is_from_to : ℕ → ℕ → ℕ → Bool
is_from_to least most n = nat_le least n && nat_le n most

-- a character of U+0000 to U+001F or U+007F to U+009F
abbrev pub has_controls : List ℕ → Bool
has_controls text = list_any is_control (chars text)

-- a name has 1 to 60 bytes and no control characters
abbrev pub is_name : List ℕ → Bool
is_name text = is_from_to 1 60 (length text) && not (has_controls text)

-- a name of a saved filter, a board or a sprint has 1 to 100 bytes and no control characters
abbrev pub is_title : List ℕ → Bool
is_title text = is_from_to 1 100 (length text) && not (has_controls text)

-- a to z, 0 to 9, a point, an underscore or a hyphen
abbrev pub is_user_byte : ℕ → Bool
is_user_byte b = is_in_range 97 122 b || is_in_range 48 57 b || (b == 46) || (b == 95) || (b == 45)

-- a user's name has 1 to 40 of these
abbrev pub is_user_name : List ℕ → Bool
is_user_name text = is_from_to 1 40 (length text) && list_all is_user_byte text

-- a project's key has 2 to 10 capital letters
abbrev pub is_project_key : List ℕ → Bool
is_project_key text = is_from_to 2 10 (length text) && list_all (λ b. is_in_range 65 90 b) text

-- the place of the first of that name, from 0
abbrev pub place_named : List ℕ → List (List ℕ) → Option ℕ
place_named name names = position (λ other. str_eq_ignore_ascii_case other name) names

-- one of the names is that one
abbrev pub is_among : List (List ℕ) → List ℕ → Bool
is_among names name = list_any (λ other. str_eq_ignore_ascii_case other name) names

-- the first name that is the same as one before it, or as one of those seen already
abbrev pub first_double : List (List ℕ) → List (List ℕ) → Option (List ℕ)
first_double seen [] = None
first_double seen (name ∷ names) =
    if is_among seen name then Some name else first_double (seen ++ name ∷ []) names

-- no two of the names are the same
abbrev pub AreDistinct : List (List ℕ) → Type 0
AreDistinct names = AllPairs (λ one other. str_eq_ignore_ascii_case one other ≡ false) names
