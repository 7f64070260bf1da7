-- Names that differ in the case of letters alone.
use Rattle.std.specs.Prelude.{ℕ, List, [], ◌∷◌, Bool, false, not, ◌&&◌, ◌||◌}
use Rattle.std.specs.List.{list_any}
use Rattle.std.specs.Str.{bytes_eq, str_eq_ignore_ascii_case}
use Rattle.tracker_calls.specs.declared.given.GivenField.{GivenField}

-- the names differ in the case of ASCII letters alone
abbrev pub is_twin : List ℕ → List ℕ → Bool
is_twin name other = str_eq_ignore_ascii_case name other && not (bytes_eq name other)

abbrev pub has_twins : List GivenField → Bool
has_twins [] = false
has_twins (f ∷ fs) = list_any (λ other. is_twin f.name other.name) fs || has_twins fs
