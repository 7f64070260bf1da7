-- The first moment at which a date of a comparison compares otherwise with the mark than it does now.
use Rattle.std.specs.Prelude.{ℕ, ◌-◌, ◌<◌, ◌≤◌, min, List, Option, Some, None, ℤ}
use Rattle.std.specs.List.{All, Contains}
use Rattle.field_values.specs.Years.{last_second}
use Rattle.jql_bound.specs.declared.operand.Operand.{Operand}
use Rattle.jql_meaning.specs.Surroundings.{Surroundings}
use Rattle.jql_meaning.specs.Marks.{IsSteady}

-- at this moment one of the operands' dates compares otherwise than a second before, and until then all compare as now
pub record IsFirst (s : Surroundings) (operands : List Operand) (mark : ℤ)
    (at first : ℕ) : Type 0 where
  pub later : at < first
  pub in_time : first ≤ last_second
  pub operand : Operand
  pub is_one : Contains operands operand
  pub moves : IsSteady s (first - 1) first (Some mark) operand → ⊥
  pub steady : (t : ℕ) → at ≤ t → t < first
      → All (λ operand. IsSteady s t at (Some mark) operand) operands

-- that first moment, or none where all compare as now up to the last moment
abbrev pub IsFirstOf : Surroundings → List Operand → ℤ → ℕ → Option ℕ → Type 0
IsFirstOf s operands mark at (Some first) = IsFirst s operands mark at first
IsFirstOf s operands mark at None =
    (t : ℕ) → at ≤ t → t ≤ last_second
    → All (λ operand. IsSteady s t at (Some mark) operand) operands

-- the earlier of two moments, where there are both
abbrev pub earlier : Option ℕ → Option ℕ → Option ℕ
earlier None other = other
earlier (Some one) None = Some one
earlier (Some one) (Some other) = Some (min one other)
