-- What an issue counts for in a sprint.
use Rattle.std.specs.Prelude.{ℕ, ◌==◌, ℤ, pos, Bool, false, not, ◌&&◌, Option, Some, None, if◌then◌else◌}
use Rattle.field_values.specs.declared.numbers.SprintNo.{SprintNo}
use Rattle.burndown.specs.declared.share.Share.{Share}

-- whether this is the sprint
abbrev pub names : Option SprintNo → ℕ → Bool
names None s = false
names (Some own) s = own.0 == s

-- an issue counts for its sprint with its points, and with nothing once it is done
abbrev pub counts_for : ℕ → Share → ℤ
counts_for s share = if names share.sprint s && not share.done then share.points else pos 0

-- an issue that isn't there yet counts for nothing
abbrev pub counted_before : ℕ → Option Share → ℤ
counted_before s None = pos 0
counted_before s (Some share) = counts_for s share
