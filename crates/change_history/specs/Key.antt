-- The bytes of a key, and its project.
use Rattle.std.specs.Prelude.{ℕ, ◌==◌, List}
use Rattle.std.specs.List.{before_first}
use Rattle.change_history.specs.declared.key.KeptKey.{KeptKey}
use Rattle.change_history.specs.declared.key.KeptKey.TheVariants.{Here, Apart}

-- wherever they are
abbrev pub kept_bytes : KeptKey → List ℕ
kept_bytes (Here text) = text.bytes
kept_bytes (Apart text) = text

-- the project's key: what stands before the hyphen of the issue's
abbrev pub project_of : List ℕ → List ℕ
project_of key = before_first (λ byte. byte == 45) key
