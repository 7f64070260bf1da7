-- The bytes of a text that an answer tells.
use Rattle.std.specs.Prelude.{ℕ, List}
use Rattle.tracker_calls.specs.declared.told_text.KeptText.{KeptText}
use Rattle.tracker_calls.specs.declared.told_text.KeptText.TheVariants.{Here, Apart}

-- wherever they are
abbrev pub kept_bytes : KeptText → List ℕ
kept_bytes (Here text) = text.bytes
kept_bytes (Apart text) = text
