-- What a verdict tells.
use Rattle.std.specs.Prelude.{ℕ, Bool, Option}

-- whether the query holds, and the moment until when that stays, if there is one
pub record Told : Type 0 where
  pub holds : Bool
  pub until : Option ℕ
