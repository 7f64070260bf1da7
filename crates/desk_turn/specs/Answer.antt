-- What a call answers: what it was told, nothing, or that there was no memory.
use Rattle.std.specs.Prelude.{Option, Result, IfOk, IfSome, IfNone}

module _ {T M : Type 0} where
  -- it was told this
  abbrev pub IfTold : Result (Option T) M → (T → Type 0) → Type 0
  IfTold answer P = IfOk answer (λ told. IfSome told P)

  -- there was nothing to tell
  abbrev pub IfNothing : Result (Option T) M → Type 0 → Type 0
  IfNothing answer P = IfOk answer (λ told. IfNone told P)
