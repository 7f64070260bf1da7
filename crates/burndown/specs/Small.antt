-- Numbers so small that three of them add up to a total.
use Rattle.std.specs.Prelude.{ℤ, pos, negsuc, ◌-◌, ◌^◌, ◌≤ℤ◌, ◌<ℤ◌, Option, IfSome}
use Rattle.burndown.specs.declared.share.Share.{Share}

-- a small number lies from -2^60 to 2^60 - 1
abbrev pub IsSmall : ℤ → Type 0
IsSmall x = (negsuc (2 ^ 60 - 1) ≤ℤ x) × (x <ℤ pos (2 ^ 60))

-- where there was a share, its points were a small number
abbrev pub SmallBefore : Option Share → Type 0
SmallBefore before = IfSome before (λ share. IsSmall share.points)
