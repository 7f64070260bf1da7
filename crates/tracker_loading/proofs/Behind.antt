-- Things by rising numbers, each put behind all before it.
use Rattle.std.proofs.Common.{◌≡◌, ℕ, ◌+◌, ◌≤◌, None, List, [], ◌∷◌, ◌++◌, refl, arith}
use Rattle.std.proofs.lemmas.Bool.Decides.{nat_tests}
use Rattle.rising_numbers.specs.ByNumber.{RiseFrom, by_number, put_by_number}

module _ {X : Type 0} (number : X → ℕ) where
  -- what stands behind isn't less than the least
  pub behind_above : (least : ℕ) (before : List X) (x : X) (behind : List X) → RiseFrom number least (before ++ x ∷ behind) → least ≤ number x
  behind_above least [] x behind rise = rise.0
  behind_above least (y ∷ before) x behind rise = omega (arith, rise.0, behind_above (number y + 1) before x behind rise.1)

  -- its number is free before it
  pub free_before : (least : ℕ) (before : List X) (x : X) (behind : List X) → RiseFrom number least (before ++ x ∷ behind) → by_number number (number x) before ≡ None
  free_before least [] x behind rise = refl
  free_before least (y ∷ before) x behind rise =
      let above = behind_above (number y + 1) before x behind rise.1 in
      grind (arith, nat_tests, above, free_before (number y + 1) before x behind rise.1)

  -- and it is put behind those
  pub put_behind : (least : ℕ) (before : List X) (x : X) (behind : List X) → RiseFrom number least (before ++ x ∷ behind) → put_by_number number x before ≡ before ++ x ∷ []
  put_behind least [] x behind rise = refl
  put_behind least (y ∷ before) x behind rise =
      let above = behind_above (number y + 1) before x behind rise.1 in
      grind (arith, nat_tests, above, put_behind (number y + 1) before x behind rise.1)
