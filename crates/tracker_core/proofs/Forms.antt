-- What no check of form refuses.
use Rattle.std.proofs.Common.{◌≡◌, ◌≤◌, ◌&&◌, ℕ, nat_le, Bool, true, false, List, Option, Some, None, IfSome, Bor, refl, sym, subst, arith, inl, inr}
use Rattle.std.specs.Option.{option_copied}
use Rattle.std.proofs.lemmas.Bool.{and_parts, cases_Bool}
use Rattle.std.proofs.lemmas.Option.{none-some}
use Rattle.external_ids.specs.Form.{is_external}
use Rattle.tracker_calls.specs.declared.given.GivenField.{GivenField}
use Rattle.tracker_calls.specs.declared.cause.Cause.{Cause}
use Rattle.tracker_machine.specs.Checks.{or_then, only_if, count_refusal, external_refusal, twins_refusal}
use Rattle.tracker_state.proofs.Checked.{later_passes}

-- the number of picks is in range
pub in_range : (most n : ℕ) → count_refusal most n ≡ None → (1 ≤ n) × (n ≤ most)
in_range most n none = elim (cases_Bool (nat_le 1 n && nat_le n most)) [
  | inl both ↦ let parts = and_parts (nat_le 1 n) (nat_le n most) both in (grind (arith, parts.0), grind (arith, parts.1))
  | inr other ↦ absurd (none-some _ (sym (rw other at none)))
]

-- an external id that is given has its form
pub formed : (set : List GivenField) (external : Option (List ℕ)) (lent : Option (Bor (List ℕ))) → option_copied lent ≡ external
    → or_then (twins_refusal set) (external_refusal external) ≡ None → IfSome lent (λ id. is_external id.now ≡ true)
formed set external None is none = tt
formed set external (Some id) is none =
    passed (is_external id.now) _ (subst (λ (e : Option (List ℕ)). external_refusal e ≡ None) (sym is) (later_passes (twins_refusal set) (external_refusal external) none))
  where
    passed : (b : Bool) (r : Cause) → only_if b r ≡ None → b ≡ true
    passed true r none = refl
    passed false r none = absurd (none-some r (sym none))
