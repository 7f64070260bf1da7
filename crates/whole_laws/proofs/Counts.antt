-- Counts of faults that didn't rise, and rows of which none is bad.
use Rattle.std.proofs.Common.{◌≡◌, ◌∙◌, ◌⊎◌, ℕ, List, Result, Ok, Err, inl, inr, sym, ap, subst, arith}
use Rattle.std.proofs.lemmas.Bool.{cases_eq}
use Rattle.std.proofs.lemmas.Option.{none-some}
use Rattle.request_lines.specs.Causes.{Rose}
use Rattle.setup_reading.specs.Reading.{setup_in}
use Rattle.tracker_keeper.specs.Rows.{Rows}
use Rattle.tracker_machine.specs.Machine.{Machine, opening}
use Rattle.tracker_import.specs.Calls.{RoseBy}
use Rattle.tracker_rows.specs.Loading.{IsFirstBad}
use Rattle.tracker_rows.proofs.Verdicts.{loaded_have_no_bad}
use Rattle.tracker_core.specs.Desk.{HasNoRow, HasRow, IsBadIn, IsNew, IsOpened}
use Rattle.run_laws.proofs.Listings.{one_listing}

-- a count that didn't rise rose by none
pub none_failed : (before now failures : ℕ) → ¬ (Rose before now) → RoseBy before now failures → failures ≡ 0
none_failed before now failures none rose = by (cases_eq failures 0)
  where
    by : (failures ≡ 0) ⊎ (failures ≡ 0 → ⊥) → failures ≡ 0
    by (inl zero) = zero
    by (inr some) = absurd (none (omega (arith, rose, some)))

-- a count that stays 0 didn't rise
pub stays_zero : (before now : ℕ) → before ≡ 0 → now ≡ 0 → ¬ (Rose before now)
stays_zero before now old new rose = omega (arith, old, new, rose)

-- rows that open a tracker have no bad one
pub no_bad : (setup_text : List ℕ) (rows : Rows) (m : Machine) (kind number : ℕ) → IsOpened setup_text rows m → IsBadIn rows kind number → ⊥
no_bad setup_text rows m kind number (inl (list, is, (format, loads))) (some, (other, is_too, bad)) =
    loaded_have_no_bad format list m kind number loads (subst (λ l. IsFirstBad l kind number) (sym (one_listing rows list other is is_too)) bad)
no_bad setup_text rows m kind number (inr (none, new)) ((at_kind, at, body, there), rest) =
    none-some body (sym (none at_kind at) ∙ there)

-- there is a row, or none
pub not_none : (rows : Rows) → HasNoRow rows → HasRow rows → ⊥
not_none rows none (kind, number, body, there) = none-some body (sym (none kind number) ∙ there)

ok_or : {E A : Type 0} → A → Result A E → A
ok_or d (Ok x) = x
ok_or d (Err e) = d

same_ok : {E A : Type 0} (r : Result A E) (x y : A) → r ≡ Ok x → r ≡ Ok y → x ≡ y
unfolding ok_or
same_ok r x y one two = ap (ok_or x) (sym one ∙ two)

-- a text is one new tracker
pub one_new : (text : List ℕ) (m other : Machine) → IsNew text m → IsNew text other → m ≡ other
one_new text m other (setup, reads, is) (setup_too, reads_too, is_too) =
    is ∙ ap (opening text) (same_ok (setup_in text) setup setup_too reads reads_too) ∙ sym is_too
