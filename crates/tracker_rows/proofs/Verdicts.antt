-- Rows load one tracker or have one first bad row, never both.
use Rattle.std.proofs.Common.{◌≡◌, ℕ, List, [], ◌∷◌, ◌++◌, ◌⊎◌, inl, inr, Option, Some, None, IfSome, refl, sym, ap, ◌∙◌, subst}
use Rattle.std.specs.Prelude.{unwrap_or}
use Rattle.std.proofs.lemmas.List.Elements.{All-head}
use Rattle.std.proofs.lemmas.Option.{none-some}
use Rattle.tracker_keeper.specs.declared.row.Row.{Row}
use Rattle.tracker_keeper.specs.declared.part.Format.{Format}
use Rattle.tracker_keeper.specs.declared.part.Format.TheVariants.{First}
use Rattle.tracker_keeper.specs.declared.part.Part.{Part}
use Rattle.tracker_machine.specs.Machine.{Machine}
use Rattle.tracker_rows.specs.Listed.{IsAhead}
use Rattle.tracker_rows.specs.Gathered.{Gathered, with_part, due}
use Rattle.tracker_rows.specs.Gathered.Gathered.{Nothing, HasSetup, Stands}
use Rattle.tracker_rows.specs.Loading.{IsInTime, IsGood, AreRead, Loads, IsMissing, IsBad, IsBadNext, IsFirstBad}
use Rattle.tracker_rows.specs.Laws.{GoodRowsLeadOn, RowsLoadOne, IsSameRow, FirstBadIsOne, LoadedHaveNoBad, LoadedSetupsAreTheirTexts, FirstRowsHaveTheirMembers}
use Rattle.tracker_rows.proofs.Reading.{IsHeld, HasItsSetup, one_part, setup_kept, read_one, read_on, setup_read}

-- ---- one row more

read_pushed : (rows : List Row) (g : Gathered) (front : List Row) (mid : Gathered) (row : Row) (p : Part) → AreRead rows g front mid → IsInTime mid row
    → IsGood rows mid row p → AreRead rows g (front ++ row ∷ []) (with_part mid p)
read_pushed rows g [] mid row p read timely good =
    (subst (λ h. IsInTime h row) read timely, (p, subst (λ h. IsGood rows h row p) read good, ap (λ h. with_part h p) read))
read_pushed rows g (x ∷ front) mid row p read timely good =
    (read.0, (read.1.0, read.1.1, read_pushed rows (with_part g read.1.0) front mid row p read.1.2 timely good))

pub good_rows_lead_on : GoodRowsLeadOn
good_rows_lead_on rows front mid row p = read_pushed rows Nothing front mid row p

-- ---- one tracker

abbrev machine_or : Machine → Gathered → Machine
machine_or m Nothing = m
machine_or m (HasSetup text setup) = m
machine_or m (Stands format told n) = n

abbrev format_or : Format → Gathered → Format
format_or format Nothing = format
format_or format (HasSetup text setup) = format
format_or format (Stands other told n) = other

pub rows_load_one : RowsLoadOne
rows_load_one format other_format rows one other a b =
    let same = read_one rows Nothing rows (Stands format a.told one) (Stands other_format b.told other) tt a.read b.read in
    (ap (machine_or one) same, ap (format_or format) same)

-- ---- its setup

held : (format : Format) (rows : List Row) (m : Machine) → Loads format rows m → IsHeld format m.text m.setup
held format rows m loads = setup_read rows Nothing rows (Stands format loads.told m) tt loads.read

pub loaded_setups : LoadedSetupsAreTheirTexts
loaded_setups format rows m loads = (held format rows m loads).of_text

pub first_rows_have_members : FirstRowsHaveTheirMembers
first_rows_have_members rows m loads = (held First rows m loads).first refl

-- ---- one first bad row

-- a row that is in time isn't behind a missing one
not_missing : (g : Gathered) (row : Row) (more : List Row) (kind number : ℕ) → IsInTime g row → IsMissing g (row ∷ more) kind number → ⊥
not_missing g row more kind number timely missing =
    subst (λ o. IfSome o (λ wanted. ¬ IsAhead wanted.0 wanted.1 row)) missing.due_is timely (All-head (IsAhead kind number) row more missing.behind)

-- the first bad row of those that are left, one by one
abbrev IsFirstFrom : List Row → Gathered → List Row → ℕ → ℕ → Type 0
IsFirstFrom rows g [] kind number = IsMissing g [] kind number
IsFirstFrom rows g (row ∷ more) kind number =
    IsMissing g (row ∷ more) kind number ⊎ (IsBad rows g row kind number
    ⊎ (IsInTime g row × ((p : Part) × IsGood rows g row p × IsFirstFrom rows (with_part g p) more kind number)))

from_here : (rows : List Row) (g : Gathered) (left : List Row) (kind number : ℕ) → IsMissing g left kind number ⊎ IsBadNext rows g left kind number
    → IsFirstFrom rows g left kind number
from_here rows g [] kind number (inl missing) = missing
from_here rows g [] kind number (inr bad) = absurd bad
from_here rows g (row ∷ more) kind number (inl missing) = inl missing
from_here rows g (row ∷ more) kind number (inr bad) = inr (inl bad)

from_front : (rows : List Row) (g : Gathered) (front left : List Row) (mid : Gathered) (kind number : ℕ) → AreRead rows g front mid
    → IsMissing mid left kind number ⊎ IsBadNext rows mid left kind number → IsFirstFrom rows g (front ++ left) kind number
from_front rows g [] left mid kind number read next =
    subst (λ h. IsFirstFrom rows h left kind number) read (from_here rows mid left kind number next)
from_front rows g (row ∷ front) left mid kind number read next =
    inr (inr (read.0, (read.1.0, read.1.1, from_front rows (with_part g read.1.0) front left mid kind number read.1.2 next)))

first_of : (rows : List Row) (kind number : ℕ) → IsFirstBad rows kind number → IsFirstFrom rows Nothing rows kind number
first_of rows kind number first =
    subst (λ list. IsFirstFrom rows Nothing list kind number) (sym first.apart)
    (from_front rows Nothing first.front first.left first.gathered kind number first.read first.next)

same_due : (g : Gathered) (left others : List Row) (kind number other_kind other_number : ℕ) → IsMissing g left kind number → IsMissing g others other_kind other_number
    → IsSameRow kind number other_kind other_number
same_due g left others kind number other_kind other_number one other =
    let same : Some (kind, number) ≡ Some (other_kind, other_number) = sym one.due_is ∙ other.due_is in
    record {
      kind_is = ap (λ (o : Option (ℕ × ℕ)). (unwrap_or o (0, 0)).0) same;
      number_is = ap (λ (o : Option (ℕ × ℕ)). (unwrap_or o (0, 0)).1) same;
    }

one_from : (rows : List Row) (g : Gathered) (list : List Row) (kind number other_kind other_number : ℕ) → HasItsSetup g
    → IsFirstFrom rows g list kind number → IsFirstFrom rows g list other_kind other_number → IsSameRow kind number other_kind other_number
one_from rows g [] kind number other_kind other_number own one other = same_due g [] [] kind number other_kind other_number one other
one_from rows g (row ∷ more) kind number other_kind other_number own (inl one) (inl other) =
    same_due g (row ∷ more) (row ∷ more) kind number other_kind other_number one other
one_from rows g (row ∷ more) kind number other_kind other_number own (inl one) (inr (inl other)) =
    absurd (not_missing g row more kind number other.in_time one)
one_from rows g (row ∷ more) kind number other_kind other_number own (inl one) (inr (inr other)) =
    absurd (not_missing g row more kind number other.0 one)
one_from rows g (row ∷ more) kind number other_kind other_number own (inr (inl one)) (inl other) =
    absurd (not_missing g row more other_kind other_number one.in_time other)
one_from rows g (row ∷ more) kind number other_kind other_number own (inr (inl one)) (inr (inl other)) =
    record { kind_is = sym one.kind_is ∙ other.kind_is; number_is = sym one.number_is ∙ other.number_is }
one_from rows g (row ∷ more) kind number other_kind other_number own (inr (inl one)) (inr (inr other)) = absurd (one.bad other.1.0 other.1.1)
one_from rows g (row ∷ more) kind number other_kind other_number own (inr (inr one)) (inl other) =
    absurd (not_missing g row more other_kind other_number one.0 other)
one_from rows g (row ∷ more) kind number other_kind other_number own (inr (inr one)) (inr (inl other)) = absurd (other.bad one.1.0 one.1.1)
one_from rows g (row ∷ more) kind number other_kind other_number own (inr (inr one)) (inr (inr other)) =
    let same : other.1.0 ≡ one.1.0 = one_part rows g row other.1.0 one.1.0 own other.1.1 one.1.1 in
    one_from rows (with_part g one.1.0) more kind number other_kind other_number (setup_kept rows g row one.1.0 own one.1.1) one.1.2
    (subst (λ p. IsFirstFrom rows (with_part g p) more other_kind other_number) same other.1.2)

pub first_bad_is_one : FirstBadIsOne
first_bad_is_one rows kind number other_kind other_number one other =
    one_from rows Nothing rows kind number other_kind other_number tt (first_of rows kind number one) (first_of rows other_kind other_number other)

-- ---- never both

-- what is read to its end has no bad row
never_both : (rows : List Row) (g : Gathered) (left : List Row) (after : Gathered) (kind number : ℕ) → due after ≡ None
    → AreRead rows g left after → IsMissing g left kind number ⊎ IsBadNext rows g left kind number → ⊥
never_both rows g [] after kind number whole read (inl missing) =
    none-some (kind, number) (sym whole ∙ subst (λ h. due h ≡ Some (kind, number)) (sym read) missing.due_is)
never_both rows g [] after kind number whole read (inr bad) = bad
never_both rows g (row ∷ more) after kind number whole read (inl missing) = not_missing g row more kind number read.0 missing
never_both rows g (row ∷ more) after kind number whole read (inr bad) = bad.bad read.1.0 read.1.1

pub loaded_have_no_bad : LoadedHaveNoBad
loaded_have_no_bad format rows m kind number loads first =
    let end : Gathered = Stands format loads.told m in
    never_both rows first.gathered first.left end kind number loads.whole
    (read_on rows Nothing first.front first.left first.gathered end tt first.read (subst (λ list. AreRead rows Nothing list end) first.apart loads.read))
    first.next
