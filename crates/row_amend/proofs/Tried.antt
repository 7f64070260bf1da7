-- Rows that are tried in memory: what comes of them comes of those that were listed.
use Rattle.std.proofs.Common.{◌≡◌, ℕ, List, map, inl, inr, sym, ap, subst, ◌∙◌}
use Rattle.field_values.specs.Parts.{Parts}
use Rattle.tracker_keeper.specs.declared.part.Format.{Format}
use Rattle.tracker_keeper.specs.declared.row.Row.{Row}
use Rattle.tracker_keeper.specs.declared.row.RowOp.{RowOp}
use Rattle.tracker_keeper.specs.declared.row.RowOp.TheVariants.{Put}
use Rattle.tracker_keeper.specs.Places.{Places, AreRowsOf}
use Rattle.tracker_keeper.specs.Rows.{Rows, IsListing, no_rows, with_ops}
use Rattle.tracker_machine.specs.Machine.{Machine}
use Rattle.row_dumps.proofs.Placed.{listed_are, puts_found}
use Rattle.amended_rows.specs.Amended.{amended, amending_ops}
use Rattle.amended_rows.specs.Amending.{AreOf, HaveBad, IsAmended, IsListedAs}
use Rattle.amended_rows.specs.Laws.{RowsAreAmended}
use Rattle.row_amend.specs.Faults.{AreAmendedBy, IsAmendFault, IsRowFault}
use Rattle.row_amend.specs.declared.fault.AmendFault.{AmendFault}
use Rattle.row_amend.specs.declared.fault.AmendFault.TheVariants.{Keeper, BadRow, Memory}

-- what is put into memory
pub put_rows : (ops : List RowOp) (list : List Row) (kept : Rows) (places : Places) → ops ≡ map Put list → IsListing kept list → AreRowsOf (with_ops ops no_rows) places → AreRowsOf kept places
put_rows ops list kept places is listing has =
    subst (λ rows. AreRowsOf rows places) (ap (λ os. with_ops os no_rows) is ∙ (puts_found list listing.rising ∙ listed_are kept list listing)) has

-- the operations amend rows that were loaded
pub amended_by : RowsAreAmended → (format : Format) (kept : Rows) (m : Machine) (text : List ℕ) (setup : Parts) (ops : List RowOp) → IsListedAs kept format m
    → ops ≡ amending_ops m text setup → AreAmendedBy text setup kept ops
amended_by law format kept m text setup ops listed is = record {
  before = m;
  were = (listed.0, listed.1, (format, listed.2));
  amended_are = ap (λ os. with_ops os kept) is ∙ law format listed.0 kept m text setup listed.2 listed.1;
}

-- and what comes of them is loaded, too
pub is_amended : (text : List ℕ) (setup : Parts) (kept : Rows) (ops : List RowOp) → AreAmendedBy text setup kept ops → ((later : Machine) × AreOf (with_ops ops kept) later)
    → IsAmended text setup kept (with_ops ops kept)
is_amended text setup kept ops by is = record { before = by.before; were = by.were; amended_are = by.amended_are; later = is.0; are = is.1 }

-- a row that is bad stands in the way
pub first_in_the_way : (text : List ℕ) (setup : Parts) (kept : Rows) (fault : AmendFault) → IsRowFault kept fault → IsAmendFault text setup kept fault
first_in_the_way text setup kept Keeper why = absurd why
first_in_the_way text setup kept (BadRow kind number) why = inl why
first_in_the_way text setup kept Memory why = tt

-- so does one of the amended rows
pub then_in_the_way : (text : List ℕ) (setup : Parts) (kept : Rows) (ops : List RowOp) (fault : AmendFault) → AreAmendedBy text setup kept ops → IsRowFault (with_ops ops kept) fault
    → IsAmendFault text setup kept fault
then_in_the_way text setup kept ops Keeper by why = absurd why
then_in_the_way text setup kept ops (BadRow kind number) by why = inr (by.before, by.were, subst (λ rows. HaveBad rows kind number) by.amended_are why)
then_in_the_way text setup kept ops Memory by why = tt
