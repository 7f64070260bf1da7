-- Texts of `amend`, by the whole input.
use Rattle.std.proofs.Common.{◌≡◌, ◌≢◌, ◌≤◌, ◌++◌, ◌⊎◌, ◌<◌, ◌∙◌, ℕ, List, length, Option, Some, None, IfSome, inl, inr, refl, sym, ap, subst, append-nil}
use Rattle.std.specs.Io.KnownBytes.{Appends, Consumes, IsAtEnd}
use Rattle.setup_drafts.specs.declared.fault.SetupFault.{SetupFault}
use Rattle.setup_drafts.specs.declared.fault.SetupFault.TheVariants as setup_fault
use Rattle.setup_reading.specs.Reading.{Explains}
use Rattle.status_texts.specs.Setups.{setup_limit, IsSetupText}
use Rattle.status_texts.specs.Texts.{kept_line, limit_input, setup_line}
use Rattle.status_texts.specs.Written.{GrewBy, GrewByFront, IsKeptText}
use Rattle.field_values.specs.Parts.{Parts}
use Rattle.tracker_keeper.specs.declared.row.Row.{Row}
use Rattle.tracker_keeper.specs.Rows.{Rows, IsListing}
use Rattle.row_amend.specs.Faults.{IsAmendFault}
use Rattle.row_amend.specs.declared.fault.AmendFault.{AmendFault}
use Rattle.row_amend.specs.declared.fault.AmendFault.TheVariants.{BadRow}
use Rattle.amended_rows.specs.Amending.{ComesOf, IsInTheWay}
use Rattle.tracker_amend.specs.Amend.{HasAmended, HasInTheWay, IsAmendText, IsInTheWayOf, IsReadAs, IsRowText, LeavesEither}

-- ---- what was read to its end was the whole input

was_all : (all rest bytes : List ℕ) → Consumes (Some all) (Some rest) bytes → IsAtEnd (Some rest) → bytes ≡ all
was_all all rest bytes read end = sym (append-nil bytes) ∙ ap (λ list. bytes ++ list) (sym end) ∙ sym read

whole : (F : Option (List ℕ) → Type 0) (left after : Option (List ℕ)) (bytes : List ℕ) → Consumes left after bytes → IsAtEnd after → (F (Some bytes) → F None) → F (Some bytes) → F left
whole F None after bytes read end weaker has = weaker has
whole F (Some all) None bytes read end weaker has = absurd read
whole F (Some all) (Some rest) bytes read end weaker has = subst (λ (list : List ℕ). F (Some list)) (was_all all rest bytes read end) has

row_of_none : (Way : List ℕ → ℕ → ℕ → Type 0) (bytes text : List ℕ) → IsRowText Way (Some bytes) text → IsRowText Way None text
row_of_none Way bytes text told = (told.0, told.1, tt, told.3)

text_of_none : (Way : List ℕ → ℕ → ℕ → Type 0) (bytes text : List ℕ) → IsAmendText Way (Some bytes) text → IsAmendText Way None text
text_of_none Way bytes text (inl long) = inl (long.0, tt)
text_of_none Way bytes text (inr (inl fault)) = inr (inl (fault.0, fault.1, tt, fault.3))
text_of_none Way bytes text (inr (inr row)) = inr (inr (row_of_none Way bytes text row))

pub whole_front : (Way : List ℕ → ℕ → ℕ → Type 0) (left after old new : Option (List ℕ)) (bytes text : List ℕ) → Consumes left after bytes → IsAtEnd after → text ≡ bytes
    → GrewByFront old new (IsAmendText Way (Some text)) → GrewByFront old new (IsAmendText Way left)
whole_front Way left after old new bytes text read end same grew =
    let told : IsAmendText Way (Some bytes) (grew.0 ++ grew.1) = subst (λ (list : List ℕ). IsAmendText Way (Some list) (grew.0 ++ grew.1)) same grew.2 in
    (grew.0, grew.1, whole (λ o. IsAmendText Way o (grew.0 ++ grew.1)) left after bytes read end (text_of_none Way bytes (grew.0 ++ grew.1)) told, grew.3)

pub whole_row : (Way : List ℕ → ℕ → ℕ → Type 0) (left after old new : Option (List ℕ)) (bytes text : List ℕ) → Consumes left after bytes → IsAtEnd after → text ≡ bytes
    → GrewBy old new (IsRowText Way (Some text)) → GrewBy old new (IsRowText Way left)
whole_row Way left after old new bytes text read end same grew =
    let told : IsRowText Way (Some bytes) grew.0 = subst (λ (list : List ℕ). IsRowText Way (Some list) grew.0) same grew.1 in
    (grew.0, whole (λ o. IsRowText Way o grew.0) left after bytes read end (row_of_none Way bytes grew.0) told, grew.2)

-- ---- texts

row_told : (Bad : ℕ → ℕ → Type 0) (Way : List ℕ → ℕ → ℕ → Type 0) (bytes text : List ℕ) → length bytes ≤ setup_limit
    → ((kind number : ℕ) → Bad kind number → Way bytes kind number) → IsKeptText Bad text → IsRowText Way (Some bytes) text
row_told Bad Way bytes text within leads told = (told.0, told.1, (within, leads told.0 told.1 told.2), told.3)

pub row_front : (Bad : ℕ → ℕ → Type 0) (Way : List ℕ → ℕ → ℕ → Type 0) (old new : Option (List ℕ)) (bytes : List ℕ) → length bytes ≤ setup_limit
    → ((kind number : ℕ) → Bad kind number → Way bytes kind number) → GrewByFront old new (IsKeptText Bad) → GrewByFront old new (IsAmendText Way (Some bytes))
row_front Bad Way old new bytes within leads grew =
    (grew.0, grew.1, inr (inr (row_told Bad Way bytes (grew.0 ++ grew.1) within leads grew.2)), grew.3)

pub row_grew : (Bad : ℕ → ℕ → Type 0) (Way : List ℕ → ℕ → ℕ → Type 0) (old new : Option (List ℕ)) (bytes : List ℕ) → length bytes ≤ setup_limit
    → ((kind number : ℕ) → Bad kind number → Way bytes kind number) → GrewBy old new (IsKeptText Bad) → GrewBy old new (IsRowText Way (Some bytes))
row_grew Bad Way old new bytes within leads grew = (grew.0, row_told Bad Way bytes grew.0 within leads grew.1, grew.2)

pub fault_front : (Way : List ℕ → ℕ → ℕ → Type 0) (old new : Option (List ℕ)) (bytes : List ℕ) (fault : SetupFault) → length bytes ≤ setup_limit → fault ≢ setup_fault.Memory → Explains bytes fault
    → GrewByFront old new (λ due. due ≡ setup_line fault) → GrewByFront old new (IsAmendText Way (Some bytes))
fault_front Way old new bytes fault within apart why grew = (grew.0, grew.1, inr (inl (fault, apart, (within, why), grew.2)), grew.3)

pub limit_front : (Way : List ℕ → ℕ → ℕ → Type 0) (left old new : Option (List ℕ)) → IfSome left (λ bytes. setup_limit < length bytes) → GrewByFront old new (λ due. due ≡ limit_input)
    → GrewByFront old new (IsAmendText Way left)
limit_front Way left old new long grew = (grew.0, grew.1, inl (grew.2, long), grew.3)

module _ {P : Type 0} (keeps : P → Rows → Type 0) (tells : P → Type 0) (leaves : P → Rows → Rows → Type 0) (old new : P) where
  one_of_none : (rows : Rows) (bytes : List ℕ)
      → leaves new rows rows
      ⊎ ((it : List ℕ) × (set : Parts) × (after : Rows) × (it ≡ bytes) × IsReadAs it set × ComesOf it set rows after × leaves new rows after)
      → leaves new rows rows
      ⊎ ((it : List ℕ) × (set : Parts) × (after : Rows) × Unit {0} × IsReadAs it set × ComesOf it set rows after × leaves new rows after)
  one_of_none rows bytes (inl left) = inl left
  one_of_none rows bytes (inr of) = inr (of.0, of.1, of.2, tt, of.4, of.5, of.6)

  left_of_none : (bytes : List ℕ) → LeavesEither keeps tells leaves (Some bytes) old new → LeavesEither keeps tells leaves None old new
  left_of_none bytes all = λ rows kept left told. one_of_none rows bytes (all rows kept left told)

  pub whole_left : (input after : Option (List ℕ)) (bytes text : List ℕ) → Consumes input after bytes → IsAtEnd after → text ≡ bytes
      → LeavesEither keeps tells leaves (Some text) old new → LeavesEither keeps tells leaves input old new
  whole_left input after bytes text read end same all =
      whole (λ o. LeavesEither keeps tells leaves o old new) input after bytes read end (left_of_none bytes)
      (subst (λ (list : List ℕ). LeavesEither keeps tells leaves (Some list) old new) same all)

-- ---- a row that is told stands in the way

way_of : (text : List ℕ) (setup : Parts) (list : List Row) (fault : AmendFault) (kind number : ℕ) → ((rows : Rows) → IsListing rows list → IsAmendFault text setup rows fault)
    → fault ≡ BadRow kind number → IsInTheWayOf text setup list kind number
way_of text setup list fault kind number why is = λ rows listing. subst (IsAmendFault text setup rows) is (why rows listing)

pub way_front : (text : List ℕ) (setup : Parts) (list : List Row) (fault : AmendFault) (kind number : ℕ) (old new : Option (List ℕ))
    → ((rows : Rows) → IsListing rows list → IsAmendFault text setup rows fault) → fault ≡ BadRow kind number
    → GrewByFront old new (λ due. due ≡ kept_line kind number) → GrewByFront old new (IsKeptText (IsInTheWayOf text setup list))
way_front text setup list fault kind number old new why is grew =
    (grew.0, grew.1, (kind, number, way_of text setup list fault kind number why is, grew.2), grew.3)

pub way_grew : (text : List ℕ) (setup : Parts) (list : List Row) (fault : AmendFault) (kind number : ℕ) (old new : Option (List ℕ))
    → ((rows : Rows) → IsListing rows list → IsAmendFault text setup rows fault) → fault ≡ BadRow kind number
    → Appends old new (kept_line kind number) → GrewBy old new (IsKeptText (IsInTheWayOf text setup list))
way_grew text setup list fault kind number old new why is all =
    (kept_line kind number, (kind, number, way_of text setup list fault kind number why is, refl), all)

-- whoever the text was told by
pub told_front : (Bad Other : ℕ → ℕ → Type 0) (old new : Option (List ℕ)) → ((kind number : ℕ) → Bad kind number → Other kind number)
    → GrewByFront old new (IsKeptText Bad) → GrewByFront old new (IsKeptText Other)
told_front Bad Other old new leads grew = (grew.0, grew.1, (grew.2.0, grew.2.1, leads grew.2.0 grew.2.1 grew.2.2, grew.2.3), grew.3)

pub told_grew : (Bad Other : ℕ → ℕ → Type 0) (old new : Option (List ℕ)) → ((kind number : ℕ) → Bad kind number → Other kind number)
    → GrewBy old new (IsKeptText Bad) → GrewBy old new (IsKeptText Other)
told_grew Bad Other old new leads grew = (grew.0, (grew.1.0, grew.1.1, leads grew.1.0 grew.1.1 grew.1.2, grew.1.3), grew.2)

-- ---- a keeper that wasn't asked leaves what it left

pub leaves_still : {P : Type 0} (keeps : P → Rows → Type 0) (tells : P → Type 0) (leaves : P → Rows → Rows → Type 0) (input : Option (List ℕ)) (k : P) → LeavesEither keeps tells leaves input k k
leaves_still keeps tells leaves input k = λ rows kept left told. inl left

-- ---- by the text that a setup was read from

module _ {P : Type 0} (keeps : P → Rows → Type 0) (tells : P → Type 0) (leaves : P → Rows → Rows → Type 0) (old new : P) (text own : List ℕ) (setup : Parts)
    (reads : IsReadAs text setup) (same : own ≡ text) where
  pub has_amended : ((rows : Rows) → keeps old rows → tells new → (after : Rows) × ComesOf own setup rows after × keeps new after × leaves new after after) → HasAmended keeps tells leaves old new text
  has_amended all = record {
    setup = setup;
    reads = reads;
    rows = λ rows kept told.
        let of = all rows kept told in (of.0, subst (λ (t : List ℕ). ComesOf t setup rows of.0) same of.1, of.2, of.3);
  }

  either : (rows : Rows) → leaves new rows rows ⊎ ((after : Rows) × ComesOf own setup rows after × leaves new rows after)
      → leaves new rows rows
      ⊎ ((it : List ℕ) × (set : Parts) × (after : Rows) × (it ≡ text) × IsReadAs it set × ComesOf it set rows after × leaves new rows after)
  either rows (inl left) = inl left
  either rows (inr of) = inr (text, setup, of.0, refl, reads, subst (λ (t : List ℕ). ComesOf t setup rows of.0) same of.1, of.2)

  pub leaves_either : ((rows : Rows) → keeps old rows → leaves old rows rows → tells new → leaves new rows rows ⊎ ((after : Rows) × ComesOf own setup rows after × leaves new rows after))
      → LeavesEither keeps tells leaves (Some text) old new
  leaves_either all = λ rows kept left told. either rows (all rows kept left told)

  pub in_the_way : (kind number : ℕ) → ((rows : Rows) → keeps old rows → tells new → IsInTheWay own setup rows kind number) → HasInTheWay keeps tells old new text kind number
  in_the_way kind number all = (setup, reads, λ rows kept told. subst (λ (t : List ℕ). IsInTheWay t setup rows kind number) same (all rows kept told))
