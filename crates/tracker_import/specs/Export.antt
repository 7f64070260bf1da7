-- What an export writes of a tracker, and how it ends.
use Rattle.std.specs.Prelude.{◌≡◌, ℕ, List, [], ◌∷◌, ◌++◌, Option, option_map, Result, Ok, Err}
use Rattle.std.specs.Io.KnownBytes.{Appends}
use Rattle.rising_numbers.specs.ByNumber.{by_number}
use Rattle.external_ids.specs.declared.external_id.ExternalId.{ExternalId}
use Rattle.external_ids.specs.Ids.{external_number}
use Rattle.field_forms.specs.Known.{Names}
use Rattle.fields.specs.SetupParts.{names_in}
use Rattle.change_history.specs.History.{History}
use Rattle.issue_csv.specs.Writing.{header_text, issue_text}
use Rattle.tracker_machine.specs.Machine.{Machine}
use Rattle.tracker_import.specs.declared.export.ExportEnd.{ExportEnd}
use Rattle.tracker_import.specs.declared.export.ExportEnd.TheVariants.{Done, WriteFault, Memory}

-- the external id of the issue of that number, if it has one
abbrev pub external_at : List ExternalId → ℕ → Option (List ℕ)
external_at ids number = option_map (λ e. e.id) (by_number external_number number ids)

-- a record of each of these issues, where these are the external ids
abbrev pub issues_text : Names → List ExternalId → List History → List ℕ
issues_text names ids [] = []
issues_text names ids (h ∷ hs) =
    issue_text names h (external_at ids h.no.0) ++ issues_text names ids hs

-- the header, and a record of each issue by number
unfoldable pub export_text : Machine → List ℕ
export_text m = header_text ++ issues_text (names_in m.setup) m.externals m.histories

-- ---- how it ends

-- a front of a text was written
abbrev pub WritesFront : Option (List ℕ) → Option (List ℕ) → List ℕ → Type 0
WritesFront taken_old taken_new text =
    (front : List ℕ) × (back : List ℕ) × (text ≡ front ++ back) × Appends taken_old taken_new front

-- all of the text was written, or a front of it
abbrev pub EndsExport : List ℕ → Option (List ℕ) → Option (List ℕ) → ExportEnd → Type 0
EndsExport text taken_old taken_new Done = Appends taken_old taken_new text
EndsExport text taken_old taken_new WriteFault = WritesFront taken_old taken_new text
EndsExport text taken_old taken_new Memory = WritesFront taken_old taken_new text

-- ---- on the way

-- some of what was pending was written, and the rest is pending; or a front of it was written
abbrev pub PassesOn : {T E : Type 0} → Option (List ℕ) → Option (List ℕ) → List ℕ → List ℕ
    → Result T E → Type 0
PassesOn taken_old taken_new old new (Ok x) =
    (written : List ℕ) × (old ≡ written ++ new) × Appends taken_old taken_new written
PassesOn taken_old taken_new old new (Err e) = WritesFront taken_old taken_new old
