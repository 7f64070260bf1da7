-- An export, opened again as CSV.
use Rattle.std.specs.Prelude.{◌≡◌, List, [], ◌∷◌, map, unwrap_or, ℕ}
use Rattle.external_ids.specs.declared.external_id.ExternalId.{ExternalId}
use Rattle.field_forms.specs.Known.{Names}
use Rattle.fields.specs.SetupParts.{names_in}
use Rattle.change_history.specs.History.{History}
use Rattle.issue_csv.specs.Reading.{records_of}
use Rattle.issue_csv.specs.Writing.{columns_of, export_header}
use Rattle.tracker_machine.specs.Machine.{Machine}
use Rattle.tracker_import.specs.Export.{external_at, export_text}

-- the columns of an issue, where these are the external ids
abbrev pub exported_columns : Names → List ExternalId → History → List (List ℕ)
exported_columns names ids h = columns_of names h (unwrap_or (external_at ids h.no.0) [])

-- the records of an export: the header, and then each issue by number
abbrev pub exported_records : Machine → List (List (List ℕ))
exported_records m =
    export_header ∷ map (exported_columns (names_in m.setup) m.externals) m.histories

-- just these are read from its text: no column is split, lost or joined with another, whatever stands in it
abbrev pub ExportsAreReadBack : Type 0
ExportsAreReadBack = (m : Machine) → records_of (export_text m) ≡ exported_records m
