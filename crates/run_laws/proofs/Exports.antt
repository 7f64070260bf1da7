-- Rows that are written are read back, and so is an export.
use Rattle.std.proofs.Common.{◌≡◌, ◌≤◌, ◌+◌, ◌-◌, ◌∙◌, ℕ, zero, suc, List, [], ◌∷◌, ◌++◌, refl, ap, subst, arith}
use Rattle.std.proofs.lemmas.List.{length-append}
use Rattle.std.specs.Prelude.{length, map, unwrap_or, if◌then◌else◌}
use Rattle.csv.specs.Machine.{next_record}
use Rattle.csv.specs.Reading.{records, records_from, default_config, strip_bom}
use Rattle.csv.specs.Writing.{default_writer, read_back, row_text, row_body, is_blank, fields_text}
use Rattle.csv.specs.declared.parser.State.TheVariants as st
use Rattle.csv.proofs.RoundTrip.{read-write}
use Rattle.external_ids.specs.declared.external_id.ExternalId.{ExternalId}
use Rattle.field_forms.specs.Known.{Names}
use Rattle.fields.specs.SetupParts.{names_in}
use Rattle.change_history.specs.History.{History}
use Rattle.issue_csv.specs.Reading.{records_of}
use Rattle.issue_csv.specs.Writing.{record_text, export_header, header_text}
use Rattle.tracker_machine.specs.Machine.{Machine}
use Rattle.tracker_import.specs.Export.{export_text, issues_text, external_at}
use Rattle.run_laws.specs.Exports.{exported_columns, exported_records, ExportsAreReadBack}

-- ---- rows

abbrev rows_text : List (List (List ℕ)) → List ℕ
rows_text [] = []
rows_text (row ∷ rows) = record_text row ++ rows_text rows

-- behind the last row nothing is read
no_more : (turns : ℕ) → records_from default_config turns st.StartRecord [] ≡ []
unfolding records_from next_record
no_more zero = refl
no_more (suc turns) = refl

-- so many turns as there are rows, and some more
abbrev turns_for : List (List (List ℕ)) → ℕ → ℕ
turns_for [] more = more
turns_for (row ∷ rows) more = suc (turns_for rows more)

so_many : (rows : List (List (List ℕ))) (more : ℕ) → turns_for rows more ≡ length rows + more
so_many [] more = omega arith
so_many (row ∷ rows) more = let rest = so_many rows more in omega (arith, rest)

read_rows : (rows : List (List (List ℕ))) (more : ℕ) → records_from default_config (turns_for rows more) st.StartRecord (rows_text rows) ≡ map read_back rows
unfolding records_from
read_rows [] more = no_more more
read_rows (row ∷ rows) more = rw (read-write row (rows_text rows)) (ap (λ (t : List (List (List ℕ))). read_back row ∷ t) (read_rows rows more))

-- a row's text has a byte at least
some_bytes : (row : List (List ℕ)) → 1 ≤ length (record_text row)
some_bytes row =
    let body = row_body default_writer row in
    let mark = if is_blank default_writer row then 34 ∷ 34 ∷ [] else [] in
    let all : length (body ++ (mark ++ (10 ∷ []))) ≡ length body + length (mark ++ (10 ∷ [])) = length-append body (mark ++ (10 ∷ [])) in
    let last : length (mark ++ (10 ∷ [])) ≡ length mark + 1 = length-append mark (10 ∷ []) in
    omega (arith, all, last)

as_long : (rows : List (List (List ℕ))) → length rows ≤ length (rows_text rows)
as_long [] = omega arith
as_long (row ∷ rows) =
    let one = some_bytes row in
    let rest = as_long rows in
    let all : length (record_text row ++ rows_text rows) ≡ length (record_text row) + length (rows_text rows) = length-append (record_text row) (rows_text rows) in
    omega (arith, one, rest, all)

rows_are_read_back : (rows : List (List (List ℕ))) → records default_config (rows_text rows) ≡ map read_back rows
rows_are_read_back rows =
    let more : ℕ = length (rows_text rows) + 1 - length rows in
    let long = as_long rows in
    let count = so_many rows more in
    let turns : turns_for rows more ≡ length (rows_text rows) + 1 = omega (arith, long, count) in
    subst (λ n. records_from default_config n st.StartRecord (rows_text rows) ≡ map read_back rows) turns (read_rows rows more)

-- ---- an export

issues_are_rows : (names : Names) (ids : List ExternalId) (hs : List History) → issues_text names ids hs ≡ rows_text (map (exported_columns names ids) hs)
issues_are_rows names ids [] = refl
issues_are_rows names ids (h ∷ hs) = ap (λ t. record_text (exported_columns names ids h) ++ t) (issues_are_rows names ids hs)

export_is_rows : (m : Machine) → export_text m ≡ rows_text (exported_records m)
unfolding export_text
export_is_rows m = ap (λ t. header_text ++ t) (issues_are_rows (names_in m.setup) m.externals m.histories)

-- it begins with no byte order mark
no_mark : (rows : List (List (List ℕ))) → strip_bom (rows_text (export_header ∷ rows)) ≡ rows_text (export_header ∷ rows)
unfolding strip_bom fields_text is_blank
no_mark rows = refl

-- no record is without a field
none_is_empty : (names : Names) (ids : List ExternalId) (hs : List History) → map read_back (map (exported_columns names ids) hs) ≡ map (exported_columns names ids) hs
none_is_empty names ids [] = refl
none_is_empty names ids (h ∷ hs) = ap (λ (t : List (List (List ℕ))). exported_columns names ids h ∷ t) (none_is_empty names ids hs)

pub exports_are_read_back : ExportsAreReadBack
exports_are_read_back m =
    let columns : List History → List (List (List ℕ)) = map (exported_columns (names_in m.setup) m.externals) in
    ap records_of (export_is_rows m)
    ∙ ap (records default_config) (no_mark (columns m.histories))
    ∙ rows_are_read_back (exported_records m)
    ∙ ap (λ (t : List (List (List ℕ))). export_header ∷ t) (none_is_empty (names_in m.setup) m.externals m.histories)
