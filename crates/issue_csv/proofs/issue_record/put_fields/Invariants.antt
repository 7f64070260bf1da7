use Rattle.std.proofs.Common.{◌≡◌, ◌++◌, map, take}
use Rattle.fields.specs.SetupParts.{parts, names_in}
use Rattle.issue_csv.specs.Writing.{column_of}
use Rattle.issue_csv.proofs.issue_record.put_fields.Given as goal

abbrev pub invariant-loop-field : goal.invariant-loop-field
invariant-loop-field l =
    l.columns ≡ l.initial.columns ++ map (column_of (names_in (parts l.setup)) l.issue.history) (take l.field-index l.fields)
