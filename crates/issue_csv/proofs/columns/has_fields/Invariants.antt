use Rattle.std.proofs.Common.{◌≡◌, drop, map}
use Rattle.csv.specs.Records.{fields_of}
use Rattle.issue_csv.specs.Reading.{same_fields}
use Rattle.issue_csv.proofs.columns.has_fields.Given as goal

abbrev pub invariant-loop-i : goal.invariant-loop-i
invariant-loop-i l =
    same_fields (fields_of l.row) (map (λ s. s.now) l.names) ≡ same_fields (drop l.i (fields_of l.row)) (drop l.i (map (λ s. s.now) l.names))
