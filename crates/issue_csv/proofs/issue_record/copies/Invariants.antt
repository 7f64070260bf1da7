use Rattle.std.proofs.Common.{◌≡◌, map, take}
use Rattle.issue_csv.proofs.issue_record.copies.Given as goal

abbrev pub invariant-loop-name : goal.invariant-loop-name
invariant-loop-name l = l.copies ≡ map (λ name. name.now) (take l.name-index l.names)
