use Rattle.std.proofs.Common.{◌≡◌, map, take}
use Rattle.issue_csv.proofs.record_text.lent.Given as goal

abbrev pub invariant-loop-field : goal.invariant-loop-field
invariant-loop-field l = map (λ f. f.now) l.lent.items ≡ take l.field-index l.fields
