use Rattle.std.proofs.Common.{◌≡◌, ◌++◌, drop, map}
use Rattle.fields.specs.SetupParts.{parts, names_in}
use Rattle.tracker_machine.specs.Show.{shown_fields}
use Rattle.issue_calls.proofs.show.put_own_fields.Given as goal

-- what is left to be put comes to the same
abbrev pub invariant-loop-field : goal.invariant-loop-field
invariant-loop-field l =
    l.fn.fields ++ shown_fields (names_in (parts l.setup)) l.issue.history (map (λ f. f.number.0) l.own)
    ≡ l.fields ++ shown_fields (names_in (parts l.setup)) l.issue.history (map (λ f. f.number.0) (drop l.field-index l.own))
