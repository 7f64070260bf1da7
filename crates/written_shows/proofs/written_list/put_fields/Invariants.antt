use Rattle.std.proofs.Common.{◌≡◌, drop, map}
use Rattle.fields.specs.SetupParts.{parts, names_in}
use Rattle.written_shows.specs.Written.{members_by, with_present}
use Rattle.written_shows.proofs.written_list.put_fields.Given as goal

-- what is left to be put comes to the same
abbrev pub invariant-loop-field : goal.invariant-loop-field
invariant-loop-field l =
    with_present (names_in (parts l.setup)) l.issue.history (members_by (names_in (parts l.setup)) l.issue.history l.fn.sorted) (map (λ f. f.0) l.fields)
    ≡ with_present (names_in (parts l.setup)) l.issue.history (members_by (names_in (parts l.setup)) l.issue.history l.sorted) (map (λ f. f.0) (drop l.field-index l.fields))
