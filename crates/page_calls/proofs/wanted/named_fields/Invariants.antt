use Rattle.std.proofs.Common.{◌≡◌, ◌++◌, drop, map}
use Rattle.tracker_machine.specs.IssueList.{names_are_fields, named_fields}
use Rattle.page_calls.proofs.wanted.named_fields.Given as goal

-- what refuses a name stands among those that are left
abbrev pub invariant-loop-name : goal.invariant-loop-name
invariant-loop-name l =
    (names_are_fields l.setup.field l.names ≡ names_are_fields l.setup.field (drop l.name-index l.names))
    × (named_fields l.setup.field l.names ≡ map (λ f. f.0) l.numbers.items ++ named_fields l.setup.field (drop l.name-index l.names))
