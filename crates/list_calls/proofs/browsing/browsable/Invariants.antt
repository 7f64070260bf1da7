use Rattle.std.proofs.Common.{◌≡◌, map, take}
use Rattle.std.specs.List.{list_any}
use Rattle.field_values.specs.GroupMembers.{has_member}
use Rattle.list_calls.proofs.browsing.browsable.Given as goal

-- the projects up to this place are in the table
abbrev pub invariant-loop-place : goal.invariant-loop-place
invariant-loop-place l = l.table.items ≡ map (λ p. list_any (has_member l.setup.group l.user.0) p.browse) (take l.place l.setup.project)
