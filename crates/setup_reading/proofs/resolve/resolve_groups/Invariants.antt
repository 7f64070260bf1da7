use Rattle.std.proofs.Common.{◌≡◌, drop, take, map, length}
use Rattle.setup_reading.specs.Resolving.{first_over, group_unknown, group_resolved}
use Rattle.setup_reading.proofs.resolve.resolve_groups.Given as goal

abbrev pub invariant-loop-draft : goal.invariant-loop-draft
invariant-loop-draft l =
    (first_over (group_unknown l.users) l.drafts ≡ first_over (group_unknown l.users) (drop l.draft-index l.drafts))
    × (map (group_resolved l.users) (take l.draft-index l.drafts) ≡ l.groups)
    × (length l.groups ≡ l.draft-index)
