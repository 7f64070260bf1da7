use Rattle.std.proofs.Common.{◌≡◌, take}
use Rattle.short_lists.proofs.short_list.apart.Given as goal

-- so many are copied
abbrev pub invariant-loop-item : goal.invariant-loop-item
invariant-loop-item g l = l.list.items ≡ take l.item-index l.items
