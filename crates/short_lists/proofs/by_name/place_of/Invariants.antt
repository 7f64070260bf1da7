use Rattle.std.proofs.Common.{◌≡◌, ℕ, List, ◌++◌, take, drop, Bor}
use Rattle.std.specs.BTreeMap.{insert_entry}
use Rattle.short_lists.specs.ByName.{name_cmp}
use Rattle.short_lists.proofs.by_name.place_of.Given as goal

-- the name belongs behind those that were passed
abbrev pub invariant-loop-at : goal.invariant-loop-at
invariant-loop-at g l =
    (k : Bor (List ℕ)) (v : _) → k.now ≡ l.name
    → insert_entry name_cmp l.list k v
    ≡ take l.at l.list ++ insert_entry name_cmp (drop l.at l.list) k v
