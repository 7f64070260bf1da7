-- The part of a list that a call asks for.
use Rattle.std.specs.Prelude.{ℕ, not, ◌&&◌, List, Option, Some, None, codes, if◌then◌else◌, nat_le, take, drop}
use Rattle.tracker_calls.specs.declared.call.Part.{Part}

-- the member of a part that is out of range, of a call that no line gave
abbrev pub part_fault : ℕ → Part → Option (List ℕ)
part_fault most part =
    if not (nat_le part.from 2_000_000) then Some (codes "from")
    else (if not (nat_le 1 part.count && nat_le part.count most) then Some (codes "count")
    else None)

-- the part of a list
abbrev pub part_of : {A : Type 0} → Part → List A → List A
part_of part all = take part.count (drop part.from all)
