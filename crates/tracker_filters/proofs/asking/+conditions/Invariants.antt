use Rattle.std.proofs.Common.{◌≡◌, false, take}
use Rattle.std.specs.List.{list_any}
use Rattle.tracker_filters.proofs.Asked.{asks}
use Rattle.tracker_filters.proofs.asking.+conditions.Given as goal

-- none of those before this one does
abbrev pub invariant-one_asks-loop-cond : goal.invariant-one_asks-loop-cond
invariant-one_asks-loop-cond l = list_any asks (take l.cond-index l.conds) ≡ false
