use Rattle.std.proofs.Common.{◌≡◌, ℕ, List, false, drop}
use Rattle.tracker_calls.specs.Given.{has_twins}
use Rattle.tracker_calls.specs.Seen.{seen_by}
use Rattle.tracker_calls.proofs.Twins.{same_name}
use Rattle.tracker_calls.proofs.given.many_have_twins.Given as goal

-- the names that were seen have no twins, and each is found
abbrev pub invariant-loop-place : goal.invariant-loop-place
invariant-loop-place l = record {
  none : has_twins (drop l.place l.fields) ≡ false;
  seen : (name : List ℕ) → seen_by l.seen name ≡ same_name (drop l.place l.fields) name;
}
