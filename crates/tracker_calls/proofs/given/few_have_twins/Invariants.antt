use Rattle.std.proofs.Common.{◌≡◌, drop}
use Rattle.tracker_calls.specs.Given.{has_twins}
use Rattle.tracker_calls.proofs.given.few_have_twins.Given as goal

-- there are twins just where there are some among the names that weren't compared yet
abbrev pub invariant-loop-place : goal.invariant-loop-place
invariant-loop-place l = has_twins l.fields ≡ has_twins (drop l.place l.fields)
