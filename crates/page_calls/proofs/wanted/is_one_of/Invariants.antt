use Rattle.std.proofs.Common.{◌≡◌, drop, map}
use Rattle.tracker_machine.specs.IssueList.{is_one_of}
use Rattle.page_calls.proofs.wanted.is_one_of.Given as goal

abbrev pub invariant-loop-one : goal.invariant-loop-one
invariant-loop-one l =
    is_one_of (map (λ f. f.0) l.named) l.number.0 ≡ is_one_of (map (λ f. f.0) (drop l.one-index l.named)) l.number.0
