use Rattle.std.proofs.Common.{◌≡◌, ◌++◌, drop, map}
use Rattle.std.specs.Prelude.{filter}
use Rattle.tracker_machine.specs.IssueList.{is_one_of}
use Rattle.page_calls.proofs.wanted.those_among.Given as goal

abbrev pub invariant-loop-number : goal.invariant-loop-number
invariant-loop-number l =
    filter (is_one_of (map (λ f. f.0) l.named)) (map (λ f. f.0) l.all)
    ≡ map (λ f. f.0) l.numbers.items ++ filter (is_one_of (map (λ f. f.0) l.named)) (map (λ f. f.0) (drop l.number-index l.all))
