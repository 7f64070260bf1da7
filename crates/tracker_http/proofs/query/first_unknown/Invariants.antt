use Rattle.std.proofs.Common.{◌≡◌, ℕ, List, Bor, map, drop, option_map}
use Rattle.tracker_http.specs.Query.{others, first_of, first_unknown}
use Rattle.tracker_http.proofs.query.first_unknown.Given as goal

abbrev pub invariant-loop-pair : goal.invariant-loop-pair
invariant-loop-pair l =
    first_of (option_map (λ (name : Bor (List ℕ)). name.now) l.least) (others (map (λ (n : Bor (List ℕ)). n.now) l.known) (drop l.pair-index l.pairs))
    ≡ first_unknown (map (λ (n : Bor (List ℕ)). n.now) l.known) l.pairs
