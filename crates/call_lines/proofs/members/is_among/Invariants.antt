use Rattle.std.proofs.Common.{◌≡◌, Bor, List, ℕ, map, drop}
use Rattle.call_lines.specs.Asked.{is_among}
use Rattle.call_lines.proofs.members.is_among.Given as goal

abbrev pub invariant-loop-other : goal.invariant-loop-other
invariant-loop-other l = is_among l.name (map (λ (other : Bor (List ℕ)). other.now) l.names)
    ≡ is_among l.name (map (λ (other : Bor (List ℕ)). other.now) (drop l.other-index l.names))
