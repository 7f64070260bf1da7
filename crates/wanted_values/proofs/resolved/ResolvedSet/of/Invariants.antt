use Rattle.std.proofs.Common.{◌≡◌, take, map}
use Rattle.wanted_values.specs.Resolved.{resolved, named_in}
use Rattle.wanted_values.proofs.resolved.ResolvedSet.of.Given as goal

-- the names so far, and what is given by them
abbrev pub invariant-loop-given : goal.invariant-loop-given
invariant-loop-given l = record {
  named : map resolved l.names ≡ map (named_in l.setup.field) (take l.given-index l.set);
  given : map (λ r. r.given.now) l.names ≡ map (λ g. g.given) (take l.given-index l.set);
}
