use Rattle.std.proofs.Common.{◌∙◌, arith, rules}
use Rattle.tracker_issues.proofs.Keys.{same_found}
use Rattle.tracker_issues.proofs.issues.Issues.reserve.Goals as goal

pub invariant_of-self-2 : goal.invariant_of-self-2
invariant_of-self-2 c = record {
  found = λ name. same_found c.self.inside.by_key c.reserve-3.new.self c.reserve-3.ensures.entries.2 name ∙ c.self.invariant.found name ∙ search rules;
  counted = search rules;
  weighed = search rules;
  fits = omega (arith, c.in_ok-reserve.ensures.ok);
  noted_fits = omega (arith, c.in_ok-reserve-2.ensures.ok);
  indexed = c.in_ok-reserve-3.ensures.ok;
}
