use Rattle.std.proofs.Common.{◌∙◌, arith}
use Rattle.external_ids.proofs.Index.{same_found}
use Rattle.external_ids.proofs.ids.ExternalIds.reserve.Goals as goal

pub invariant_of-self-2 : goal.invariant_of-self-2
invariant_of-self-2 c = rw (c.reserve.ensures.items) (record {
  rising = c.self.invariant.rising;
  own = c.self.invariant.own;
  found = λ id. same_found c.self.inside.by_id c.reserve-2.new.self c.reserve-2.ensures.entries.2 id ∙ c.self.invariant.found id;
  fits = omega (arith, c.in_ok-reserve.ensures.ok);
  indexed = c.in_ok-reserve-2.ensures.ok;
})
