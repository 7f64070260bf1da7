use Rattle.std.proofs.Common.{◌≡◌, ◌+◌, drop}
use Rattle.rising_numbers.specs.ByNumber.{free_from}
use Rattle.rising_numbers.proofs.lookup.free_number.Given as goal

-- so many are taken, and it is the least free number from there on of those that are left
abbrev pub invariant-loop-thing : goal.invariant-loop-thing
invariant-loop-thing g l = record {
  count : l.free ≡ l.thing-index + 1;
  left : free_from g.T.Numbered.number l.free (drop l.thing-index l.things) ≡ free_from g.T.Numbered.number 1 l.things;
}
