use Rattle.std.proofs.Common.{◌≡◌, ℕ, List, [], drop, take}
use Rattle.std.specs.BTreeSet.{contains_text}
use Rattle.std.specs.Str.{str_to_ascii_lowercase}
use Rattle.field_forms.specs.Names.{is_among, first_double}
use Rattle.name_index.proofs.doubles.first_double.Given as goal

abbrev pub invariant-loop-name : goal.invariant-loop-name
invariant-loop-name l =
    (first_double [] l.names ≡ first_double (take l.name-index l.names) (drop l.name-index l.names))
    × ((other : List ℕ) → contains_text l.seen (str_to_ascii_lowercase other) ≡ is_among (take l.name-index l.names) other)
