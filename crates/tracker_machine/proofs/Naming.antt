-- Names in `set`, looked at in byte order: worked values.
use Rattle.std.proofs.Common.{◌≡◌, [], ◌∷◌, codes, Some, None, refl}
use Rattle.field_forms.specs.Known.{field_named}
use Rattle.tracker_calls.specs.declared.given.Given.TheVariants as given
use Rattle.tracker_calls.specs.declared.cause.Cause.TheVariants as cause
use Rattle.tracker_calls.specs.declared.cause.Thing.TheVariants as thing
use Rattle.tracker_machine.specs.Checks.{names_refusal}

-- the first in byte order is refused, wherever it stands
pub last_stands_first : names_refusal [] None ((record { name = codes "zz"; given = given.Null }) ∷ (record { name = codes "aa"; given = given.Null }) ∷ []) ≡ Some (cause.Unknown thing.Field (codes "aa"))
unfolding field_named
last_stands_first = refl

-- a name that is refused is passed by one that stands for something
pub known_one_passes : names_refusal [] None ((record { name = codes "zz"; given = given.Null }) ∷ (record { name = codes "points"; given = given.Null }) ∷ []) ≡ Some (cause.Unknown thing.Field (codes "zz"))
unfolding field_named
known_one_passes = refl
