-- Links that are told, one of which was taken.
use Rattle.std.proofs.Common.{◌≡◌, List, [], ◌∷◌, true, Option, None, Some, IsSome, refl, ap}
use Rattle.tracker_rounds.specs.Left.{none_left}
use Rattle.tracker_server.specs.Links.{TakesLink}
use Rattle.tracker_server.specs.declared.links.NextLink.{NextLink}
use Rattle.tracker_server.specs.declared.links.NextLink.TheVariants as link

-- they are told on
pub told_on : {S T C : Type 0} (before after : Option (List (S × T × C))) (next : NextLink S T C) → TakesLink before after next → IsSome before → IsSome after
told_on None after next takes told = cc told
told_on (Some ahead) None next takes told = absurd takes
told_on (Some ahead) (Some later) next takes told = refl

-- none is left where none came
pub ended_told : {S T C : Type 0} (before after : Option (List (S × T × C))) (next : NextLink S T C) → TakesLink before after next → IsSome before → next ≡ link.End
    → none_left after ≡ true
ended_told None after next takes told end = cc told
ended_told (Some ahead) None next takes told end = absurd takes
ended_told (Some ahead) (Some later) (link.Link source sink clock) takes told end = cc end
ended_told (Some ahead) (Some later) link.End takes told end = ap (λ l. none_left (Some l)) takes.1
ended_told (Some ahead) (Some later) link.Failed takes told end = cc end

pub none_left_is : {L : Type 0} (links : Option (List L)) → none_left links ≡ true → links ≡ Some []
none_left_is None none = cc none
none_left_is (Some []) none = refl
none_left_is (Some (link ∷ links)) none = cc none
