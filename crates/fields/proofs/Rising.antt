-- The members of groups rise.
use Rattle.std.proofs.Common.{◌≡◌, ℕ, List, get_or, true}
use Rattle.std.specs.List.{list_all}
use Rattle.std.proofs.lemmas.List.Sums.{AllPass-from_list_all}
use Rattle.field_values.specs.declared.parts.Group.{Group}
use Rattle.field_values.specs.GroupMembers.{HaveRising}
use Rattle.fields.specs.Sound.{has_members_in}
use Rattle.field_values.proofs.Rising.{users_rise}

pub members_rise : (count : ℕ) (groups : List Group) → list_all (has_members_in count) groups ≡ true → HaveRising groups
members_rise count groups all k d inside = users_rise count ((get_or groups k d).members) (AllPass-from_list_all (has_members_in count) groups all k d inside)
