-- The members of groups rise.
use Rattle.std.proofs.Common.{◌≡◌, ℕ, zero, suc, ◌==◌, List, [], ◌∷◌, true, inl, inr, refl}
use Rattle.std.specs.Prelude.{slice_get, unwrap_or, ◌-◌}
use Rattle.std.specs.List.{list_all}
use Rattle.std.proofs.lemmas.Bool.{cases_Bool, and_parts}
use Rattle.field_values.specs.declared.numbers.UserNo.{UserNo}
use Rattle.field_values.specs.declared.numbers.GroupNo.{GroupNo}
use Rattle.field_values.specs.GroupMembers.{is_user_list, AreRising}
use Rattle.field_values.proofs.Rising.{users_rise}
use Rattle.jql_meaning.specs.Surroundings.{Surroundings, members_of}

get-rise : (count : ℕ) (groups : List (List UserNo)) (k : ℕ) → list_all (is_user_list count) groups ≡ true → AreRising (unwrap_or (slice_get groups k) [])
get-rise count [] k all = users_rise count [] refl
get-rise count (group ∷ groups) zero all = users_rise count group (and_parts (is_user_list count group) (list_all (is_user_list count) groups) all).0
get-rise count (group ∷ groups) (suc k) all = get-rise count groups k (and_parts (is_user_list count group) (list_all (is_user_list count) groups) all).1

-- the users of a group rise
pub members-rise : (s : Surroundings) (group : GroupNo) → list_all (is_user_list 65_536) s.members ≡ true → AreRising (members_of s group)
members-rise s group all =
    elim (cases_Bool (group.0 == 0)) [
      | inl none ↦ rw none (users_rise 65_536 [] refl)
      | inr some ↦ rw some (get-rise 65_536 s.members (group.0 - 1) all)
    ]
