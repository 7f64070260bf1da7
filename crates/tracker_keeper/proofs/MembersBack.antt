-- The body of a group's members is read as them, and what is read may be kept.
use Rattle.std.proofs.Common.{◌≡◌, ℕ, ◌<◌, ◌≤◌, ◌^◌, ◌&&◌, Bool, true, List, [], ◌∷◌, length, map, Some, nat_le, nat_lt, refl, sym, subst, arith, codes, le-leb, lt-ltb, leb-true}
use Rattle.std.specs.List.{list_all}
use Rattle.std.proofs.lemmas.Bool.{and_parts}
use Rattle.std.proofs.lemmas.Option.{cond_some, option_and_then_some}
use Rattle.field_values.specs.GroupMembers.{is_user_list}
use Rattle.field_values.specs.Parts.{Parts}
use Rattle.field_values.specs.declared.numbers.UserNo.{UserNo}
use Rattle.field_values.specs.declared.numbers.GroupNo.{GroupNo}
use Rattle.field_forms.specs.Names.{AreDistinct}
use Rattle.field_forms.specs.Known.{Names}
use Rattle.fields.specs.Sound.{part_names}
use Rattle.serde_json.specs.Data.{Data, string}
use Rattle.serde_json.specs.Read.{read}
use Rattle.serde_json.specs.View.{items_of}
use Rattle.serde_json.specs.Written.{compact_text}
use Rattle.tracker_keeper.specs.declared.part.Part.{Part}
use Rattle.tracker_keeper.specs.declared.part.Part.TheVariants as part
use Rattle.tracker_keeper.specs.Bodies.{members_data, user_names}
use Rattle.tracker_keeper.specs.Forms.{IsMembersPart}
use Rattle.tracker_keeper.specs.Kept.{IsPart, IsPartAt}
use Rattle.tracker_keeper.specs.LookingAtValues.{group_in, users_in, listed_users, members_at, members_like, items_at}
use Rattle.tracker_keeper.proofs.Clean.{reads_clean, clean_texts}
use Rattle.tracker_keeper.proofs.Found.{name_tells}
use Rattle.tracker_keeper.proofs.Fits.{option_map_some}

-- each is one of so many
abbrev are_users : ℕ → List UserNo → Bool
are_users count users = list_all (λ user. nat_lt user.0 count) users

all_inside : (count : ℕ) (users : List UserNo) → is_user_list count users ≡ true → are_users count users ≡ true
all_inside count [] h = refl
all_inside count (user ∷ []) h = grind (arith, h)
all_inside count (user ∷ next ∷ users) h =
    let parts = and_parts (nat_lt user.0 next.0) (is_user_list count (next ∷ users)) h in
    let rest : are_users count (next ∷ users) ≡ true = all_inside count (next ∷ users) parts.1 in
    grind (arith, parts.0, rest)

users_back : (users : List (List ℕ)) (members : List UserNo) → AreDistinct users → are_users (length users) members ≡ true
    → users_in users (items_of (map string (user_names users members))) ≡ Some members
users_back users [] distinct all = refl
users_back users (user ∷ members) distinct all =
    let parts = and_parts (nat_lt user.0 (length users)) (are_users (length users) members) all in
    rw (name_tells users user distinct parts.0, users_back users members distinct parts.1) refl

pub members_found : (names : Names) (group : GroupNo) (members : List UserNo) → AreDistinct names.users → length names.groups ≤ 100 → IsMembersPart names.users names.groups group.0 members
    → members_like names group.0 (members_data (user_names names.users members)) ≡ Some (part.Members group members)
unfolding members_data members_like
members_found names group members distinct few h =
    let there = h.there in
    let small : group.0 < 2 ^ 16 = omega (arith, there, few) in
    rw (le-leb 1 group.0 h.from_one, le-leb group.0 (length names.groups) there, lt-ltb group.0 (2 ^ 16) small)
    (rw (users_back names.users members distinct (all_inside (length names.users) members h.listed), h.listed) refl)

pub reads_members : (names : List (List ℕ)) → read (compact_text (members_data names)) ≡ Some (members_data names)
unfolding members_data
reads_members names = reads_clean 2 (members_data names) ((clean_texts 0 names, tt), (tt, tt)) (omega arith)

record IsGroupNumber (count row_no group : ℕ) : Type 0 where
  same : group ≡ row_no
  from_one : 1 ≤ row_no
  there : row_no ≤ count

group_tells : (count row_no group : ℕ) → group_in count row_no ≡ Some group → IsGroupNumber count row_no group
group_tells count row_no group e =
    let c = cond_some (nat_le 1 row_no && (nat_le row_no count && nat_lt row_no (2 ^ 16))) row_no group e in
    let first = and_parts (nat_le 1 row_no) (nat_le row_no count && nat_lt row_no (2 ^ 16)) c.0 in
    let rest = and_parts (nat_le row_no count) (nat_lt row_no (2 ^ 16)) first.1 in
    record { same = sym c.1; from_one = leb-true 1 row_no first.0; there = leb-true row_no count rest.0 }

members_tell : (users : List (List ℕ)) (d : Data) (members : List UserNo) → members_at users d ≡ Some members → is_user_list (length users) members ≡ true
members_tell users d members e =
    option_and_then_some (listed_users users) (items_at (codes "members") d) members e (λ ds ds_is e'.
    option_and_then_some _ (users_in users ds) members e' (λ found found_is e''.
    let c = cond_some (is_user_list (length users) found) found members e'' in
    subst (λ (us : List UserNo). is_user_list (length users) us ≡ true) c.1 c.0))

pub members_fit : (setup : Parts) (n : ℕ) (d : Data) (p : Part) → members_like (part_names setup) n d ≡ Some p → IsPartAt setup 10 n p
unfolding members_like IsPart
members_fit setup n d p e =
    option_and_then_some _ (group_in (length (part_names setup).groups) n) p e (λ group group_is e'.
    option_map_some _ (members_at setup.users d) p e' (λ members members_is p_is.
    let t = group_tells (length (part_names setup).groups) n group group_is in
    subst (IsPartAt setup 10 n) p_is (record {
      is_part = record {
        from_one = subst (λ (k : ℕ). 1 ≤ k) (sym t.same) t.from_one;
        there = subst (λ (k : ℕ). k ≤ length (part_names setup).groups) (sym t.same) t.there;
        listed = members_tell setup.users d members members_is;
      };
      kind_is = refl;
      number_is = t.same;
    })))
