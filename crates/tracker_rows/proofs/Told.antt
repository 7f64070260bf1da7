-- The parts that rows have told: those of the tracker in the making, but present's of the format of the rows, and of the members of groups
-- those of the groups that rows have told.
use Rattle.std.proofs.Common.{◌≡◌, ℕ, zero, suc, ◌+◌, ◌-◌, ◌<◌, ◌≤◌, ◌==◌, ◌⊎◌, inl, inr, nat_le, false, List, [], ◌∷◌, ◌++◌, length, slice_get, Option, Some, None, option_map, refl, sym, ap, ◌∙◌, arith, eq-eqb, ne_eqb}
use Rattle.std.specs.Prelude.{if◌then◌else◌}
use Rattle.std.proofs.lemmas.Bool.{cases_eq, cases_lt, le-leb}
use Rattle.std.proofs.lemmas.Bool.Decides.{nat_tests}
use Rattle.std.proofs.lemmas.Option.{slice_get_past}
use mathlib.Core.Path.{fun_ext}
use Rattle.field_values.specs.declared.numbers.GroupNo.{GroupNo}
use Rattle.field_values.specs.declared.numbers.UserNo.{UserNo}
use Rattle.field_values.specs.declared.parts.Group.{Group as UserGroup}
use Rattle.field_values.specs.GroupMembers.{with_members}
use Rattle.fields.specs.SetupParts.{names_in}
use Rattle.jql_meaning.specs.Surroundings.{numbered}
use Rattle.tracker_keeper.specs.declared.part.Format.{Format}
use Rattle.tracker_keeper.specs.declared.part.Format.TheVariants.{First, Second}
use Rattle.tracker_keeper.specs.declared.part.Part.{Part}
use Rattle.tracker_keeper.specs.declared.part.Part.TheVariants as part
use Rattle.tracker_keeper.specs.Rows.{Rows}
use Rattle.tracker_machine.specs.Machine.{Machine}
use Rattle.tracker_machine.specs.Kept.{Kind, kind_of, part_in, setup_part, members_part, members_numbered, members_from, migrating_parts, part_at}
use Rattle.tracker_machine.proofs.Puts.{with_part, with_parts, texts, lone_kind, issue_kind, group_kind, rank_kind, external_kind, sprint_kind, filter_kind, board_kind, present_set}
use Rattle.tracker_machine.proofs.MemberRows.{members_changed, members_put, over_none}

-- ---- the parts

-- where the tracker stands, in rows of a format
abbrev pub present_in : Format → Machine → Part
present_in format m = part.Present m.balance m.change format m.moment

-- the members of the first so many groups
abbrev pub members_to : ℕ → List UserGroup → ℕ → Option Part
members_to told groups number = if nat_le number told then members_numbered groups number else None

abbrev pub told_kinds : Format → ℕ → Machine → List Kind
told_kinds format told m =
    lone_kind 1 (setup_part m)
    ∷ lone_kind 2 (present_in format m)
    ∷ issue_kind m.histories
    ∷ group_kind m.histories
    ∷ rank_kind m.order
    ∷ external_kind m.externals
    ∷ sprint_kind m.sprints
    ∷ filter_kind m.filters
    ∷ board_kind m.boards
    ∷ kind_of 10 (members_to told m.setup.group)
    ∷ []

unfoldable pub told_at : Format → ℕ → Machine → ℕ → ℕ → Option Part
told_at format told m kind number = part_in (told_kinds format told m) kind number

-- and their rows
abbrev pub told_rows : Format → ℕ → Machine → Rows
told_rows format told m = texts (names_in m.setup) (told_at format told m)

-- the first so many kinds, and those behind them
abbrev pub first_kinds : ℕ → List Kind → List Kind
first_kinds zero kinds = []
first_kinds (suc count) [] = []
first_kinds (suc count) (kind ∷ kinds) = kind ∷ first_kinds count kinds

abbrev pub kinds_behind : ℕ → List Kind → List Kind
kinds_behind zero kinds = kinds
kinds_behind (suc count) [] = []
kinds_behind (suc count) (kind ∷ kinds) = kinds_behind count kinds

-- ---- members

not_up_to : (told n : ℕ) → told < n → nat_le n told ≡ false
not_up_to told n more = grind (arith, nat_tests, more)

-- none is told
pub none_told : (groups : List UserGroup) (n : ℕ) → members_to 0 groups n ≡ None
none_told groups zero = refl
none_told groups (suc n) = rw (not_up_to 0 (suc n) (omega arith)) refl

-- the next group has told its members
pub members_told : (groups : List UserGroup) (told : ℕ) (group : GroupNo) (members : List UserNo) (n : ℕ) → group.0 ≡ told + 1 → group.0 ≤ length groups
    → members_to (told + 1) (with_members groups (group.0 - 1) members) n ≡ (if group.0 == n then Some (members_part group members) else members_to told groups n)
members_told groups told group members n next there =
    by (cases_eq group.0 n) (cases_lt told n) (members_changed groups group members n (omega (arith, next)) there)
  where
    later : List UserGroup
    later = with_members groups (group.0 - 1) members

    by : (group.0 ≡ n) ⊎ (group.0 ≡ n → ⊥) → (told < n) ⊎ (n ≤ told)
        → members_numbered later n ≡ (if group.0 == n then Some (members_part group members) else members_numbered groups n)
        → members_to (told + 1) later n ≡ (if group.0 == n then Some (members_part group members) else members_to told groups n)
    by (inl same) more is = rw (le-leb n (told + 1) (omega (arith, same, next))) (is ∙ rw (eq-eqb group.0 n same) refl)
    by (inr differ) (inl more) is = rw (ne_eqb group.0 n differ, not_up_to (told + 1) n further, not_up_to told n more) refl
      where
        further : told + 1 < n
        further = elim (cases_lt (told + 1) n) [ inl lt ↦ lt | inr le ↦ absurd (differ (omega (arith, next, more, le))) ]
    by (inr differ) (inr le) is =
        rw (le-leb n (told + 1) (omega (arith, le)), le-leb n told le) is

-- all groups have told theirs
pub members_all_told : (groups : List UserGroup) (told n : ℕ) → length groups ≤ told → members_to told groups n ≡ members_numbered groups n
members_all_told groups told n all = by (cases_lt told n)
  where
    at_place : (groups : List UserGroup) (k : ℕ) → numbered groups (suc k) ≡ slice_get groups k
    at_place groups k = rw (ne_eqb (suc k) 0 (λ none. absurd (omega (arith, none)))) (ap (slice_get groups) (omega arith))

    past : (n : ℕ) → told < n → members_numbered groups n ≡ None
    past zero more = absurd (omega (arith, more))
    past (suc k) more =
        ap (option_map (λ g. members_part (record { 0 = suc k }) g.members)) (at_place groups k ∙ slice_get_past groups k (omega (arith, all, more)))

    by : (told < n) ⊎ (n ≤ told) → members_to told groups n ≡ members_numbered groups n
    by (inl more) = rw (not_up_to told n more) (sym (past n more))
    by (inr le) = rw (le-leb n told le) refl

-- ---- all parts of a tracker

-- in rows of the second format, once all groups have told their members
pub all_told : (told : ℕ) (m : Machine) → length m.setup.group ≤ told → told_at Second told m ≡ part_at m
unfolding told_at part_at
all_told told m all = fun_ext (λ k. fun_ext (λ n.
    ap (λ (o : Option Part). part_in (first_kinds 9 (told_kinds Second told m) ++ kind_of 10 (λ i. o) ∷ []) k n) (members_all_told m.setup.group told n all)))

-- ---- migrations

present_put : (m : Machine) → with_part (present_in Second m) (told_at First 0 m) ≡ told_at Second 0 m
unfolding told_at
present_put m = fun_ext (λ k. fun_ext (λ n. sym (present_set (setup_part m) (present_in First m) (present_in Second m) (kinds_behind 2 (told_kinds First 0 m)) k n)))

all_put : (m : Machine) → with_parts (members_from 1 m.setup.group) (told_at Second 0 m) ≡ part_at m
unfolding told_at part_at
all_put m =
    let before : List Kind = first_kinds 9 (told_kinds Second 0 m) in
    members_put before [] 1 m.setup.group (members_to 0 m.setup.group) refl
    ∙ fun_ext (λ k. fun_ext (λ n.
    ap (λ (o : Option Part). part_in (before ++ kind_of 10 (λ i. o) ∷ []) k n)
    (over_none m.setup.group (members_to 0 m.setup.group) n (none_told m.setup.group n))))

-- the parts that rows of the first format tell are a tracker's with those that they lack
pub migrated : (m : Machine) → with_parts (migrating_parts m) (told_at First 0 m) ≡ part_at m
migrated m = ap (with_parts (members_from 1 m.setup.group)) (present_put m) ∙ all_put m
