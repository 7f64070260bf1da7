-- The parts of groups' members, as a group gets others and as a new tracker's are put.
use Rattle.std.proofs.Common.{◌≡◌, ◌≢◌, ℕ, zero, suc, ◌+◌, ◌-◌, ◌<◌, ◌≤◌, ◌==◌, true, false, List, [], ◌∷◌, ◌++◌, length, slice_get, Option, Some, None, option_map, refl, sym, ap, ◌∙◌, subst, arith, inl, inr, ◌⊎◌, ne_eqb, eq-eqb}
use Rattle.std.specs.Prelude.{if◌then◌else◌}
use Rattle.std.specs.Option.{option_or}
use Rattle.std.proofs.lemmas.Bool.{cases_eq}
use Rattle.std.proofs.lemmas.List.Elements.{All-head, All-tail}
use Rattle.std.proofs.lemmas.Option.{same_Some, none-some}
use mathlib.Core.Path.{fun_ext}
use Rattle.field_values.specs.declared.numbers.GroupNo.{GroupNo}
use Rattle.field_values.specs.declared.numbers.UserNo.{UserNo}
use Rattle.field_values.specs.declared.parts.Group.{Group}
use Rattle.field_values.specs.GroupMembers.{with_members, is_user_list}
use Rattle.jql_meaning.specs.Surroundings.{numbered}
use Rattle.tracker_keeper.specs.declared.part.Part.{Part}
use Rattle.tracker_machine.specs.Kept.{Kind, kind_of, part_in, members_part, members_numbered, members_from}
use Rattle.tracker_machine.specs.Tracker.{HaveUsers}
use Rattle.tracker_machine.proofs.Puts.{has_kind, with_parts, part_set}

-- the members of a group that may be there
abbrev members_of : ℕ → Option Group → Option Part
members_of n o = option_map (λ g. members_part (record { 0 = n }) g.members) o

-- ---- the group of a number

-- the number of a place is one more
numbered_at : (groups : List Group) (n k : ℕ) → n ≡ k + 1 → numbered groups n ≡ slice_get groups k
numbered_at groups n k is = rw (ne_eqb n 0 (λ none. omega (arith, none, is))) (ap (slice_get groups) (omega (arith, is)))

-- a group at a place is one of them
at_there : (groups : List Group) (k : ℕ) (g : Group) → slice_get groups k ≡ Some g → k < length groups
at_there [] k g at = absurd (none-some g at)
at_there (x ∷ xs) zero g at = omega arith
at_there (x ∷ xs) (suc k) g at = omega (arith, at_there xs k g at)

at_has_users : (users : ℕ) (groups : List Group) (k : ℕ) (g : Group) → HaveUsers users groups → slice_get groups k ≡ Some g → is_user_list users g.members ≡ true
at_has_users users [] k g all at = absurd (none-some g at)
at_has_users users (x ∷ xs) zero g all at =
    subst (λ (y : Group). is_user_list users y.members ≡ true) (same_Some x g at) (All-head (λ y. is_user_list users y.members ≡ true) x xs all)
at_has_users users (x ∷ xs) (suc k) g all at = at_has_users users xs k g (All-tail (λ y. is_user_list users y.members ≡ true) x xs all) at

pub group_numbered_there : (groups : List Group) (n : ℕ) (g : Group) → numbered groups n ≡ Some g → (1 ≤ n) × (n ≤ length groups)
group_numbered_there groups zero g is = absurd (none-some g is)
group_numbered_there groups (suc k) g is =
    let inside = at_there groups k g (sym (numbered_at groups (suc k) k (omega arith)) ∙ is) in (omega arith, omega (arith, inside))

pub group_has_users : (users : ℕ) (groups : List Group) (n : ℕ) (g : Group) → HaveUsers users groups → numbered groups n ≡ Some g → is_user_list users g.members ≡ true
group_has_users users groups zero g all is = absurd (none-some g is)
group_has_users users groups (suc k) g all is = at_has_users users groups k g all (sym (numbered_at groups (suc k) k (omega arith)) ∙ is)

-- ---- a group gets other members

members_there : (groups : List Group) (k : ℕ) (members : List UserNo) (n : ℕ) → k < length groups
    → members_of n (slice_get (with_members groups k members) k) ≡ Some (members_part (record { 0 = n }) members)
members_there [] k members n in' = absurd (omega (arith, in'))
members_there (g ∷ gs) zero members n in' = refl
members_there (g ∷ gs) (suc k) members n in' = members_there gs k members n (omega (arith, in'))

others_stay : (groups : List Group) (k : ℕ) (members : List UserNo) (j : ℕ) → j ≢ k → slice_get (with_members groups k members) j ≡ slice_get groups j
others_stay [] k members j other = refl
others_stay (g ∷ gs) zero members zero other = absurd (other refl)
others_stay (g ∷ gs) zero members (suc j) other = refl
others_stay (g ∷ gs) (suc k) members zero other = refl
others_stay (g ∷ gs) (suc k) members (suc j) other = others_stay gs k members j (λ is. other (ap suc is))

others_numbered : (groups : List Group) (group : GroupNo) (members : List UserNo) (n : ℕ) → 1 ≤ group.0 → n ≢ group.0
    → numbered (with_members groups (group.0 - 1) members) n ≡ numbered groups n
others_numbered groups group members zero positive other = refl
others_numbered groups group members (suc k) positive other =
    numbered_at (with_members groups (group.0 - 1) members) (suc k) k (omega arith)
    ∙ (others_stay groups (group.0 - 1) members k (λ is. other (omega (arith, is, positive))) ∙ sym (numbered_at groups (suc k) k (omega arith)))

pub members_changed : (groups : List Group) (group : GroupNo) (members : List UserNo) (n : ℕ) → 1 ≤ group.0 → group.0 ≤ length groups
    → members_numbered (with_members groups (group.0 - 1) members) n ≡ (if group.0 == n then Some (members_part group members) else members_numbered groups n)
members_changed groups group members n positive there = by (cases_eq group.0 n)
  where
    by : (group.0 ≡ n) ⊎ (group.0 ≡ n → ⊥)
        → members_numbered (with_members groups (group.0 - 1) members) n ≡ (if group.0 == n then Some (members_part group members) else members_numbered groups n)
    by (inl same) =
        rw (eq-eqb group.0 n same)
        (subst (λ k. members_numbered (with_members groups (group.0 - 1) members) k ≡ Some (members_part group members)) same
        (ap (members_of group.0) (numbered_at (with_members groups (group.0 - 1) members) group.0 (group.0 - 1) (omega (arith, positive)))
        ∙ members_there groups (group.0 - 1) members group.0 (omega (arith, positive, there))))
    by (inr differ) =
        rw (ne_eqb group.0 n differ) (ap (members_of n) (others_numbered groups group members n positive (λ is. differ (sym is))))

-- ---- groups that are put one by one

-- the parts with the members of groups that are numbered from this number on
abbrev pub members_over : ℕ → List Group → (ℕ → Option Part) → ℕ → Option Part
members_over first [] parts = parts
members_over first (g ∷ gs) parts = members_over (first + 1) gs (λ n. if first == n then Some (members_part (record { 0 = first }) g.members) else parts n)

-- members that are put stand over those that were there
pub members_put : (before after : List Kind) (first : ℕ) (groups : List Group) (parts : ℕ → Option Part) → has_kind 10 before ≡ false
    → with_parts (members_from first groups) (part_in (before ++ kind_of 10 parts ∷ after)) ≡ part_in (before ++ kind_of 10 (members_over first groups parts) ∷ after)
members_put before after first [] parts free = refl
members_put before after first (g ∷ gs) parts free =
    let own : Part = members_part (record { 0 = first }) g.members in
    let more : ℕ → Option Part = λ n. if first == n then Some own else parts n in
    ap (with_parts (members_from (first + 1) gs)) (fun_ext (λ k. fun_ext (λ n. sym (part_set before after 10 first parts more (Some own) k n free refl))))
    ∙ members_put before after (first + 1) gs more free

-- those below are as before
over_below : (first : ℕ) (groups : List Group) (parts : ℕ → Option Part) (n : ℕ) → n < first → members_over first groups parts n ≡ parts n
over_below first [] parts n low = refl
over_below first (g ∷ gs) parts n low =
    over_below (first + 1) gs (λ i. if first == i then Some (members_part (record { 0 = first }) g.members) else parts i) n (omega (arith, low))
    ∙ rw (ne_eqb first n (λ is. omega (arith, is, low))) refl

over_from : (first : ℕ) (groups : List Group) (parts : ℕ → Option Part) (n j : ℕ) → n ≡ first + j
    → members_over first groups parts n ≡ option_or (members_of n (slice_get groups j)) (parts n)
over_from first [] parts n j is = refl
over_from first (g ∷ gs) parts n zero is =
    let own : ℕ → Part = λ k. members_part (record { 0 = k }) g.members in
    let here : first ≡ n = omega (arith, is) in
    over_below (first + 1) gs (λ i. if first == i then Some (own first) else parts i) n (omega (arith, is))
    ∙ rw (eq-eqb first n here) (ap (λ k. Some (own k)) here)
over_from first (g ∷ gs) parts n (suc j) is =
    over_from (first + 1) gs (λ i. if first == i then Some (members_part (record { 0 = first }) g.members) else parts i) n j (omega (arith, is))
    ∙ rw (ne_eqb first n (λ same. omega (arith, is, same))) refl

-- those of all groups
pub over_none : (groups : List Group) (parts : ℕ → Option Part) (n : ℕ) → parts n ≡ None → members_over 1 groups parts n ≡ members_numbered groups n
over_none groups parts zero none = over_below 1 groups parts zero (omega arith) ∙ none
over_none groups parts (suc j) none =
    over_from 1 groups parts (suc j) j (omega arith)
    ∙ (ap (option_or (members_of (suc j) (slice_get groups j))) none
    ∙ (or_none (members_of (suc j) (slice_get groups j)) ∙ ap (members_of (suc j)) (sym (numbered_at groups (suc j) j (omega arith)))))
  where
    or_none : (o : Option Part) → option_or o None ≡ o
    or_none None = refl
    or_none (Some p) = refl
