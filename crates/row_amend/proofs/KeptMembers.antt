-- Groups that come to their members one by one.
use Rattle.std.proofs.Common.{◌≡◌, ℕ, zero, suc, ◌<◌, true, List, [], ◌∷◌, length, ◌+◌, map, slice_get, Option, Some, None, refl, sym, ap, ◌∙◌, subst, arith}
use Rattle.std.specs.Prelude.{IfSome}
use Rattle.std.specs.List.{All}
use Rattle.std.proofs.lemmas.List.Elements.{All-head, All-tail}
use Rattle.std.proofs.lemmas.Option.{none-some, same_Some}
use Rattle.field_values.specs.Parts.{Parts}
use Rattle.field_values.specs.declared.parts.Group.{Group}
use Rattle.field_values.specs.GroupMembers.{with_members, is_user_list}
use Rattle.fields.specs.Sound.{IsSound}
use Rattle.tracker_machine.proofs.Regrouped.{users_of_sound}
use Rattle.amended_rows.specs.Amended.{members_kept, with_kept, with_kept_members}

-- the first so many groups have come to theirs
abbrev pub kept_to : (Group → Group) → ℕ → List Group → List Group
kept_to keep zero groups = groups
kept_to keep (suc count) [] = []
kept_to keep (suc count) (g ∷ gs) = keep g ∷ kept_to keep count gs

pub length-kept_to : (keep : Group → Group) (count : ℕ) (groups : List Group) → length (kept_to keep count groups) ≡ length groups
length-kept_to keep zero groups = refl
length-kept_to keep (suc count) [] = refl
length-kept_to keep (suc count) (g ∷ gs) = ap suc (length-kept_to keep count gs)

-- the next one comes to its
pub kept_next : (old new : Parts) (count : ℕ) (groups : List Group) (g : Group) → slice_get (kept_to (with_kept old new) count groups) count ≡ Some g
    → with_members (kept_to (with_kept old new) count groups) count (members_kept old new g) ≡ kept_to (with_kept old new) (suc count) groups
kept_next old new zero [] g there = refl
kept_next old new zero (x ∷ xs) g there =
    ap (λ (ms : Group). record { name = x.name; members = members_kept old new ms } ∷ xs) (sym (same_Some x g there))
kept_next old new (suc count) [] g there = refl
kept_next old new (suc count) (x ∷ xs) g there = ap (λ gs. with_kept old new x ∷ gs) (kept_next old new count xs g there)

-- all have come to theirs
pub all_kept : (keep : Group → Group) (groups : List Group) → kept_to keep (length groups) groups ≡ map keep groups
all_kept keep [] = refl
all_kept keep (g ∷ gs) = ap (λ xs. keep g ∷ xs) (all_kept keep gs)

is_there : (gs : List Group) (k : ℕ) → slice_get gs k ≡ None → k < length gs → ⊥
is_there [] k none more = omega (arith, more)
is_there (x ∷ xs) zero none more = none-some x (sym none)
is_there (x ∷ xs) (suc k) none more = is_there xs k none (omega (arith, more))

one_more : (n : ℕ) → suc n ≡ n + 1
one_more n = omega arith

-- so does the setup
pub next_kept : (old new now later : Parts) (place : ℕ) → now ≡ record new { group = kept_to (with_kept old new) place new.group } → place < length new.group
    → IfSome (slice_get now.group place) (λ g. later ≡ record now { group = with_members now.group place (members_kept old now g) })
    → later ≡ record new { group = kept_to (with_kept old new) (place + 1) new.group }
next_kept old new now later place is inside set =
    by (slice_get (kept_to (with_kept old new) place new.group) place) refl
    (subst (λ (n : Parts). IfSome (slice_get n.group place) (λ g. later ≡ record n { group = with_members n.group place (members_kept old n g) })) is set)
  where
    by : (o : Option Group) → slice_get (kept_to (with_kept old new) place new.group) place ≡ o
        → IfSome (slice_get (kept_to (with_kept old new) place new.group) place)
        (λ g. later ≡ record new { group = with_members (kept_to (with_kept old new) place new.group) place (members_kept old new g) })
        → later ≡ record new { group = kept_to (with_kept old new) (place + 1) new.group }
    by None none has =
        absurd (is_there (kept_to (with_kept old new) place new.group) place none (subst (λ (n : ℕ). place < n) (sym (length-kept_to (with_kept old new) place new.group)) inside))
    by (Some g) there has =
        subst (λ (o : Option Group). IfSome o (λ x. later ≡ record new { group = with_members (kept_to (with_kept old new) place new.group) place (members_kept old new x) })) there has
        ∙ (ap (λ (gs : List Group). record new { group = gs }) (kept_next old new place new.group g there)
        ∙ ap (λ (k : ℕ). record new { group = kept_to (with_kept old new) k new.group }) (one_more place))

pub setup_kept : (old new now : Parts) (place : ℕ) → now ≡ record new { group = kept_to (with_kept old new) place new.group } → place ≡ length new.group → now ≡ with_kept_members old new
setup_kept old new now place is all =
    is ∙ ap (λ (gs : List Group). record new { group = gs }) (ap (λ (n : ℕ). kept_to (with_kept old new) n new.group) all ∙ all_kept (with_kept old new) new.group)

listed_in : (users : ℕ) (groups : List Group) (place : ℕ) (g : Group) → All (λ x. is_user_list users x.members ≡ true) groups → slice_get groups place ≡ Some g → is_user_list users g.members ≡ true
listed_in users [] place g all there = absurd (none-some g there)
listed_in users (x ∷ xs) zero g all there =
    subst (λ (y : Group). is_user_list users y.members ≡ true) (same_Some x g there) (All-head (λ (y : Group). is_user_list users y.members ≡ true) x xs all)
listed_in users (x ∷ xs) (suc place) g all there = listed_in users xs place g (All-tail (λ (y : Group). is_user_list users y.members ≡ true) x xs all) there

-- the members of each group are users in their order
pub listed_at : (setup : Parts) (place : ℕ) (g : Group) → IsSound setup → slice_get setup.group place ≡ Some g → is_user_list (length setup.users) g.members ≡ true
listed_at setup place g sound there = listed_in (length setup.users) setup.group place g (users_of_sound setup sound) there
