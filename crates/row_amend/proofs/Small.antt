-- The operations that amend rows are some, and the numbers of their rows are small.
use Rattle.std.proofs.Common.{◌≡◌, ℕ, zero, suc, ◌+◌, ◌<◌, ◌≤◌, ◌^◌, List, [], ◌∷◌, ◌++◌, length, refl, sym, subst, arith}
use Rattle.std.proofs.lemmas.List.{length-append, length-map}
use Rattle.std.proofs.lemmas.List.Elements.{All-append, All-cons, All-nil}
use Rattle.field_values.specs.Parts.{Parts}
use Rattle.fields.specs.SetupParts.{names_in}
use Rattle.fields.specs.Sound.{IsSound}
use Rattle.tracker_keeper.specs.declared.row.RowOp.{RowOp}
use Rattle.tracker_keeper.specs.declared.row.RowOp.TheVariants.{Drop}
use Rattle.tracker_keeper.specs.Rows.{number_of}
use Rattle.tracker_machine.specs.Machine.{Machine, opening}
use Rattle.tracker_machine.specs.Kept.{opening_ops, present_part, put_part}
use Rattle.tracker_machine.specs.Tracker.{IsTracker}
use Rattle.tracker_machine.proofs.Kept.{opening_small}
use Rattle.tracker_machine.proofs.Regrouped.{groups_of_sound}
use Rattle.amended_rows.specs.Amended.{with_kept, with_kept_members, member_drops, amending_ops}
use Rattle.row_amend.specs.Faults.{AreSmall}

one_more : (n : ℕ) → suc n ≡ n + 1
one_more n = omega arith

-- the members of one more group are told no more
pub drops_more : (n : ℕ) → member_drops (n + 1) ≡ member_drops n ++ Drop 10 (n + 1) ∷ []
drops_more n = subst (λ (k : ℕ). member_drops k ≡ member_drops n ++ Drop 10 k ∷ []) (one_more n) refl

abbrev IsSmall : RowOp → Type 0
IsSmall op = number_of op < 2 ^ 63

drops_small : (count : ℕ) → count ≤ 100 → AreSmall (member_drops count)
drops_small zero few = All-nil IsSmall
drops_small (suc count) few =
    All-append IsSmall (member_drops count) (Drop 10 (suc count) ∷ []) (drops_small count (omega (arith, few)))
    (All-cons IsSmall (Drop 10 (suc count)) [] (omega (arith, few)) (All-nil IsSmall))

all_small : (m : Machine) (text : List ℕ) (setup : Parts) → IsTracker m → length (with_kept_members m.setup setup).group ≤ 100 → AreSmall (amending_ops m text setup)
unfolding amending_ops
all_small m text setup tracker few =
    let new = opening text (with_kept_members m.setup setup) in
    let last : List RowOp = put_part (names_in m.setup) (present_part m) ∷ [] in
    All-append IsSmall (member_drops (length m.setup.group)) (opening_ops new ++ last) (drops_small (length m.setup.group) tracker.few_groups)
    (All-append IsSmall (opening_ops new) last (opening_small new few) (All-cons IsSmall (put_part (names_in m.setup) (present_part m)) [] (omega arith) (All-nil IsSmall)))

pub small_amending : (ops : List RowOp) (m : Machine) (text : List ℕ) (setup : Parts) → ops ≡ amending_ops m text setup → IsTracker m → IsSound setup → AreSmall ops
small_amending ops m text setup is tracker sound =
    subst AreSmall (sym is)
    (all_small m text setup tracker (omega (arith, length-map setup.group (with_kept m.setup setup), groups_of_sound setup sound)))

some_ops : (m : Machine) (text : List ℕ) (setup : Parts) → 0 < length (amending_ops m text setup)
unfolding amending_ops opening_ops
some_ops m text setup =
    let drops = member_drops (length m.setup.group) in
    omega (arith, length-append drops (opening_ops (opening text (with_kept_members m.setup setup)) ++ put_part (names_in m.setup) (present_part m) ∷ []))

pub some_amending : (ops : List RowOp) (m : Machine) (text : List ℕ) (setup : Parts) → ops ≡ amending_ops m text setup → 0 < length ops
some_amending ops m text setup is = subst (λ os. 0 < length os) (sym is) (some_ops m text setup)
