-- The operations that keep the members of groups, one group after the other.
use Rattle.std.proofs.Common.{◌≡◌, ℕ, zero, suc, ◌+◌, ◌<◌, List, [], ◌∷◌, ◌++◌, length, take, get_or, sym, ap, ◌∙◌, arith}
use Rattle.std.proofs.lemmas.List.{append_assoc}
use Rattle.field_values.specs.declared.numbers.GroupNo.{GroupNo}
use Rattle.field_values.specs.declared.parts.Group.{Group}
use Rattle.field_values.specs.Parts.{Parts}
use Rattle.tracker_keeper.specs.declared.row.RowOp.{RowOp}
use Rattle.tracker_machine.specs.Kept.{put_parts, members_from}
use Rattle.tracker_state.specs.Rows.{members_op}

abbrev first_ops : Parts → ℕ → ℕ → List Group → List RowOp
first_ops setup first count gs = put_parts setup (members_from first (take count gs))

next_ops : (setup : Parts) (first k : ℕ) (gs : List Group) (g d : Group) (own : GroupNo) → k < length gs → g ≡ get_or gs k d → own.0 ≡ first + k
    → first_ops setup first (suc k) gs ≡ first_ops setup first k gs ++ members_op setup own g.members ∷ []
next_ops setup first k [] g d own in' at is = absurd (omega (arith, in'))
next_ops setup first zero (x ∷ xs) g d own in' at is =
    ap (λ n. members_op setup (record { 0 = n }) x.members ∷ []) {x = first} {y = own.0} (omega (arith, is))
    ∙ ap (λ (y : Group). members_op setup own y.members ∷ []) (sym at)
next_ops setup first (suc k) (x ∷ xs) g d own in' at is =
    ap (λ (ops : List RowOp). members_op setup (record { 0 = first }) x.members ∷ ops)
    (next_ops setup (first + 1) k xs g d own (omega (arith, in')) at (omega (arith, is)))

-- behind other operations, with the next group's
pub one_group_more : (setup : Parts) (before ops : List RowOp) (k : ℕ) (gs : List Group) (g d : Group) (own : GroupNo) → k < length gs → g ≡ get_or gs k d → own.0 ≡ k + 1
    → ops ≡ before ++ put_parts setup (members_from 1 (take k gs)) → ops ++ members_op setup own g.members ∷ [] ≡ before ++ put_parts setup (members_from 1 (take (k + 1) gs))
one_group_more setup before ops k gs g d own in' at is kept =
    ap (λ (some : List RowOp). some ++ members_op setup own g.members ∷ []) kept
    ∙ append_assoc before (first_ops setup 1 k gs) (members_op setup own g.members ∷ [])
    ∙ ap (λ (some : List RowOp). before ++ some) (sym (next_ops setup 1 k gs g d own in' at (omega (arith, is))))
    ∙ ap (λ n. before ++ first_ops setup 1 n gs) {x = suc k} {y = k + 1} (omega arith)
