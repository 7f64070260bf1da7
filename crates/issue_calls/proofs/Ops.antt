-- The operations that are prepared are those that keep the effect.
use Rattle.std.proofs.Common.{◌≡◌, ◌+◌, ℕ, List, [], ◌∷◌, Bool, true, false, not, slice_get, Option, Some, None, refl, sym, subst, arith}
use Rattle.std.specs.Prelude.{if◌then◌else◌}
use Rattle.std.specs.List.{All}
use Rattle.std.specs.Option.{option_map_or}
use Rattle.fields.specs.SetupParts.{names_in}
use Rattle.field_values.specs.declared.value.Value.{Value}
use Rattle.field_values.specs.declared.value.Value.TheVariants as value
use Rattle.change_history.specs.declared.change.Change.{Change}
use Rattle.change_history.specs.declared.entry.Group.{Group}
use Rattle.change_history.specs.History.{History}
use Rattle.rank_strings.specs.Rank.{RankParts}
use Rattle.tracker_keeper.specs.declared.row.RowOp.TheVariants.{Put}
use Rattle.tracker_keeper.specs.Bodies.{body_text}
use Rattle.tracker_keeper.specs.Forms.{IsGroupEntry, is_small}
use Rattle.tracker_keeper.specs.Kept.{IsPart}
use Rattle.tracker_machine.specs.Machine.{Machine}
use Rattle.workflow.specs.Same.{is_empty}
use Rattle.tracker_machine.specs.Create.{filled}
use Rattle.tracker_machine.specs.Tracker.{IsTracker, MayGroup, AreSmall}
use Rattle.tracker_machine.specs.Effect.{IsAllowed, with_group}
use Rattle.tracker_machine.specs.Effect.Effect.{NewIssue, NewGroup}
use Rattle.tracker_machine.specs.Kept.{present_part, group_part, put_parts, parts_of, ops_of}
use Rattle.tracker_machine.proofs.Keepable.{parts_kept}
use Rattle.tracker_state.specs.Rows.{present_op, rank_op}
use Rattle.issue_calls.specs.Rows.{issue_row, external_ops, group_row}

pub issue_ops_are : (m : Machine) (h : History) (rank : RankParts) (external : Option (List ℕ))
    → present_op m.balance (m.change + 1) m.moment ∷ Put (issue_row (names_in m.setup) h) ∷ rank_op h.no rank ∷ external_ops h.no external
    ≡ ops_of (NewIssue h rank external) m
unfolding ops_of parts_of body_text
issue_ops_are m h rank None = refl
issue_ops_are m h rank (Some id) = refl

pub group_ops_are : (m : Machine) (place : ℕ) (g : Group) (h : History) → slice_get m.histories place ≡ Some h
    → present_op m.balance (m.change + 1) m.moment ∷ Put (group_row (names_in m.setup) h g) ∷ [] ≡ ops_of (NewGroup place g) m
unfolding ops_of parts_of body_text
group_ops_are m place g h at =
    subst (λ o. present_op m.balance (m.change + 1) m.moment ∷ Put (group_row (names_in m.setup) h g) ∷ []
    ≡ put_parts m.setup (present_part (with_group m place g) ∷ option_map_or (λ i. group_part i g ∷ []) o [])) (sym at) refl

-- the entries of a group that may come may be kept
pub group_entries : (m : Machine) (place : ℕ) (g : Group) (h : History) → IsTracker m → MayGroup m place g → slice_get m.histories place ≡ Some h
    → All (IsGroupEntry (names_in m.setup) g.change g.at g.author) g.entries
unfolding IsAllowed parts_of IsPart
group_entries m place g h is may at =
    let all : All (IsPart m.setup) (present_part (with_group m place g) ∷ group_part h g ∷ []) =
    subst (λ o. All (IsPart m.setup) (present_part (with_group m place g) ∷ option_map_or (λ i. group_part i g ∷ []) o [])) at (parts_kept (NewGroup place g) m may is) in
    (all 1 (group_part h g) (omega arith)).each

-- values that are empty are small
unfilled : (b : Bool) (c : Change) (cs : List Change) → is_empty c.to ≡ b → (AreSmall (filled cs) → AreSmall cs) → AreSmall (if not b then c ∷ filled cs else filled cs) → AreSmall (c ∷ cs)
unfilled false c cs e more small = (small.0, more small.1)
unfilled true c cs e more small = (by_value c.to e, more small) where
  by_value : (v : Value) → is_empty v ≡ true → is_small v ≡ true
  by_value value.Empty e = refl
  by_value (value.Text x) e = refl
  by_value (value.Number x) e = refl
  by_value (value.Choice x) e = refl
  by_value (value.User x) e = refl
  by_value (value.Date x) e = refl
  by_value (value.Set x) e = refl
  by_value (value.Labels x) e = refl
  by_value (value.Sprint x) e = absurd (cc)

pub unfilled_small : (cs : List Change) → AreSmall (filled cs) → AreSmall cs
unfilled_small [] small = tt
unfilled_small (c ∷ cs) small = unfilled (is_empty c.to) c cs refl (unfilled_small cs) small
