-- Other members of a group, as `set_group` prepares them.
use Rattle.std.proofs.Common.{◌≡◌, ◌≤◌, ◌-◌, ◌+◌, ℕ, List, [], ◌∷◌, length, true, false, refl, ap, ap₂, sym, subst, ◌∙◌, arith}
use Rattle.field_values.specs.declared.numbers.GroupNo.{GroupNo}
use Rattle.field_values.specs.declared.numbers.UserNo.{UserNo}
use Rattle.field_values.specs.GroupMembers.{is_user_list}
use Rattle.field_values.specs.Parts.{Parts}
use Rattle.fields.specs.Naming.{name_at}
use Rattle.tracker_calls.specs.declared.reply.Answer.TheVariants as answer
use Rattle.tracker_keeper.specs.declared.row.RowOp.{RowOp}
use Rattle.tracker_machine.specs.Effect.{IsAllowed, MayHave}
use Rattle.tracker_machine.specs.Effect.Effect.{NewMembers}
use Rattle.tracker_machine.specs.Kept.{parts_of, ops_of}
use Rattle.tracker_machine.specs.Meaning.Meaning.{Makes}
use Rattle.tracker_machine.specs.Members.{group_names, has_members, members_answer, regroups, users_named}
use Rattle.tracker_state.specs.declared.plan.MembersPlan.{MembersPlan}
use Rattle.tracker_state.specs.declared.plan.Plan.TheVariants as plans
use Rattle.tracker_state.specs.Plan.{IsReady}
use Rattle.tracker_state.specs.Rows.{members_op}
use Rattle.tracker_state.specs.State.{Held}

-- members that the group hasn't got yet come to it
members_anew : (setup : Parts) (place : ℕ) (members : List UserNo) → has_members setup place members ≡ false
    → regroups setup place members ≡ Makes (members_answer setup place members) (NewMembers (record { 0 = place + 1 }) members)
members_anew setup place members new = rw new refl

pub members_ready : (s : Held) (group : GroupNo) (names : List (List ℕ)) (new : MembersPlan) (name : List ℕ) (count : ℕ) (ops : List RowOp)
    → 1 ≤ group.0 → group.0 ≤ length s.machine.setup.group → name ≡ name_at (group_names s.machine.setup) (group.0 - 1)
    → new.group ≡ group → new.members ≡ users_named s.machine.setup names → is_user_list (length s.machine.setup.users) new.members ≡ true
    → new.asked ≡ new.members → has_members s.machine.setup (group.0 - 1) new.members ≡ false → count ≡ length new.members → ops ≡ members_op s.machine.setup group new.members ∷ []
    → IsReady (regroups s.machine.setup (group.0 - 1) (users_named s.machine.setup names)) s (plans.Members new) (answer.SetGroup name count) ops
unfolding IsAllowed parts_of ops_of
members_ready s group names new name count ops from_one there named own are listed asked anew counted keeps =
    let members : List UserNo = users_named s.machine.setup names in
    let place : GroupNo = record { 0 = group.0 - 1 + 1 } in
    let same : place ≡ group = ap (λ (n : ℕ). record { 0 = n }) (omega (arith, from_one)) in
    record {
      means = members_anew s.machine.setup (group.0 - 1) members (ap (has_members s.machine.setup (group.0 - 1)) (sym are) ∙ anew)
          ∙ ap₂ (λ (n : List ℕ) (k : ℕ). Makes (answer.SetGroup n k) (NewMembers place members)) (sym named) (ap length (sym are) ∙ sym counted)
          ∙ ap₂ (λ (g : GroupNo) (us : List UserNo). Makes (answer.SetGroup name count) (NewMembers g us)) (same ∙ sym own) (sym are);
      keeps = keeps ∙ ap (λ (g : GroupNo). members_op s.machine.setup g new.members ∷ []) (sym own);
      allowed = subst (λ (g : GroupNo). MayHave s.machine.setup g new.members) (sym own) (record { from_one = from_one; there = there; listed = listed });
      fits = asked;
    }
