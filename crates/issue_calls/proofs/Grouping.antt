-- A group of an issue, as edits and transitions come to it.
use Rattle.std.proofs.Common.{◌≡◌, ◌+◌, ℕ, List, [], ◌∷◌, Option, Some, None, slice_get, ◌∙◌, refl, sym, ap, ap₂, subst}
use Rattle.std.specs.Prelude.{Ok, option_and_then}
use Rattle.change_history.specs.declared.change.Change.{Change}
use Rattle.change_history.specs.History.{History, present}
use Rattle.workflow.specs.Net.{net_changes}
use Rattle.tracker_calls.specs.declared.given.GivenField.{GivenField}
use Rattle.tracker_calls.specs.declared.reply.Answer.{Answer}
use Rattle.tracker_machine.specs.Machine.{Machine}
use Rattle.tracker_machine.specs.Tracker.{MayGroup}
use Rattle.tracker_machine.specs.Effect.{IsAllowed}
use Rattle.tracker_machine.specs.Effect.Effect.{NewGroup}
use Rattle.tracker_machine.specs.Edit.{edit_answer, edit_meaning, edit_news, edit_refusal, set_changes}
use Rattle.tracker_machine.specs.Group.{grouped, grouped_at}
use Rattle.tracker_machine.specs.Known.{place_of_issue}
use Rattle.tracker_machine.specs.Transition.{transition_answer, transition_meaning, transition_named, transition_news, transition_refusal}
use Rattle.tracker_state.proofs.Checked.{unrefused}
use Rattle.tracker_machine.specs.Kept.{ops_of}
use Rattle.tracker_machine.specs.Meaning.{Meaning}
use Rattle.tracker_machine.specs.Meaning.Meaning.{Makes}
use Rattle.tracker_keeper.specs.declared.row.RowOp.{RowOp}
use Rattle.tracker_state.specs.State.{Held}
use Rattle.tracker_state.specs.Plan.{GroupFits, IsReady}
use Rattle.tracker_state.specs.declared.plan.GroupPlan.{GroupPlan}
use Rattle.tracker_state.specs.declared.plan.Plan.TheVariants as plans
use Rattle.issue_calls.specs.Group.{ComesToGroup, IsDueGroup, IsGroupOf}
use Rattle.issue_calls.specs.declared.group.DueGroup.{DueGroup}
use Rattle.issue_calls.proofs.Ops.{group_ops_are}
use Rattle.tracker_keeper.specs.declared.row.Row.{Row}
use Rattle.tracker_keeper.specs.declared.row.RowOp.TheVariants.{Put}
use Rattle.tracker_state.specs.Rows.{present_op}

-- what changes come to is what the call means by them
pub comes_to_group : (m : Machine) (answer : Option ℕ → Answer) (caller place : ℕ) (h : History) (changes : List Change) (due : Option DueGroup)
    → IsGroupOf m caller place h changes due → ComesToGroup m answer (grouped answer m caller place h changes) (Ok due)
comes_to_group m answer caller place h changes None none = rw none refl
comes_to_group m answer caller place h [] (Some new) is = absurd (is.0 refl)
comes_to_group m answer caller place h (c ∷ cs) (Some new) is = (rw (is.1, is.2) refl, (h, is.3))

-- a group for which there is room, and whose operations keep it, is ready
pub group_ready : (m : Machine) (next : Held) (h : History) (meaning : Meaning) (new : DueGroup) (plan : GroupPlan) (answer : Answer) (ops : List RowOp)
    → IsDueGroup m h new → next.machine ≡ m → plan ≡ new.plan → meaning ≡ Makes answer (NewGroup new.plan.place new.plan.group)
    → GroupFits next new.plan → ops ≡ ops_of (NewGroup new.plan.place new.plan.group) m
    → IsReady meaning next (plans.Group plan) answer ops
unfolding IsAllowed
group_ready m next h meaning new plan answer ops is same own means fits keeps = record {
  means = means ∙ ap (λ (p : GroupPlan). Makes answer (NewGroup p.place p.group)) (sym own);
  keeps = keeps ∙ ap (λ (p : GroupPlan). ops_of (NewGroup p.place p.group) m) (sym own)
      ∙ ap (ops_of (NewGroup plan.place plan.group)) (sym same);
  allowed = subst (λ (n : Machine). MayGroup n plan.place plan.group) (sym same)
      (subst (λ (p : GroupPlan). MayGroup m p.place p.group) (sym own) is.allowed);
  fits = subst (GroupFits next) (sym own) fits;
}

-- what keeps a group that may come
pub group_kept : (m : Machine) (h : History) (new : DueGroup) → IsDueGroup m h new
    → present_op m.balance new.plan.group.change new.plan.group.at ∷ Put new.row ∷ [] ≡ ops_of (NewGroup new.plan.place new.plan.group) m
group_kept m h new is =
    ap₂ (λ (change at : ℕ). present_op m.balance change at ∷ Put new.row ∷ []) is.allowed.change is.allowed.at
    ∙ ap (λ (row : Row). present_op m.balance (m.change + 1) m.moment ∷ Put row ∷ []) is.row
    ∙ group_ops_are m new.plan.place new.plan.group h is.there

-- ---- what an edit and a transition mean that no check refuses

pub edit_means : (m : Machine) (caller : ℕ) (issue : List ℕ) (set : List GivenField) (place : ℕ) (h : History) (net : List Change)
    → edit_refusal m caller issue set ≡ None → place_of_issue issue m.histories ≡ Some place → slice_get m.histories place ≡ Some h
    → net ≡ net_changes (present h) (set_changes m set)
    → edit_meaning m caller issue set ≡ grouped (edit_answer issue) m caller place h net
edit_means m caller issue set place h net passed at there is =
    unrefused (edit_refusal m caller issue set) _ passed
    ∙ ap (λ (o : Option ℕ). grouped_at (edit_answer issue) m caller o (option_and_then (λ place. slice_get m.histories place) o)
    (edit_news m set (option_and_then (λ place. slice_get m.histories place) o))) at
    ∙ ap (λ (o : Option History). grouped_at (edit_answer issue) m caller (Some place) o (edit_news m set o)) there
    ∙ ap (grouped (edit_answer issue) m caller place h) (sym is)

pub transition_means : (m : Machine) (caller : ℕ) (issue transition : List ℕ) (set : List GivenField) (place : ℕ) (h : History) (net : List Change)
    → transition_refusal m caller issue transition set ≡ None → place_of_issue issue m.histories ≡ Some place → slice_get m.histories place ≡ Some h
    → net ≡ transition_news m caller set (Some h) (transition_named m transition)
    → transition_meaning m caller issue transition set ≡ grouped (transition_answer issue) m caller place h net
transition_means m caller issue transition set place h net passed at there is =
    unrefused (transition_refusal m caller issue transition set) _ passed
    ∙ ap (λ (o : Option ℕ). grouped_at (transition_answer issue) m caller o (option_and_then (λ place. slice_get m.histories place) o)
    (transition_news m caller set (option_and_then (λ place. slice_get m.histories place) o) (transition_named m transition))) at
    ∙ ap (λ (o : Option History). grouped_at (transition_answer issue) m caller (Some place) o (transition_news m caller set o (transition_named m transition))) there
    ∙ ap (grouped (transition_answer issue) m caller place h) (sym is)
