-- How often exactly a call asks, from what is prepared and from what is carried out.
use Rattle.std.proofs.Common.{◌≡◌, ◌+◌, ◌*◌, ◌≤◌, ℕ, List, Some, length, refl, sym, ap, ◌∙◌, subst, arith}
use Rattle.std.proofs.lemmas.List.{length-map}
use Rattle.filter_views.specs.Cell.{FilterCells}
use Rattle.filter_views.specs.Counts.{due}
use Rattle.tracker_calls.specs.declared.call.Call.{Call}
use Rattle.tracker_calls.specs.declared.reply.Answer.{Answer}
use Rattle.tracker_filters.specs.Members.{members_cost}
use Rattle.tracker_filters.proofs.Regrouping.{members_cost_most}
use Rattle.tracker_machine.specs.Machine.{Machine}
use Rattle.tracker_machine.specs.Meaning.{Meaning}
use Rattle.tracker_machine.specs.Meaning.Meaning.{Refuses, Tells, Finds, Makes}
use Rattle.tracker_machine.specs.SprintRules.{sum_in_sprint}
use Rattle.tracker_state.specs.declared.plan.Plan.{Plan}
use Rattle.tracker_state.specs.declared.plan.Plan.TheVariants as plans
use Rattle.tracker_state.specs.State.{Held, saved_filters}
use Rattle.tracker_state.specs.Plan.{told, effect_of, cost_of}
use Rattle.tracker_core.specs.Counts.{asked_before, AsksAsOften, IsCounted}
use Rattle.tracker_core.specs.Desk.{due_in}
use Rattle.tracker_core.proofs.Steps.{many}

-- what is told has asked before alone
pub told_counted : (ended : ℕ → ℕ) (m : Machine) (c : Call) (meant : Meaning) (a : Answer) (before now : ℕ) → told meant ≡ Some a → now ≡ before + asked_before c m
    → IsCounted ended m c meant before now
told_counted ended m c (Refuses r) a before now is asked = absurd (cc)
told_counted ended m c (Tells b) a before now is asked = asked
told_counted ended m c (Finds b) a before now is asked = asked
told_counted ended m c (Makes b e) a before now is asked = absurd (cc)

-- what a plan asks as it is carried out is what its effect costs
asks_as_often : (s : Held) (plan : Plan) → s.machine.filters ≡ saved_filters s.watched.filters → AsksAsOften (due s.watched.views) (effect_of plan) s.machine (cost_of plan s)
asks_as_often s (plans.Moment to) same = refl
asks_as_often s (plans.Issue new) same = sym (many s same)
asks_as_often s (plans.Group new) same = sym (many s same)
asks_as_often s (plans.Rank new) same = refl
asks_as_often s (plans.Balance balance) same = refl
asks_as_often s (plans.Step moves) same = refl
asks_as_often s (plans.Sprint name) same = refl
asks_as_often s (plans.State sprint state) same = ap (λ (n : ℕ). sum_in_sprint n sprint.0 s.machine.histories) (sym (many s same))
asks_as_often s (plans.Save ready) same = refl
asks_as_often s (plans.DropFilter filter_no) same = refl
asks_as_often s (plans.Board b) same = refl
asks_as_often s (plans.DropBoard board_no) same = refl
asks_as_often s (plans.Members new) same =
    let issues = length s.machine.histories in
    subst (λ (n : ℕ). members_cost s.watched.filters issues ≤ n * issues) (sym (many s same)) (members_cost_most s.watched.filters issues)

-- from the state before to that in which the call is prepared, and on
pub made_counted : (old s : Held) (c : Call) (meant : Meaning) (a : Answer) (plan : Plan) (before middle after : ℕ) → s.machine ≡ old.machine
    → s.watched.views.table ≡ old.watched.views.table → s.watched.filters ≡ old.watched.filters → old.machine.filters ≡ saved_filters old.watched.filters
    → meant ≡ Makes a (effect_of plan) → middle ≡ before + asked_before c old.machine → after ≡ middle + cost_of plan s
    → IsCounted (due_in old.watched.views.table) old.machine c meant before after
made_counted old s c meant a plan before middle after machine table filters saved is first second =
    let same : s.machine.filters ≡ saved_filters s.watched.filters = ap (λ (m : Machine). m.filters) machine ∙ saved ∙ ap saved_filters (sym filters) in
    let asks : AsksAsOften (due_in s.watched.views.table) (effect_of plan) s.machine (cost_of plan s) = asks_as_often s plan same in
    let asks_before : AsksAsOften (due_in old.watched.views.table) (effect_of plan) old.machine (cost_of plan s) =
    subst (λ (cells : List FilterCells). AsksAsOften (due_in cells) (effect_of plan) old.machine (cost_of plan s)) table
    (subst (λ (m : Machine). AsksAsOften (due_in s.watched.views.table) (effect_of plan) m (cost_of plan s)) machine asks) in
    let rose : after ≡ before + asked_before c old.machine + cost_of plan s = omega (arith, first, second) in
    subst (λ (d : Meaning). IsCounted (due_in old.watched.views.table) old.machine c d before after) (sym is) (cost_of plan s, asks_before, rose)
