-- The parts of a state that was made of all rows agree.
use Rattle.std.proofs.Common.{◌≡◌, List, [], sym, ◌∙◌, ap, subst, arith}
use Rattle.std.specs.List.{All}
use Rattle.field_values.specs.Parts.{Parts}
use Rattle.sprints.specs.declared.sprint.Sprint.{Sprint}
use Rattle.jql_bound.specs.declared.context.Context.{Context}
use Rattle.jql_bound.specs.declared.context.Phase.{Phase}
use Rattle.jql_meaning.specs.Surroundings.{Surroundings, surroundings_of}
use Rattle.tracker_work.specs.Seen.{Seen}
use Rattle.tracker_machine.specs.Machine.{Machine}
use Rattle.tracker_machine.specs.Search.{surroundings_in}
use Rattle.tracker_machine.specs.Tracker.{IsTracker}
use Rattle.tracker_machine.proofs.Chronicle.{few_groups}
use Rattle.tracker_state.specs.State.{IsBound, IsState, saved_filters}
use Rattle.tracker_loading.specs.declared.parts.Base.{Base}
use Rattle.tracker_loading.specs.declared.parts.Derived.{Derived}
use Rattle.tracker_loading.specs.declared.parts.Given.{Given}
use Rattle.tracker_loading.specs.Assembled.{made_with, machine_with, IsDerived, IsWhole}

-- a context with these sprints' phases is the setup's, but for them
pub agreeing : (setup : Parts) (sprints : List Sprint) (context : Context) → surroundings_of context ≡ surroundings_in setup sprints
    → surroundings_of context ≡ record (surroundings_in setup []) { sprints = context.sprints.items }
agreeing setup sprints context is =
    is ∙ ap (λ (ps : List Phase). record (surroundings_in setup []) { sprints = ps }) (sym (ap (λ (s : Surroundings). s.sprints) is))

module _ (base : Base) (given : Given) (d : Derived) where
  -- what was made is the tracker of the parts
  pub as_made : IsDerived (made_with base given) given.filters.items d → machine_with base d ≡ made_with base given
  as_made is =
      let states = ap (λ (s : Seen). s.sprints) is.worked in
      λ i. record (made_with base given) {
        sprints = states i;
        order = is.order i;
        balance = is.balance i;
        filters = saved_filters (is.filters_are i);
      }

  -- and they agree
  pub parts_agree : IsTracker (made_with base given) → IsWhole (made_with base given) base given
      → IsDerived (made_with base given) given.filters.items d → IsState (machine_with base d) base.issues.tally d.filters d.work d.context
  parts_agree tracker making is =
      let m = made_with base given in
      subst (λ (x : Machine). IsState x base.issues.tally d.filters d.work d.context) (sym (as_made is)) (record {
        counted = making.counted;
        few_changes = omega (arith, tracker.numbered, tracker.few_issues, tracker.few_entries, few_groups m.histories);
        tracker = tracker;
        seen = is.seen;
        bound = subst (All (IsBound m.setup)) (sym is.filters_are) making.bound;
        worked = is.worked;
        around = is.around;
      })
