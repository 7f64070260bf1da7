-- A search by a query that was settled for the present moment finds what the query as it was bound finds.
use Rattle.std.proofs.Common.{◌≡◌, ◌&&◌, ℕ, List, length, Option}
use Rattle.std.specs.Prelude.{filter}
use Rattle.field_values.specs.declared.rules.Permission.TheVariants.{Browse}
use Rattle.fields.specs.SetupParts.{may}
use Rattle.change_history.specs.History.{History}
use Rattle.workflow.specs.Conditions.{project_number}
use Rattle.jql_bound.specs.Condition.{Condition}
use Rattle.jql_meaning.specs.Truth.{query_holds}
use Rattle.tracker_machine.specs.Machine.{Machine}
use Rattle.tracker_machine.specs.Query.{Query}
use Rattle.tracker_machine.specs.Search.{surroundings_in, found, listed}
use Rattle.list_calls.specs.Found.{found_in_order}

module _ (m : Machine) (caller : ℕ) where
  -- the one holds of just the issues of which the other does
  abbrev pub HoldAlike : Option Condition → Option Condition → Type 0
  HoldAlike one other =
      (h : History) → query_holds (surroundings_in m.setup m.sprints) h m.moment other ≡ query_holds (surroundings_in m.setup m.sprints) h m.moment one

  pub found_same : (one other : Option Condition) → HoldAlike one other → found m caller other ≡ found m caller one
  unfolding found
  found_same one other same = λ i. filter (λ h. may m.setup caller Browse (project_number m.setup h) && same h i) m.histories

  pub in_order_same : (one other : Query) → other.keys ≡ one.keys → HoldAlike one.condition other.condition → found_in_order m caller other ≡ found_in_order m caller one
  in_order_same one other keys same =
      let finds = found_same one.condition other.condition same in
      λ i. listed m.setup (keys i) m.order (finds i)
