-- The abstract tracker after a new issue, and after a change group.
use Rattle.std.proofs.Common.{◌≡◌, ◌+◌, ℕ, List, [], ◌∷◌, ◌++◌, slice_get, set, Option, Some, sym, subst}
use Rattle.std.specs.Option.{option_map_or}
use Rattle.change_history.specs.declared.entry.Group.{Group}
use Rattle.change_history.specs.History.{History}
use Rattle.external_ids.specs.declared.external_id.ExternalId.{ExternalId}
use Rattle.rank_strings.specs.Rank.{RankParts}
use Rattle.board.specs.Order.{Pair}
use Rattle.rank_balancer.specs.declared.balance.Balance.{Balance}
use Rattle.sprints.specs.declared.sprint.Sprint.{Sprint}
use Rattle.tracker_ranks.specs.Ranked.{with_last}
use Rattle.tracker_machine.specs.Machine.{Machine}
use Rattle.tracker_machine.specs.Effect.{with_issue, with_external, with_group, longer}
use Rattle.tracker_machine.specs.Saved.{SavedFilter}

pub machine_pushed : (m : Machine) (h : History) (rank : RankParts) (external : Option (List ℕ)) (histories : List History) (externals : List ExternalId) (order : List Pair) (balance : Balance) (sprints : List Sprint) (filters : List SavedFilter)
    → histories ≡ m.histories ++ h ∷ [] → externals ≡ with_external m.externals h.no external → order ≡ with_last m.order h.no rank → balance ≡ m.balance → sprints ≡ m.sprints → filters ≡ m.filters
    → record m { change = m.change + 1; histories = histories; externals = externals; order = order; balance = balance; sprints = sprints; filters = filters } ≡ with_issue m h rank external
machine_pushed m h rank external histories externals order balance sprints filters hs es os bs ss fs =
    λ i. record m { change = m.change + 1; histories = hs i; externals = es i; order = os i; balance = bs i; sprints = ss i; filters = fs i }

pub machine_grown : (m : Machine) (place : ℕ) (group : Group) (h : History) (histories : List History) (sprints : List Sprint) (filters : List SavedFilter)
    → slice_get m.histories place ≡ Some h → histories ≡ set m.histories place (longer h group.entries) → sprints ≡ m.sprints → filters ≡ m.filters
    → record m { change = m.change + 1; histories = histories; sprints = sprints; filters = filters } ≡ with_group m place group
machine_grown m place group h histories sprints filters at hs ss fs =
    subst (λ o. record m { change = m.change + 1; histories = histories; sprints = sprints; filters = filters }
    ≡ record m { change = m.change + 1; histories = option_map_or (λ (i : History). set m.histories place (longer i group.entries)) o m.histories }) (sym at)
    (λ i. record m { change = m.change + 1; histories = hs i; sprints = ss i; filters = fs i })
