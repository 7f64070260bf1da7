use Rattle.std.proofs.Common.{◌≡◌, Some, None, Option, IfSome, subst, sym, ◌∙◌, Bor, refl}
use Rattle.std.specs.Option.{option_copied}
use Rattle.change_history.specs.History.{RoomyHistory}
use Rattle.fields.specs.SetupParts.{names_in}
use Rattle.tracker_state.specs.State.{Held}
use Rattle.tracker_machine.specs.Tracker.{IsSettled}
use Rattle.tracker_state.specs.contracts.state.State.{the_view}
use Rattle.tracker_machine.proofs.Settled.{settled_at}
use Rattle.tracker_issues.proofs.Histories.{history_at}
use Rattle.tracker_state.proofs.state.State.issue_at.Goals as goal

each_found : (o : Option (Bor RoomyHistory)) (P : RoomyHistory → Type 0) → ((i : RoomyHistory) → option_copied o ≡ Some i → P i) → IfSome o (λ i. P i.now)
each_found None P f = tt
each_found (Some i) P f = f i.now refl

pub returns-clause-settled : goal.returns-clause-settled
returns-clause-settled c =
    let m = (the_view c.self.inside).machine in
    subst (λ (s : Held). IfSome c.get.result (λ i. IsSettled (names_in s.machine.setup) s.machine.moment s.machine.change i.now.history)) c.self.view_is
    (each_found c.get.result (λ i. IsSettled (names_in m.setup) m.moment m.change i.history)
    (λ i is. settled_at (names_in m.setup) m.moment m.change m.histories c.args.place i.history (history_at c.self.inside.issues.kept c.args.place i (sym c.get.ensures ∙ is)) c.self.invariant.tracker.settled))
