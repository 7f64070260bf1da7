-- A round over a desk, from a round over what makes calls.
use Rattle.std.proofs.Common.{◌≡◌, ◌≢◌, ℕ, List, [], ◌∷◌, Option, Some, None, All, map, IfSome, IfNone, refl, sym, subst, ap, ◌∙◌}
use Rattle.std.specs.Prelude.{◌-◌}
use Rattle.desk_turn.specs.Passes.{listed}
use Rattle.desk_turn.specs.declared.entry.Entry.{Entry}
use Rattle.desk_turn.specs.declared.kept.Kept.{Ghosts}
use Rattle.tracker_core.specs.Desk.{DeskParts}
use Rattle.tracker_keeper.specs.Rows.{Rows}
use Rattle.tracker_server.specs.Events.{Lead}
use Rattle.tracker_cli.specs.Serving.{MakesCall, tells_parts}
use Rattle.tracker_rounds.specs.Rounds.{HasLooked, IsAccountedWithLook}
use Rattle.tracker_rounds.specs.Seated.{AreOfConnections}
use Rattle.tracker_rounds.specs.Serving.{IsServed, MakesDue}
use Rattle.tracker_rounds.specs.Trail.{events_in}
use Rattle.tracker_rounds.specs.declared.ask.Ask.{Ask}
use Rattle.tracker_rounds.specs.declared.ask.Told.{Told}
use Rattle.tracker_rounds.specs.declared.round.Receipts.{Receipts}
use Rattle.tracker_rounds.specs.declared.round.RoundCause.{RoundCause}
use Rattle.turn_workers.specs.Round.{numbers_from, signed}
use Rattle.turn_workers.specs.declared.ended.Ended.{Ended}
use Rattle.tracker_serve.specs.Due.{due_at}
use Rattle.tracker_serve.specs.Round.{AreCalledBy, IsRound, called_in}
use Rattle.tracker_serve.proofs.Calls.{made_led, stays_led, counted_led}

module _ {V O S : Type 0} {G : Ghosts V Ask Told O S} where
  -- numbers of workers that have ended
  numbers_signed : (ended : List (Ended V Ask Told O S G)) → map (λ s. s.0) (map signed ended) ≡ map (λ e. e.caller) ended
  numbers_signed [] = refl
  numbers_signed (e ∷ ended) = ap (λ l. e.caller ∷ l) (numbers_signed ended)

  -- what receipts list
  called_by : (receipts : Option (Receipts V Ask Told O S G)) (workers : ℕ) (entries : List (Entry Ask Told))
      → IfSome receipts (λ r. IsAccountedWithLook entries (listed r.looks) (map signed r.workers.items))
      → IfSome receipts (λ r. map (λ e. e.caller) r.workers.items ≡ numbers_from 2 workers)
      → IfSome receipts (λ r. All (λ s. AreOfConnections (s.0 - 1) (events_in s.1)) (map signed r.workers.items))
      → IfSome (called_in receipts) (AreCalledBy workers entries)
  called_by None workers entries accounted numbers connections = tt
  called_by (Some r) workers entries accounted numbers connections = record {
    accounted = accounted;
    numbers = numbers_signed r.workers.items ∙ numbers;
    connections = connections;
  }

  none_called : (receipts : Option (Receipts V Ask Told O S G)) (N : Type 0) → IfNone receipts N → IfNone (called_in receipts) N
  none_called None N none = none
  none_called (Some r) N none = tt

module _ {P : Type 0} (keeps : P → Rows → Type 0) (tells : P → Type 0) (faults : P → ℕ) (leaves : P → Rows → Rows → Type 0) where
  pub round_made : {V O S : Type 0} {G : Ghosts V Ask Told O S} (workers : ℕ) (end : RoundCause) (receipts : Option (Receipts V Ask Told O S G)) (old : DeskParts P)
      (entries : List (Entry Ask Told)) (new : DeskParts P) → IsServed tells_parts (MakesCall keeps tells faults leaves) due_at old (events_in entries) new
      → IfSome receipts (λ r. IsAccountedWithLook entries (listed r.looks) (map signed r.workers.items))
      → IfSome receipts (λ r. map (λ e. e.caller) r.workers.items ≡ numbers_from 2 workers)
      → IfSome receipts (λ r. All (λ s. AreOfConnections (s.0 - 1) (events_in s.1)) (map signed r.workers.items))
      → IfNone receipts ((end ≡ RoundCause.Memory) × (new ≡ old) × (entries ≡ [])) → (end ≢ RoundCause.Memory → HasLooked tells_parts due_at entries new)
      → IsRound keeps tells faults leaves workers end (called_in receipts) old entries new
  round_made workers end receipts old entries new served accounted numbers connections unbegun looked =
      let one = served.leads old refl in
      let led = subst (λ (d : DeskParts P). Lead (MakesDue (MakesCall keeps tells faults leaves) due_at) old (events_in entries) d) (sym one.1) one.2 in
      let made = made_led (MakesCall keeps tells faults leaves) due_at old (events_in entries) new led in
      let stays = stays_led keeps tells faults leaves old (events_in entries) new made in
      record {
        led = led;
        behind = served.behind;
        rows = stays.rows;
        left = stays.left;
        counted = counted_led keeps tells faults leaves old (events_in entries) new made;
        accounted = called_by receipts workers entries accounted numbers connections;
        unbegun = none_called receipts ((end ≡ RoundCause.Memory) × (new ≡ old) × (entries ≡ [])) unbegun;
        looked = λ lacks last fewer. looked lacks last fewer new refl;
      }
