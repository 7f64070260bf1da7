-- What is left of a round when its workers have ended.
use Rattle.std.specs.Prelude.{◌≡◌, ◌⊎◌, ℕ, List, [], ◌∷◌, ◌++◌, Option}
use Rattle.desk_turn.specs.History.{IsAccountedFor}
use Rattle.desk_turn.specs.declared.entry.Entry.{Entry}
use Rattle.tracker_server.specs.declared.event.Event.{Event}
use Rattle.tracker_rounds.specs.declared.ask.Ask.{Ask}
use Rattle.tracker_rounds.specs.declared.ask.Ask.TheVariants as ask
use Rattle.tracker_rounds.specs.declared.ask.Told.{Told}
use Rattle.tracker_rounds.specs.declared.ask.UserCall.{UserCall}
use Rattle.tracker_rounds.specs.Serving.{IsSettled}
use Rattle.tracker_rounds.specs.Trail.{events_in}

-- the last look entered a call of worker 0, or nothing
abbrev pub IsLastLook : List (Entry Ask Told) → Type 0
IsLastLook last =
    (last ≡ [])
    ⊎ ((told : Told) × (last ≡ record { by = 1; ask = ask.Look; told = told } ∷ []))

-- All calls but that of the last look are, caller by caller, those of the receipts: of worker 0, which makes its calls under
-- number 1, and of the others, each under a number of its own
pub record IsAccountedWithLook (entries looks : List (Entry Ask Told))
    (workers : List (ℕ × List (Entry Ask Told))) : Type 0 where
  pub told : List (Entry Ask Told)
  pub last : List (Entry Ask Told)
  pub whole : entries ≡ told ++ last
  pub seen : List (Entry Ask Told)
  pub accounted : IsAccountedFor told seen [] ((1, looks) ∷ workers)
  pub last_is : IsLastLook last

-- worker 0 made the last call
abbrev pub EndsWithLook : List Event → Type 0
EndsWithLook events =
    (front : List Event) × (e : Event) × (events ≡ front ++ e ∷ []) × (e.worker ≡ 0)

-- worker 0 made the last call, or nothing is due that it may do
abbrev pub HasLooked : {Maker State : Type 0} → (Maker → State → Type 0) → (State → Option UserCall)
    → List (Entry Ask Told) → Maker → Type 0
HasLooked tells due entries maker =
    ¬ (EndsWithLook (events_in entries)) → IsSettled tells due entries maker
