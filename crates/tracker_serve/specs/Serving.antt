-- What a server does, round after round.
use Rattle.std.specs.Prelude.{◌≡◌, ℕ, List, [], ◌∷◌, ◌++◌, Option, codes}
use Rattle.desk_turn.specs.declared.entry.Entry.{Entry}
use Rattle.tracker_core.specs.Desk.{DeskParts}
use Rattle.tracker_keeper.specs.Rows.{Rows}
use Rattle.tracker_server.specs.declared.event.Event.{Event}
use Rattle.tracker_cli.specs.Numerals.{IsNumberOf, IsPort}
use Rattle.tracker_rounds.specs.Trail.{events_in}
use Rattle.tracker_rounds.specs.declared.ask.Ask.{Ask}
use Rattle.tracker_rounds.specs.declared.ask.Told.{Told}
use Rattle.tracker_rounds.specs.declared.round.RoundCause.{RoundCause}
use Rattle.tracker_serve.specs.Round.{Called, IsRound}

-- the words are `serve`, this port and so many workers, both in digits without a leading zero
abbrev pub IsServe : List (List ℕ) → ℕ → ℕ → Type 0
IsServe words port workers =
    (word : List ℕ) × (count : List ℕ) × (words ≡ codes "serve" ∷ word ∷ count ∷ [])
    × IsPort word port × IsNumberOf 1 16 count workers

-- the calls of rounds, one behind another
abbrev pub events_along : List (List (Entry Ask Told)) → List Event
events_along [] = []
events_along (entries ∷ rounds) = events_in entries ++ events_along rounds

module _ {P : Type 0} (keeps : P → Rows → Type 0) (tells : P → Type 0) (faults : P → ℕ)
    (leaves : P → Rows → Rows → Type 0) (workers : ℕ) where
  -- one round after another, each of which took as many connections as it may
  abbrev pub AreFullRounds : DeskParts P → List (List (Entry Ask Told)) → DeskParts P → Type 0
  AreFullRounds old [] new = new ≡ old
  AreFullRounds old (entries ∷ rounds) new =
      (middle : DeskParts P) × (called : Option Called)
      × IsRound keeps tells faults leaves workers RoundCause.Full called old entries middle
      × AreFullRounds middle rounds new

  -- these calls are those of rounds, the last of which ended by this cause
  pub record AreOfRounds (end : RoundCause) (old : DeskParts P) (events : List Event)
      (new : DeskParts P) : Type 0 where
    pub rounds : List (List (Entry Ask Told))
    pub middle : DeskParts P
    pub full : AreFullRounds old rounds middle
    pub last : List (Entry Ask Told)
    pub called : Option Called
    pub ended : IsRound keeps tells faults leaves workers end called middle last new
    pub events_are : events ≡ events_along rounds ++ events_in last

  -- so many rounds were made so far
  pub record HasMadeRounds (old new : DeskParts P) : Type 0 where
    pub rounds : List (List (Entry Ask Told))
    pub full : AreFullRounds old rounds new

  -- calls were made by rounds, the last of which ended by this cause
  abbrev pub HasEndedRounds : RoundCause → DeskParts P → DeskParts P → Type 0
  HasEndedRounds end old new = (events : List Event) × AreOfRounds end old events new

-- these calls are those of rounds of as many workers as the words ask for
abbrev pub AreOfWords : {P : Type 0} → (P → Rows → Type 0) → (P → Type 0) → (P → ℕ)
    → (P → Rows → Rows → Type 0) → List (List ℕ) → RoundCause → DeskParts P → List Event
    → DeskParts P → Type 0
AreOfWords keeps tells faults leaves words end old events new =
    (port : ℕ) × (workers : ℕ) × IsServe words port workers
    × AreOfRounds keeps tells faults leaves workers end old events new
