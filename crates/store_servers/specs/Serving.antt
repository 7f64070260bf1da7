-- What a server of these words does with the tracker of a keeper, by the status that it ends with.
use Rattle.std.specs.Prelude.{◌≡◌, ◌⊎◌, ℕ, List}
use Rattle.request_lines.specs.Causes.{Rose}
use Rattle.tracker_keeper.specs.Rows.{Rows}
use Rattle.tracker_core.specs.Desk.{HasBadRow}
use Rattle.tracker_cli.specs.Outcome.{StaysUnopened}
use Rattle.tracker_cli.specs.Serving.{HasServed}
use Rattle.tracker_rounds.specs.declared.round.RoundCause.{RoundCause}
use Rattle.tracker_rounds.specs.declared.round.RoundCause.TheVariants as cause
use Rattle.tracker_serve.specs.Serving.{AreOfWords}

module _ {P : Type 0} (keeps : P → Rows → Type 0) (tells : P → Type 0) (faults : P → ℕ)
    (leaves : P → Rows → Rows → Type 0) (words : List (List ℕ)) (setup_text : List ℕ) where
  -- calls were made in rounds, the last of which ended by this cause, from the tracker whose rows the keeper has, or from a new one
  abbrev pub HasServedRounds : RoundCause → P → P → Type 0
  HasServedRounds end old new =
      HasServed keeps tells faults leaves (AreOfWords keeps tells faults leaves words end)
      setup_text old new

  pub record ServesTracker (status : ℕ) (old new : P) : Type 0 where
    -- the links ended, or they failed, or memory lacked, before the desk was opened or between two rounds
    pub served_all : status ≡ 0 → HasServedRounds cause.LinksEnd old new
    pub served_some : status ≡ 2 → HasServedRounds cause.LinkFault old new
    pub lacked : status ≡ 6
        → StaysUnopened keeps tells leaves setup_text old new ⊎ HasServedRounds cause.Memory old new
    -- the keeper failed, or a row that it keeps is bad
    pub keeper_cause : status ≡ 4 → Rose (faults old) (faults new)
    pub bad : status ≡ 5
        → (kind : ℕ) × (number : ℕ) × HasBadRow keeps tells old new kind number
    -- no desk was opened then, and the keeper has the rows that it had
    pub same : (status ≡ 1) ⊎ (status ≡ 4) ⊎ (status ≡ 5)
        → StaysUnopened keeps tells leaves setup_text old new
