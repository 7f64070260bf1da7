-- What comes of the word `amend`, by its status.
use Rattle.std.specs.Prelude.{◌≡◌, ◌⊎◌, ◌<◌, ◌≤◌, ℕ, List, [], ◌∷◌, length, codes, Option, IfSome, Ok}
use Rattle.std.specs.Str.{IsUtf8}
use Rattle.field_values.specs.Parts.{Parts}
use Rattle.setup_reading.specs.Reading.{setup_in}
use Rattle.tracker_keeper.specs.declared.row.Row.{Row}
use Rattle.tracker_keeper.specs.Rows.{Rows, IsListing}
use Rattle.amended_rows.specs.Amending.{ComesOf, IsInTheWay}
use Rattle.status_texts.specs.Setups.{setup_limit, IsSetupText}
use Rattle.status_texts.specs.Texts.{kept_line, limit_input}

abbrev pub IsAmend : List (List ℕ) → Type 0
IsAmend words = words ≡ codes "amend" ∷ []

-- this setup is read from the text
pub record IsReadAs (text : List ℕ) (setup : Parts) : Type 0 where
  pub is_text : IsUtf8 text
  pub reads : setup_in text ≡ Ok setup

-- the keeper's rows became those that come of them for the setup that this text is, so far as it tells them, and a crash leaves just these
pub record HasAmended {P : Type 0} (keeps : P → Rows → Type 0) (tells : P → Type 0)
    (leaves : P → Rows → Rows → Type 0) (old new : P) (text : List ℕ) : Type 0 where
  pub setup : Parts
  pub reads : IsReadAs text setup
  pub rows : (rows : Rows) → keeps old rows → tells new
      → (after : Rows) × ComesOf text setup rows after × keeps new after × leaves new after after

-- the keeper has the rows that it had
abbrev pub HasItsRows : {P : Type 0} → (P → Rows → Type 0) → P → P → Type 0
HasItsRows keeps old new = (rows : Rows) → keeps old rows → keeps new rows

-- a crash leaves the keeper's rows, or those that come of them for the setup that the input is
abbrev pub LeavesEither : {P : Type 0} → (P → Rows → Type 0) → (P → Type 0)
    → (P → Rows → Rows → Type 0) → Option (List ℕ) → P → P → Type 0
LeavesEither keeps tells leaves left old new =
    (rows : Rows) → keeps old rows → leaves old rows rows → tells new
    → leaves new rows rows
    ⊎ ((text : List ℕ) × (setup : Parts) × (after : Rows) × IfSome left (λ bytes. text ≡ bytes)
    × IsReadAs text setup × ComesOf text setup rows after × leaves new rows after)

-- that row stands in the way of the setup that this text is, so far as the keeper tells its rows
abbrev pub HasInTheWay : {P : Type 0} → (P → Rows → Type 0) → (P → Type 0) → P → P → List ℕ → ℕ
    → ℕ → Type 0
HasInTheWay keeps tells old new text kind number =
    (setup : Parts) × IsReadAs text setup
    × ((rows : Rows) → keeps old rows → tells new → IsInTheWay text setup rows kind number)

-- that row stands in the way of the setup, whichever rows are listed here
abbrev pub IsInTheWayOf : List ℕ → Parts → List Row → ℕ → ℕ → Type 0
IsInTheWayOf text setup list kind number =
    (rows : Rows) → IsListing rows list → IsInTheWay text setup rows kind number

-- the text tells which row stands in the way of the input, which is a setup within its limit
abbrev pub IsRowText : (List ℕ → ℕ → ℕ → Type 0) → Option (List ℕ) → List ℕ → Type 0
IsRowText Way left text =
    (kind : ℕ) × (number : ℕ)
    × IfSome left (λ bytes. (length bytes ≤ setup_limit) × Way bytes kind number)
    × (text ≡ kept_line kind number)

-- one of the texts of `amend`, each where it is due: the input is too long, no setup, or one that a row stands in the way of
abbrev pub IsAmendText : (List ℕ → ℕ → ℕ → Type 0) → Option (List ℕ) → List ℕ → Type 0
IsAmendText Way left text =
    ((text ≡ limit_input) × IfSome left (λ bytes. setup_limit < length bytes))
    ⊎ IsSetupText left text ⊎ IsRowText Way left text
