-- An input that is to be a setup.
use Rattle.std.specs.Prelude.{◌≡◌, ◌≢◌, ◌≤◌, ℕ, List, length, Option, IfSome, Ok}
use Rattle.std.specs.Str.{IsUtf8}
use Rattle.field_values.specs.Parts.{Parts}
use Rattle.setup_drafts.specs.declared.fault.SetupFault.{SetupFault}
use Rattle.setup_drafts.specs.declared.fault.SetupFault.TheVariants as setup_fault
use Rattle.setup_reading.specs.Reading.{setup_in, Explains}
use Rattle.status_texts.specs.Texts.{setup_line}

-- these bytes are a setup
pub record IsSetup (bytes : List ℕ) : Type 0 where
  pub setup : Parts
  pub is_text : IsUtf8 bytes
  pub reads : setup_in bytes ≡ Ok setup

-- the most bytes of a setup
abbrev pub setup_limit : ℕ
setup_limit = 1_048_576

-- the input is a setup, and within its limit
abbrev pub HasSetup : Option (List ℕ) → Type 0
HasSetup left = IfSome left (λ bytes. (length bytes ≤ setup_limit) × IsSetup bytes)

-- the text tells why the input, which is within its limit, is no setup
abbrev pub IsSetupText : Option (List ℕ) → List ℕ → Type 0
IsSetupText left text =
    (fault : SetupFault) × (fault ≢ setup_fault.Memory)
    × IfSome left (λ bytes. (length bytes ≤ setup_limit) × Explains bytes fault)
    × (text ≡ setup_line fault)
