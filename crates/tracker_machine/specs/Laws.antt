-- What is proved of the abstract tracker.
use Rattle.std.specs.Prelude.{◌≡◌, ℕ, ◌<◌, ◌≤◌, ◌^◌, List, false, length, slice_get, None, Some}
use Rattle.std.specs.List.{All, list_any}
use Rattle.field_values.specs.Parts.{Parts}
use Rattle.field_forms.specs.Values.{is_before}
use Rattle.tracker_keeper.specs.declared.row.RowOp.{RowOp}
use Rattle.tracker_keeper.specs.declared.part.Part.{Part}
use Rattle.tracker_keeper.specs.Rows.{no_rows, with_ops, number_of}
use Rattle.tracker_keeper.specs.Kept.{IsSetupText, IsPart, IsPartAt}
use Rattle.tracker_machine.specs.Machine.{Machine, opening}
use Rattle.tracker_machine.specs.Tracker.{IsTracker, HaveUsers}
use Rattle.tracker_machine.specs.Effect.{Effect, applied, IsAllowed}
use Rattle.tracker_machine.specs.Kept.{part_at, rows_of, parts_of, ops_of, opening_parts, opening_ops, migrating_parts, migrating_ops}
use Rattle.tracker_machine.specs.Checks.{first_with}

-- what holds of every tracker holds after each effect that it may have
abbrev pub EffectsKeepTrackers : Type 0
EffectsKeepTrackers =
    (effect : Effect) (m : Machine) → IsAllowed effect m → IsTracker m
    → IsTracker (applied effect m)

-- ---- rows

-- the rows after an effect are the rows before it, with the operations that keep it
abbrev pub OperationsKeepEffects : Type 0
OperationsKeepEffects =
    (effect : Effect) (m : Machine) → IsAllowed effect m → IsTracker m
    → rows_of (applied effect m) ≡ with_ops (ops_of effect m) (rows_of m)

-- where nothing is kept, the opening operations leave the rows of a new tracker
abbrev pub OperationsOpenTrackers : Type 0
OperationsOpenTrackers =
    (text : List ℕ) (setup : Parts)
    → with_ops (opening_ops (opening text setup)) no_rows ≡ rows_of (opening text setup)

-- the numbers of these rows are below 2 ^ 63, which a table of signed numbers can hold
abbrev pub AreSmallOps : List RowOp → Type 0
AreSmallOps ops = All (λ op. number_of op < 2 ^ 63) ops

abbrev pub OperationsAreSmall : Type 0
OperationsAreSmall =
    (effect : Effect) (m : Machine) → IsAllowed effect m → IsTracker m
    → AreSmallOps (ops_of effect m)

abbrev pub OpeningIsSmall : Type 0
OpeningIsSmall = (m : Machine) → length m.setup.group ≤ 100 → AreSmallOps (opening_ops m)

abbrev pub MigrationsAreSmall : Type 0
MigrationsAreSmall = (m : Machine) → IsTracker m → AreSmallOps (migrating_ops m)

-- each part of a tracker is one that may be kept, of the kind and the number that it is kept under
abbrev pub PartsMayBeKept : Type 0
PartsMayBeKept =
    (m : Machine) (kind number : ℕ) (p : Part) → IsSetupText m.text → IsTracker m
    → part_at m kind number ≡ Some p → IsPartAt m.setup kind number p

-- so is each part that an effect puts, and each of a new tracker
abbrev pub EffectsMayBeKept : Type 0
EffectsMayBeKept =
    (effect : Effect) (m : Machine) → IsAllowed effect m → IsTracker m
    → All (IsPart m.setup) (parts_of effect m)

abbrev pub OpeningMayBeKept : Type 0
OpeningMayBeKept =
    (text : List ℕ) (setup : Parts) → IsSetupText text → HaveUsers (length setup.users) setup.group
    → All (IsPart setup) (opening_parts (opening text setup))

-- and each that a tracker's rows of the first format lack
abbrev pub MigrationMayBeKept : Type 0
MigrationMayBeKept = (m : Machine) → IsTracker m → All (IsPart m.setup) (migrating_parts m)

-- ---- names

-- the name is one of these, and none of them comes before it in byte order
pub record IsLeastName (names : List (List ℕ)) (name : List ℕ) : Type 0 where
  pub among : (place : ℕ) × (slice_get names place ≡ Some name)
  pub least : list_any (λ other. is_before other name) names ≡ false

-- of the names in `set` that are refused, the least is told
abbrev pub FirstNameIsLeast : Type 0
FirstNameIsLeast =
    (names : List (List ℕ)) (name : List ℕ) → first_with None names ≡ Some name
    → IsLeastName names name
