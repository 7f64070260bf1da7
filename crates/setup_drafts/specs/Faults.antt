-- Faults of a setup, and answers that have one.
use Rattle.std.specs.Prelude.{◌≡◌, ◌≢◌, ℕ, List, [], ◌∷◌, Bool, true, false, Option, Some, None, Result, Ok, Err}
use Rattle.std.specs.Option.{option_or}
use Rattle.setup_drafts.specs.declared.fault.SetupFault.{SetupFault}
use Rattle.setup_drafts.specs.declared.fault.SetupFault.TheVariants.{BadToml, Missing, Duplicate, Unknown, TooMany, BadValue, Memory}

-- the fault is this one, unless memory ran out
abbrev pub IsUnlessMemory : SetupFault → SetupFault → Type 0
IsUnlessMemory fault expected = fault ≢ Memory → fault ≡ expected

-- the fault, where the test says so
abbrev pub fault_if : Bool → SetupFault → Option SetupFault
fault_if true fault = Some fault
fault_if false fault = None

-- the answer has the first fault, and where there is none the value; unless memory ran out
abbrev pub Answers : {V : Type 0} → Option SetupFault → V → Result V SetupFault → Type 0
Answers fault value (Ok v) = (fault ≡ None) × (v ≡ value)
Answers fault value (Err e) = e ≢ Memory → fault ≡ Some e

-- the same, where the value is what the answer's is seen as
abbrev pub AnswersBy : {U V : Type 0} → (U → V) → Option SetupFault → V → Result U SetupFault
    → Type 0
AnswersBy seen fault value (Ok u) = (fault ≡ None) × (seen u ≡ value)
AnswersBy seen fault value (Err e) = e ≢ Memory → fault ≡ Some e

-- the fault that is told, unless memory ran out
abbrev pub FaultOf : Option SetupFault → Option SetupFault → Type 0
FaultOf fault None = fault ≡ None
FaultOf fault (Some e) = e ≢ Memory → fault ≡ Some e

-- the first fault of a list of checks
abbrev pub first_of : List (Option SetupFault) → Option SetupFault
first_of [] = None
first_of (check ∷ checks) = option_or check (first_of checks)

-- the answer has the first fault, if there is one
abbrev pub Tells : Option SetupFault → Result (Unit {0}) SetupFault → Type 0
Tells fault (Ok _) = fault ≡ None
Tells fault (Err e) = e ≢ Memory → fault ≡ Some e

-- the number of each kind of fault, and 0 for want of memory
abbrev pub fault_kind : SetupFault → ℕ
fault_kind BadToml = 1
fault_kind (Missing name) = 2
fault_kind (Duplicate name) = 3
fault_kind (Unknown name) = 4
fault_kind (TooMany name most) = 5
fault_kind (BadValue name) = 6
fault_kind Memory = 0

-- what the fault tells of
abbrev pub name_of : SetupFault → Option (List ℕ)
name_of BadToml = None
name_of (Missing name) = Some name
name_of (Duplicate name) = Some name
name_of (Unknown name) = Some name
name_of (TooMany name most) = Some name
name_of (BadValue name) = Some name
name_of Memory = None
