-- Entries of a list of tables, looked at one after another.
use Rattle.std.specs.Prelude.{ℕ, List, [], ◌∷◌, ◌++◌, Option, None}
use Rattle.std.specs.Option.{option_or}
use Rattle.toml.specs.Data.{Members}
use Rattle.setup_drafts.specs.declared.fault.SetupFault.{SetupFault}

-- the first fault of the entries, each looked at beside what those before it leave
abbrev pub entries_fault : {S : Type 0} → (S → Members → Option SetupFault) → (S → Members → S) → S
    → List Members → Option SetupFault
entries_fault fault after before [] = None
entries_fault fault after before (e ∷ es) =
    option_or (fault before e) (entries_fault fault after (after before e) es)

-- the names so far, and the name of one more entry
abbrev pub with_name : (Members → List ℕ) → List (List ℕ) → Members → List (List ℕ)
with_name name earlier e = earlier ++ name e ∷ []
