-- By whom what is there after a run was made: each issue and each entry came at a line of a user who had the permission then.
use Rattle.std.specs.Prelude.{◌≡◌, ◌⊎◌, ℕ, true, List, [], ◌∷◌, slice_get, Some, None, Ok}
use Rattle.field_values.specs.Parts.{Parts}
use Rattle.change_history.specs.declared.entry.Entry.{Entry}
use Rattle.change_history.specs.History.{History}
use Rattle.tracker_calls.specs.declared.call.Call.{Call}
use Rattle.call_lines.specs.Asked.{line_of}
use Rattle.tracker_machine.specs.Machine.{Machine, opening}
use Rattle.tracker_machine.specs.Effect.{longer}
use Rattle.tracker_machine.specs.Step.{user_of}
use Rattle.tracker_runs.specs.Run.{Marked, plain, marked_next, end_of_run}
use Rattle.tracker_sight.specs.Integrity.{may_change, IsKnown, IsMadeNow, AllEntries, MayCreate}

-- ---- entries

-- the line isn't marked, and asks for a call of the user by whom the entry is, who makes it now, and who may change the issue at the
-- place
pub record MakesEntry (m : Machine) (x : Marked) (place : ℕ) (e : Entry) : Type 0 where
  pub user : List ℕ
  pub c : Call
  pub asks : line_of x.line ≡ Ok (user, c)
  pub unmarked : x.mark ≡ plain
  pub known : IsKnown m user
  pub issue : History
  pub there : slice_get m.histories place ≡ Some issue
  pub may : may_change m.setup (user_of m user) issue ≡ true
  pub made : IsMadeNow m (user_of m user) e

-- one of the lines did
abbrev pub WasMade : Machine → List Marked → ℕ → Entry → Type 0
WasMade m [] place e = ⊥
WasMade m (x ∷ xs) place e =
    MakesEntry m x place e ⊎ WasMade (marked_next m x.line x.mark) xs place e

-- no lines, whatever their marks, take back or change an entry, a key or what an issue opened with: an issue only gets entries more,
-- each of which was made at one of these lines, by a user who had the permission then
abbrev pub ThePastStays : Type 0
ThePastStays =
    (m : Machine) (lines : List Marked) (place : ℕ) (h : History)
    → slice_get m.histories place ≡ Some h
    → (new : History) × (slice_get (end_of_run m lines).histories place ≡ Some new)
    × ((added : List Entry) × (new ≡ longer h added) × AllEntries (WasMade m lines place) added)

-- each entry of each issue after a new tracker's lines was made at one of these, by a user who had the permission then
abbrev pub EntriesWereAllowed : Type 0
EntriesWereAllowed =
    (text : List ℕ) (setup : Parts) (lines : List Marked) (place : ℕ) (h : History)
    → slice_get (end_of_run (opening text setup) lines).histories place ≡ Some h
    → AllEntries (WasMade (opening text setup) lines place) h.entries

-- ---- issues

-- an issue as it was created, without its entries since
abbrev pub as_created : History → History
as_created h = record h { entries = [] }

-- the line isn't marked, and asks for a call of the user by whom the issue is, who creates it now, and may
pub record CreatesIssue (m : Machine) (x : Marked) (h : History) : Type 0 where
  pub user : List ℕ
  pub c : Call
  pub asks : line_of x.line ≡ Ok (user, c)
  pub unmarked : x.mark ≡ plain
  pub known : IsKnown m user
  pub may : MayCreate m (user_of m user) h

-- one of the lines did
abbrev pub WasCreated : Machine → List Marked → History → Type 0
WasCreated m [] h = ⊥
WasCreated m (x ∷ xs) h =
    CreatesIssue m x h ⊎ WasCreated (marked_next m x.line x.mark) xs h

-- an issue that wasn't there before some lines was created at one of these, by a user who had the permission then
abbrev pub IssuesWereCreated : Type 0
IssuesWereCreated =
    (m : Machine) (lines : List Marked) (place : ℕ) (h : History)
    → slice_get m.histories place ≡ None
    → slice_get (end_of_run m lines).histories place ≡ Some h → WasCreated m lines (as_created h)

-- so was each issue of a new tracker
abbrev pub IssuesWereAllowed : Type 0
IssuesWereAllowed =
    (text : List ℕ) (setup : Parts) (lines : List Marked) (place : ℕ) (h : History)
    → slice_get (end_of_run (opening text setup) lines).histories place ≡ Some h
    → WasCreated (opening text setup) lines (as_created h)
