-- The load: calls that a number asks for, and what a tracker comes to by them.
use Rattle.std.specs.Prelude.{◌≡◌, ℕ, ◌+◌, ◌-◌, ◌*◌, ◌/◌, ◌%◌, ◌==◌, Bool, true, false, List, [], ◌∷◌, ◌++◌, map, length, None, Result, Ok, Err, codes, decimal, if◌then◌else◌}
use Rattle.std.specs.List.{fold, flat_map, range_with_len}
use Rattle.std.specs.Option.{option_map_or}
use Rattle.field_values.specs.declared.numbers.FilterNo.{FilterNo}
use Rattle.field_values.specs.declared.numbers.SprintNo.{SprintNo}
use Rattle.rank_balancer.specs.Balance.{to_of}
use Rattle.tracker_work.specs.Seen.{sprint_left}
use Rattle.tracker_calls.specs.declared.call.Call.{Call}
use Rattle.tracker_calls.specs.declared.call.Call.TheVariants as call
use Rattle.tracker_calls.specs.declared.given.Given.{Given}
use Rattle.tracker_calls.specs.declared.given.Given.TheVariants as given
use Rattle.tracker_calls.specs.declared.given.GivenField.{GivenField}
use Rattle.tracker_calls.specs.declared.reply.Reply.{Reply}
use Rattle.tracker_calls.specs.declared.reply.Reply.TheVariants as reply
use Rattle.tracker_calls.specs.declared.reply.Refusal.TheVariants as refusal
use Rattle.tracker_keeper.specs.Rows.{Rows}
use Rattle.tracker_machine.specs.Machine.{Machine}
use Rattle.tracker_machine.specs.Filters.{filter_numbered, shown}
use Rattle.tracker_machine.specs.Sprints.{work_of}
use Rattle.tracker_machine.specs.Step.{reply_of, next_of}
use Rattle.tracker_core.specs.Desk.{DeskParts}
use Rattle.tracker_import.specs.Calls.{HasKept}
use Rattle.tracker_import.specs.declared.load.LoadEnd.{LoadEnd}
use Rattle.tracker_import.specs.declared.load.LoadEnd.TheVariants as end
use Rattle.tracker_import.specs.declared.load.LoadFault.{LoadFault}
use Rattle.tracker_import.specs.declared.load.LoadFault.TheVariants as fault
use Rattle.tracker_import.specs.declared.load.LoadSummary.{LoadSummary}
use Rattle.tracker_import.specs.declared.load.CallCounts.{CallCounts}

-- ---- numbers

-- the numbers from the first to the last, upwards
abbrev pub numbers : ℕ → ℕ → List ℕ
numbers first last = range_with_len first (last + 1 - first)

-- those multiples of a number that its factors from the first to the last give
abbrev pub multiples : ℕ → ℕ → ℕ → List ℕ
multiples k first last = map (λ j. k * j) (numbers first last)

-- ---- calls of one issue

-- who makes all calls
abbrev pub loader : List ℕ
loader = codes "anna"

abbrev pub key : ℕ → List ℕ
key i = codes "OPS-" ++ decimal i

abbrev pub with_value : List ℕ → Given → List GivenField
with_value name value = (record { name = name; given = value }) ∷ []

abbrev pub first_sprint : SprintNo
first_sprint = record { 0 = 1 }

abbrev pub first_filter : FilterNo
first_filter = record { 0 = 1 }

-- an issue with points from 0 to 7
abbrev pub create : ℕ → Call
create i =
    call.Create (codes "OPS") (codes "Task") (codes "load " ++ decimal i)
    (with_value (codes "points") (given.Text (decimal (i % 8)))) None

abbrev pub into_sprint : ℕ → Call
into_sprint i = call.Edit (key i) (with_value (codes "sprint") (given.Number 1))

abbrev pub start : ℕ → Call
start i = call.Transition (key i) (codes "Start") []

abbrev pub finish : ℕ → Call
finish i = call.Transition (key i) (codes "Finish") []

abbrev pub move_up : ℕ → Call
move_up i = call.MoveBefore (key i) (key (i - 1))

-- ---- the calls, part by part

-- a second passes before each issue comes
abbrev pub created : ℕ → List Call
created i = call.Tick i ∷ create i ∷ []

-- the issue of an even number is started, and finished where 4 divides its number
abbrev pub is_finished : ℕ → Bool
is_finished i = i % 4 == 0

abbrev pub finished : ℕ → List Call
finished i = if is_finished i then finish i ∷ [] else []

abbrev pub worked_on : ℕ → ℕ → List Call
worked_on n i = call.Tick (n + i) ∷ start i ∷ finished i

abbrev pub make_sprint : Call
make_sprint = call.MakeSprint (codes "load")

abbrev pub start_sprint : Call
start_sprint = call.StartSprint first_sprint

abbrev pub save_filter : Call
save_filter = call.SaveFilter (codes "load") (codes "status CHANGED TO Done AFTER -1d")

-- the ranks are moved in steps of a thousand
abbrev pub step : Call
step = call.RebalanceStep 1000

abbrev pub steps_for : ℕ → ℕ
steps_for n = (n + 999) / 1000

-- a day passes, so that the filter loses those issues that were finished in the first half
abbrev pub last_tick : ℕ → Call
last_tick n = call.Tick (n + n / 2 + 86_400)

-- n issues are made; each third is put into a sprint, which is started; a filter asks which were finished lately; each second is
-- worked on; each fifth is moved before the one ahead of it; all ranks go to the next bucket; and a day passes
abbrev pub load_calls : ℕ → List Call
load_calls n =
    flat_map created (numbers 1 n)
    ++ (make_sprint ∷ map into_sprint (multiples 3 1 (n / 3))
    ++ (start_sprint ∷ save_filter ∷ flat_map (worked_on n) (multiples 2 1 (n / 2))
    ++ (map move_up (multiples 5 1 (n / 5))
    ++ (call.RebalanceStart ∷ map (λ _. step) (numbers 1 (steps_for n))
    ++ last_tick n ∷ []))))

-- ---- what they come to

abbrev pub end_of : Machine → List Call → Machine
end_of m calls = fold (λ m c. next_of m loader c) m calls

abbrev pub is_refused : Reply → Bool
is_refused (reply.Ok a) = false
is_refused (reply.Refused r) = true

-- how many of the calls are refused
abbrev pub refused_at : Machine → Call → ℕ
refused_at m c = if is_refused (reply_of m loader c) then 1 else 0

abbrev pub refused_in : Machine → List Call → ℕ
refused_in m [] = 0
refused_in m (c ∷ cs) = refused_at m c + refused_in (next_of m loader c) cs

-- how many issues a filter shows its owner; none where it isn't there
abbrev pub members_of : Machine → FilterNo → ℕ
members_of m filter_no =
    option_map_or (λ f. length (shown m f.owner.0 f)) (filter_numbered m filter_no) 0

-- the number of calls, and of those that were refused; and of a tracker the members of its first filter, what is left of its first
-- sprint, and the bucket in which its ranks are, or to which they go
abbrev pub summary_of : ℕ → ℕ → Machine → LoadSummary
summary_of calls refused m = record {
  calls = calls;
  refused = refused;
  members = members_of m first_filter;
  left = sprint_left (work_of m) 1;
  bucket = to_of m.balance;
}

-- the tracker after the load, and what is told of it
unfoldable pub loaded : ℕ → Machine → Machine
loaded n m = end_of m (load_calls n)

unfoldable pub load_summary : ℕ → Machine → LoadSummary
load_summary n m = summary_of (length (load_calls n)) (refused_in m (load_calls n)) (loaded n m)

-- ---- how it ends

-- the calls were made, and so many of them were refused
pub record HasMade {P : Type 0} (keeps : P → Rows → Type 0) (tells : P → Type 0) (faults : P → ℕ)
    (old : DeskParts P) (calls : List Call) (counts : CallCounts) (new : DeskParts P) : Type 0 where
  pub calls_are : counts.calls ≡ length calls
  pub refused_are : counts.refused ≡ refused_in old.machine calls
  pub machine_is : new.machine ≡ end_of old.machine calls
  pub kept : HasKept keeps tells faults old new 0

-- the first of the calls were made, and no other one
pub record HasMadeFront {P : Type 0} (keeps : P → Rows → Type 0) (tells : P → Type 0)
    (faults : P → ℕ) (calls : List Call) (old new : DeskParts P) (failures : ℕ) : Type 0 where
  pub done : List Call
  pub rest : List Call
  pub calls_are : calls ≡ done ++ rest
  pub machine_is : new.machine ≡ end_of old.machine done
  pub kept : HasKept keeps tells faults old new failures

-- the load was made, and the summary is what it comes to
pub record HasMadeLoad {P : Type 0} (keeps : P → Rows → Type 0) (tells : P → Type 0)
    (faults : P → ℕ) (n : ℕ) (old : DeskParts P) (summary : LoadSummary)
    (new : DeskParts P) : Type 0 where
  pub summary_is : summary ≡ load_summary n old.machine
  pub machine_is : new.machine ≡ loaded n old.machine
  pub kept : HasKept keeps tells faults old new 0

-- all calls were made; or the keeper failed at the one behind those that were made; or memory lacked
abbrev pub EndsLoad : {P : Type 0} → (P → Rows → Type 0) → (P → Type 0) → (P → ℕ) → ℕ → DeskParts P
    → LoadEnd → DeskParts P → Type 0
EndsLoad keeps tells faults n old (end.Done summary) new =
    HasMadeLoad keeps tells faults n old summary new
EndsLoad keeps tells faults n old end.KeeperFault new =
    HasMadeFront keeps tells faults (load_calls n) old new 1
EndsLoad keeps tells faults n old end.Memory new =
    HasMadeFront keeps tells faults (load_calls n) old new 0

-- ---- on the way

-- a call was answered and made; or it wasn't, since the keeper failed or memory lacked, and the tracker is as it was
pub record IsMadeInLoad {P : Type 0} (keeps : P → Rows → Type 0) (tells : P → Type 0)
    (faults : P → ℕ) (old : DeskParts P) (c : Call) (refused : Bool)
    (new : DeskParts P) : Type 0 where
  pub refused_is : refused ≡ is_refused (reply_of old.machine loader c)
  pub machine_is : new.machine ≡ next_of old.machine loader c
  pub kept : HasKept keeps tells faults old new 0

pub record IsLeftInLoad {P : Type 0} (keeps : P → Rows → Type 0) (tells : P → Type 0)
    (faults : P → ℕ) (old new : DeskParts P) (failures : ℕ) : Type 0 where
  pub machine_is : new.machine ≡ old.machine
  pub kept : HasKept keeps tells faults old new failures

abbrev pub MakesInLoad : {P : Type 0} → (P → Rows → Type 0) → (P → Type 0) → (P → ℕ) → DeskParts P
    → Call → Result Bool LoadFault → DeskParts P → Type 0
MakesInLoad keeps tells faults old c (Ok refused) new =
    IsMadeInLoad keeps tells faults old c refused new
MakesInLoad keeps tells faults old c (Err fault.Keeper) new =
    IsLeftInLoad keeps tells faults old new 1
MakesInLoad keeps tells faults old c (Err fault.Memory) new =
    IsLeftInLoad keeps tells faults old new 0

-- whether a call was refused; none goes on behind a keeper's fault or want of memory
abbrev pub outcome_of : Reply → Result Bool LoadFault
outcome_of (reply.Ok a) = Ok false
outcome_of (reply.Refused refusal.Keeper) = Err fault.Keeper
outcome_of (reply.Refused refusal.Memory) = Err fault.Memory
outcome_of (reply.Refused (refusal.Cause c)) = Ok true

-- all of these calls were made, or only the first of them
abbrev pub MakesEach : {P : Type 0} → (P → Rows → Type 0) → (P → Type 0) → (P → ℕ) → DeskParts P
    → List Call → Result CallCounts LoadFault → DeskParts P → Type 0
MakesEach keeps tells faults old calls (Ok counts) new =
    HasMade keeps tells faults old calls counts new
MakesEach keeps tells faults old calls (Err fault.Keeper) new =
    HasMadeFront keeps tells faults calls old new 1
MakesEach keeps tells faults old calls (Err fault.Memory) new =
    HasMadeFront keeps tells faults calls old new 0
