-- What a call may change of the lists of filters.
use Rattle.std.specs.Prelude.{ℕ, ◌≡◌, ◌≢◌, ◌==◌, Bool, List, length, Option, Some, None, if◌then◌else◌}
use Rattle.list_changes.specs.declared.changed.Changed.{Changed}
use Rattle.list_changes.specs.declared.changed.Changed.TheVariants as changed
use Rattle.list_changes.specs.Differ.{MayBecome}
use Rattle.tracker_calls.specs.declared.call.Call.{Call}
use Rattle.tracker_calls.specs.declared.call.Call.TheVariants as call
use Rattle.tracker_calls.specs.declared.reply.Answer.{Answer}
use Rattle.tracker_calls.specs.declared.reply.Answer.TheVariants as answer
use Rattle.tracker_calls.specs.declared.reply.Reply.{Reply}
use Rattle.tracker_calls.specs.declared.reply.Reply.TheVariants as reply
use Rattle.tracker_machine.specs.Machine.{Machine}
use Rattle.tracker_machine.specs.Known.{place_of_issue}
use Rattle.tracker_machine.specs.Step.{IsStep}
use Rattle.filter_lists.specs.Listed.{listed}

-- ---- what a list may become

-- from one state to another each list may
abbrev pub ListsMayChange : Changed → Machine → Machine → Type 0
ListsMayChange changed old new =
    (user filter_no : ℕ) → MayBecome changed filter_no (listed old user filter_no)
    (listed new user filter_no)

-- ---- what a call may change

-- an issue that is named may come in or go out; where there is none of that name, nothing is done
abbrev pub changed_at : Option ℕ → Changed
changed_at (Some place) = changed.Issue place
changed_at None = changed.Nothing

-- a new issue may come in; where there was one of its external id, none has come
abbrev pub changed_by_create : ℕ → ℕ → Changed
changed_by_create before now = if now == before then changed.Nothing else changed.Issue before

-- a filter that is saved or dropped may list others
abbrev pub changed_by_answer : Answer → Changed
changed_by_answer (answer.SaveFilter filter_no members) = changed.Filter filter_no
changed_by_answer (answer.DropFilter filter_no) = changed.Filter filter_no
changed_by_answer a = changed.Anything

-- an answered call, where so many issues were there before and are now, and the one that it names stands there; a later moment, another phase of
-- a sprint and other members of a group may change any list, and ranks and boards change none
abbrev pub changed_by : Call → Option ℕ → ℕ → ℕ → Answer → Changed
changed_by (call.Create project issue_type summary set external) place before now a =
    changed_by_create before now
changed_by (call.Edit issue set) place before now a = changed_at place
changed_by (call.Transition issue transition set) place before now a = changed_at place
changed_by (call.Tick to) place before now a = changed.Anything
changed_by (call.SaveFilter name jql) place before now a = changed_by_answer a
changed_by (call.DropFilter filter_no) place before now a = changed_by_answer a
changed_by (call.MakeSprint name) place before now a = changed.Anything
changed_by (call.StartSprint sprint) place before now a = changed.Anything
changed_by (call.CloseSprint sprint) place before now a = changed.Anything
changed_by (call.SetGroup group members) place before now a = changed.Anything
changed_by c place before now a = changed.Nothing

-- a call that is refused changes nothing
abbrev pub changed_with : Call → Option ℕ → ℕ → ℕ → Reply → Changed
changed_with c place before now (reply.Ok a) = changed_by c place before now a
changed_with c place before now (reply.Refused r) = changed.Nothing

-- the place of the issue that an edit or a transition names
abbrev pub place_in : Machine → Call → Option ℕ
place_in m (call.Edit issue set) = place_of_issue issue m.histories
place_in m (call.Transition issue transition set) = place_of_issue issue m.histories
place_in m c = None

-- ---- the law

-- so each list may change by a call, and not otherwise
abbrev pub CallsChangeLists : Type 0
CallsChangeLists =
    (old : Machine) (caller : List ℕ) (c : Call) (r : Reply) (new : Machine) →
    IsStep old caller c r new →
    ListsMayChange (changed_with c (place_in old c) (length old.histories) (length new.histories) r)
    old new
