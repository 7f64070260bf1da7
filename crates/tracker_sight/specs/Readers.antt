-- What a user reads isn't changed by what happens to issues that the user may not browse: over a whole run.
use Rattle.std.specs.Prelude.{◌≡◌, ◌||◌, ℕ, Bool, true, false, List, [], ◌∷◌, filter, Some, Result, Ok, Err, if◌then◌else◌}
use Rattle.std.specs.Bool.{MatchBool}
use Rattle.std.specs.Str.{bytes_eq}
use Rattle.field_values.specs.Parts.{Parts}
use Rattle.change_history.specs.History.{History}
use Rattle.tracker_calls.specs.declared.call.Call.{Call}
use Rattle.tracker_calls.specs.declared.call.Call.TheVariants as call
use Rattle.tracker_calls.specs.declared.cause.Cause.{Cause}
use Rattle.tracker_calls.specs.declared.reply.Reply.{Reply}
use Rattle.call_lines.specs.Asked.{line_of}
use Rattle.tracker_machine.specs.Machine.{Machine}
use Rattle.tracker_machine.specs.Known.{history_named}
use Rattle.tracker_machine.specs.Tracker.{HasRanks}
use Rattle.tracker_machine.specs.Step.{user_of}
use Rattle.tracker_runs.specs.Run.{Marked, marked_reply, marked_next}
use Rattle.tracker_sight.specs.Sight.{sees}
use Rattle.tracker_sight.specs.Hidden.{LineDoesHidden}

-- ---- calls

-- the call is about no issue: it sets the moment, a filter, a board, a sprint or a group
abbrev pub is_setting : Call → Bool
is_setting (call.Tick to) = true
is_setting (call.SaveFilter name jql) = true
is_setting (call.DropFilter filter) = true
is_setting (call.MakeBoard name filter) = true
is_setting (call.DropBoard board) = true
is_setting (call.MakeSprint name) = true
is_setting (call.StartSprint sprint) = true
is_setting (call.CloseSprint sprint) = true
is_setting (call.SetGroup group members) = true
is_setting _ = false

-- with the later members of groups the user sees no issue that he didn't see before
abbrev pub SeesNoMore : ℕ → Parts → Parts → Type 0
SeesNoMore user before later =
    (h : History) → sees later user h ≡ true → sees before user h ≡ true

-- the user sees the issue of a key
pub record SeesNamed (m : Machine) (user : ℕ) (issue : List ℕ) : Type 0 where
  pub h : History
  pub there : history_named m issue ≡ Some h
  pub seen : sees m.setup user h ≡ true

-- the call only tells: of many issues, of filters, boards and sprints, of the setup, or of an issue that the user sees
abbrev pub Reads : Machine → ℕ → Call → Type 0
Reads m user (call.Search jql part) = Unit {0}
Reads m user (call.Filter filter part) = Unit {0}
Reads m user (call.Board board part) = Unit {0}
Reads m user (call.List jql fields part) = Unit {0}
Reads m user (call.Filters part) = Unit {0}
Reads m user (call.Boards part) = Unit {0}
Reads m user (call.Sprints part) = Unit {0}
Reads m user call.Describe = Unit {0}
Reads m user (call.Show issue) = SeesNamed m user issue
Reads m user (call.History issue part) = SeesNamed m user issue
Reads m user _ = ⊥

-- ---- lines

-- the line is asked by somebody of that name
abbrev pub is_asked_by : List ℕ → Result (List ℕ × Call) Cause → Bool
is_asked_by caller (Ok asked) = bytes_eq asked.0 caller
is_asked_by caller (Err c) = false

-- it asks for a call that is about no issue
abbrev pub asks_to_set : Result (List ℕ × Call) Cause → Bool
asks_to_set (Ok asked) = is_setting asked.1
asks_to_set (Err c) = false

abbrev pub is_by : List ℕ → List ℕ → Bool
is_by caller line = is_asked_by caller (line_of line)

-- the line is the caller's, or sets something, whoever asks for it
abbrev pub is_open_to : List ℕ → List ℕ → Bool
is_open_to caller line = is_by caller line || asks_to_set (line_of line)

-- ---- runs

-- the caller's own line reads, where it doesn't set
abbrev pub AsksToRead : Machine → List ℕ → Result (List ℕ × Call) Cause → Type 0
AsksToRead m caller (Ok asked) =
    MatchBool (is_setting asked.1) (Unit {0}) (Reads m (user_of m caller) asked.1)
AsksToRead m caller (Err c) = ⊥

-- it leads to a tracker where the caller sees no more
abbrev pub LeadsToNoMore : Machine → List ℕ → Marked → Type 0
LeadsToNoMore m caller x =
    SeesNoMore (user_of m caller) m.setup (marked_next m x.line x.mark).setup

-- each line of the caller reads or sets, each line of others sets, or creates, changes or moves issues that the caller may not browse,
-- or rebalances, or does nothing; and at no line the caller comes to see more
abbrev pub ReadsAmongHidden : List ℕ → Machine → List Marked → Type 0
ReadsAmongHidden caller m [] = Unit {0}
ReadsAmongHidden caller m (x ∷ xs) =
    MatchBool (is_open_to caller x.line)
    (AsksToRead m caller (line_of x.line) × LeadsToNoMore m caller x)
    (LineDoesHidden m (user_of m caller) x.line x.mark)
    × ReadsAmongHidden caller (marked_next m x.line x.mark) xs

-- the replies to the caller's lines
abbrev pub replies_read : List ℕ → Machine → List Marked → List Reply
replies_read caller m [] = []
replies_read caller m (x ∷ xs) =
    if is_by caller x.line
    then marked_reply m x.line x.mark ∷ replies_read caller (marked_next m x.line x.mark) xs
    else replies_read caller (marked_next m x.line x.mark) xs

-- the lines without those that do hidden things
abbrev pub open_lines : List ℕ → List Marked → List Marked
open_lines caller lines = filter (λ x. is_open_to caller x.line) lines

-- the replies are the same where none of these is there
abbrev pub ReadersSeeNoHidden : Type 0
ReadersSeeNoHidden =
    (m : Machine) (caller : List ℕ) (lines : List Marked) → HasRanks m
    → ReadsAmongHidden caller m lines
    → replies_read caller m lines ≡ replies_read caller m (open_lines caller lines)

-- so they are the same in two runs that differ in such lines alone
abbrev pub RunsReadTheSame : Type 0
RunsReadTheSame =
    (m : Machine) (caller : List ℕ) (lines others : List Marked) → HasRanks m
    → ReadsAmongHidden caller m lines → ReadsAmongHidden caller m others
    → open_lines caller others ≡ open_lines caller lines
    → replies_read caller m others ≡ replies_read caller m lines
