-- Calls that put an issue into the order of ranks: what their callers are told goes by the issues that they may browse, but for ranks.
use Rattle.std.specs.Prelude.{◌≡◌, ℕ, List, Option, Some, None}
use Rattle.fields.specs.Sound.{IsSound}
use Rattle.tracker_calls.specs.declared.call.Call.{Call}
use Rattle.tracker_calls.specs.declared.call.Call.TheVariants as call
use Rattle.tracker_machine.specs.Machine.{Machine}
use Rattle.tracker_machine.specs.Checks.{issues_refusal}
use Rattle.tracker_machine.specs.Create.{issue_called}
use Rattle.tracker_machine.specs.Tracker.{IsTracker}
use Rattle.tracker_machine.specs.Step.{reply_of, user_of}
use Rattle.tracker_runs.specs.RankLaws.{HasRoom, without_ranks}
use Rattle.tracker_sight.specs.Sight.{SeemAlike}
use Rattle.tracker_sight.specs.Confidentiality.{CountAlike, has_issue_named}

-- ---- create

-- the external id that a create gives, if it is one and gives one
abbrev pub external_given : Call → Option (Option (List ℕ))
external_given (call.Create project issue_type summary set external) = Some external
external_given _ = None

-- what a create counts over all issues, and the issue that has the external id already, if one has
pub record CreateAlike (m other : Machine) (external : Option (List ℕ)) : Type 0 where
  pub counts : CountAlike m other
  pub issues : issues_refusal other ≡ issues_refusal m
  pub called : issue_called other external ≡ issue_called m external

-- it has the same reply in two trackers that seem alike to the caller and in which this is alike, where both have room for the rank
abbrev pub CreatesTellOfTheSeen : Type 0
CreatesTellOfTheSeen =
    (m other : Machine) (caller : List ℕ) (c : Call) (external : Option (List ℕ)) → IsTracker m
    → IsTracker other → IsSound m.setup → SeemAlike (user_of m caller) m other
    → external_given c ≡ Some external → CreateAlike m other external
    → HasRoom (reply_of m caller c) → HasRoom (reply_of other caller c)
    → reply_of other caller c ≡ reply_of m caller c

-- ---- moves

-- the two issues that a move names, by their keys
abbrev pub issues_placed : Call → Option (List ℕ × List ℕ)
issues_placed (call.MoveBefore issue other) = Some (issue, other)
issues_placed (call.MoveAfter issue other) = Some (issue, other)
issues_placed _ = None

-- it has the same reply but for the rank in two trackers that seem alike to the caller, where of each of its two keys an issue is there
-- in both or in neither, and both have room for the rank
abbrev pub MovesTellOfTheSeen : Type 0
MovesTellOfTheSeen =
    (m other : Machine) (caller : List ℕ) (c : Call) (issue beside : List ℕ)
    → SeemAlike (user_of m caller) m other → issues_placed c ≡ Some (issue, beside)
    → has_issue_named other issue ≡ has_issue_named m issue
    → has_issue_named other beside ≡ has_issue_named m beside
    → HasRoom (reply_of m caller c) → HasRoom (reply_of other caller c)
    → without_ranks (reply_of other caller c) ≡ without_ranks (reply_of m caller c)
