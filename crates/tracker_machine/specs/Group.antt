-- A change group of an issue, as edits and transitions make them.
use Rattle.std.specs.Prelude.{ℕ, ◌+◌, List, [], ◌∷◌, Option, Some, None}
use Rattle.change_history.specs.declared.change.Change.{Change}
use Rattle.change_history.specs.declared.entry.Group.{Group}
use Rattle.change_history.specs.History.{History, present}
use Rattle.workflow.specs.Difference.{entries_of}
use Rattle.tracker_calls.specs.declared.reply.Answer.{Answer}
use Rattle.tracker_machine.specs.Machine.{Machine}
use Rattle.tracker_machine.specs.Effect.Effect.{NewGroup}
use Rattle.tracker_machine.specs.Meaning.{Meaning}
use Rattle.tracker_machine.specs.Meaning.Meaning.{Tells, Makes}

-- the next group, of these changes of an issue
abbrev pub next_group : Machine → ℕ → History → List Change → Group
next_group m caller h changes = record {
  change = m.change + 1;
  at = m.moment;
  author = record { 0 = caller };
  entries = entries_of (present h) (m.change + 1) m.moment (record { 0 = caller }) changes;
}

-- the number of the group, or none where nothing changes
abbrev pub group_number : Machine → List Change → Option ℕ
group_number m [] = None
group_number m (c ∷ cs) = Some (m.change + 1)

-- a group of these changes of the issue at a place; no change makes no group, and the answer says so
abbrev pub grouped : (Option ℕ → Answer) → Machine → ℕ → ℕ → History → List Change → Meaning
grouped answer m caller place h [] = Tells (answer None)
grouped answer m caller place h (c ∷ cs) =
    Makes (answer (Some (m.change + 1))) (NewGroup place (next_group m caller h (c ∷ cs)))

-- the same of an issue that may not be there
abbrev pub grouped_at : (Option ℕ → Answer) → Machine → ℕ → Option ℕ → Option History → List Change
    → Meaning
grouped_at answer m caller (Some place) (Some h) changes = grouped answer m caller place h changes
grouped_at answer m caller _ _ changes = Tells (answer None)
