-- What rows make that are read one after the other, by kind and then number.
use Rattle.std.specs.Prelude.{ℕ, ◌+◌, ◌-◌, List, [], ◌∷◌, ◌++◌, length, Bool, nat_lt, Option, Some, None, Result, Ok, Err, if◌then◌else◌}
use Rattle.field_values.specs.declared.numbers.IssueNo.{IssueNo}
use Rattle.field_values.specs.declared.numbers.UserNo.{UserNo}
use Rattle.field_values.specs.Parts.{Parts}
use Rattle.setup_drafts.specs.declared.fault.SetupFault.{SetupFault}
use Rattle.setup_reading.specs.Reading.{setup_in}
use Rattle.change_history.specs.declared.change.Change.{Change}
use Rattle.change_history.specs.History.{History}
use Rattle.rank_balancer.specs.declared.balance.Balance.{Balance}
use Rattle.std.specs.Option.{option_or}
use Rattle.field_values.specs.declared.parts.Group.{Group as UserGroup}
use Rattle.tracker_keeper.specs.declared.part.Format.{Format}
use Rattle.tracker_keeper.specs.declared.part.Format.TheVariants.{First, Second}
use Rattle.tracker_keeper.specs.declared.part.Part.{Part}
use Rattle.tracker_keeper.specs.declared.part.Part.TheVariants as part
use Rattle.tracker_machine.specs.Machine.{Machine, opening}
use Rattle.tracker_machine.specs.Effect.{grown, with_external, with_new_rank, with_filter, with_board, with_group_members}

pub data Gathered : Type 0 where
  -- nothing: no row has been read
  Nothing : Gathered
  -- the setup, with its text
  HasSetup : List ℕ → Parts → Gathered
  -- rows of this format: a tracker in the making, which has its setup, and stands where it will stand; all else grows. So many groups
  -- have their members from rows, and the others those of the setup's text
  Stands : Format → ℕ → Machine → Gathered

-- ---- parts

-- an issue as its row has it
abbrev pub opened : IssueNo → List ℕ → ℕ → ℕ → UserNo → List Change → History
opened issue key change at author values = record {
  no = issue;
  key = key;
  change = change;
  at = at;
  author = author;
  opening = values;
  entries = [];
}

-- the setup that a text says
abbrev pub with_setup : List ℕ → Result Parts SetupFault → Gathered
with_setup text (Ok setup) = HasSetup text setup
with_setup text (Err fault) = Nothing

-- a tracker that stands there, of which no more is known yet
abbrev pub standing : List ℕ → Parts → Balance → ℕ → ℕ → Machine
standing text setup balance change moment =
    record (opening text setup) { moment = moment; change = change; balance = balance }

-- the tracker in the making with what a part adds: an issue behind the others, a group behind those of its issue, a rank in its place
-- or an external id in its place among the others, a sprint behind the others, a filter or a board by its number, and a group's members
-- in place of those that it has by the setup's text
unfoldable pub joined : Machine → Part → Machine
joined m (part.Issue issue key change at author values) =
    record m { histories = m.histories ++ opened issue key change at author values ∷ [] }
joined m (part.Group issue group) =
    record m { histories = grown m.histories (issue.0 - 1) group.entries }
joined m (part.Rank issue rank) = with_new_rank m issue rank
joined m (part.External issue external) =
    record m { externals = with_external m.externals issue (Some external) }
joined m (part.Sprint sprint_no sprint) = record m { sprints = m.sprints ++ sprint ∷ [] }
joined m (part.Filter filter_no owner name jql) =
    with_filter m (record { no = filter_no; owner = owner; name = name; text = jql })
joined m (part.Board board_no name filter) =
    with_board m (record { no = board_no; name = name; filter = filter })
joined m (part.Members group members) = with_group_members m group members
joined m _ = m

-- how many groups have told their members once a part has been read
abbrev pub told_with : ℕ → Part → ℕ
told_with told (part.Members group members) = told + 1
told_with told _ = told

-- what is gathered once a part has been read
unfoldable pub with_part : Gathered → Part → Gathered
with_part Nothing (part.Setup text) = with_setup text (setup_in text)
with_part (HasSetup text setup) (part.Present balance change format moment) =
    Stands format 0 (standing text setup balance change moment)
with_part (Stands format told m) p = Stands format (told_with told p) (joined m p)
with_part g _ = g

-- ---- what is wanted next

-- the rank of the next issue, where one is left without
abbrev pub rank_due : Bool → ℕ → Option (ℕ × ℕ)
rank_due left ranked = if left then Some (5, ranked + 1) else None

-- the members of the next group, in rows of the second format
abbrev pub members_due : Format → ℕ → List UserGroup → Option (ℕ × ℕ)
members_due First told groups = None
members_due Second told groups = if nat_lt told (length groups) then Some (10, told + 1) else None

-- the kind and the number of the first row that has to be there and hasn't been read: the setup's, present's, then the rank of
-- each issue, and then the members of each group
abbrev pub due : Gathered → Option (ℕ × ℕ)
due Nothing = Some (1, 0)
due (HasSetup text setup) = Some (2, 0)
due (Stands format told m) =
    option_or (rank_due (nat_lt (length m.order) (length m.histories)) (length m.order))
    (members_due format told m.setup.group)
