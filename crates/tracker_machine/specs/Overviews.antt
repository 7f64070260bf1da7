-- The calls `filters`, `boards` and `sprints`: what is kept beside issues, by number.
use Rattle.std.specs.Prelude.{ℕ, ◌+◌, ◌==◌, ◌||◌, Bool, List, [], ◌∷◌, map, filter, length, None}
use Rattle.field_values.specs.declared.rules.Permission.TheVariants as permission
use Rattle.fields.specs.Naming.{name_at}
use Rattle.fields.specs.SetupParts.{may}
use Rattle.board.specs.declared.board.Board.{Board}
use Rattle.sprints.specs.declared.sprint.Sprint.{Sprint}
use Rattle.tracker_calls.specs.Part.{part_of}
use Rattle.tracker_calls.specs.declared.call.Part.{Part}
use Rattle.tracker_calls.specs.declared.listed.ToldFilter.{ToldFilter}
use Rattle.tracker_calls.specs.declared.listed.ToldBoard.{ToldBoard}
use Rattle.tracker_calls.specs.declared.listed.ToldSprint.{ToldSprint}
use Rattle.tracker_calls.specs.declared.reply.Answer.{Answer}
use Rattle.tracker_calls.specs.declared.reply.Answer.TheVariants as answer
use Rattle.tracker_machine.specs.Machine.{Machine}
use Rattle.tracker_machine.specs.Saved.{SavedFilter}
use Rattle.tracker_machine.specs.Sprints.{told_phase}
use Rattle.tracker_machine.specs.Meaning.{Meaning}
use Rattle.tracker_machine.specs.Meaning.Meaning.{Tells}

-- ---- filters

-- a caller is told his own filters, and all where he may administer the tracker
abbrev pub is_told : ℕ → Bool → SavedFilter → Bool
is_told caller administers f = f.owner.0 == caller || administers

abbrev pub filters_told : Machine → ℕ → List SavedFilter
filters_told m caller =
    filter (is_told caller (may m.setup caller permission.Administer None)) m.filters

-- a filter of one of these users, with its text as it was saved
abbrev pub told_filter : List (List ℕ) → SavedFilter → ToldFilter
told_filter users f = record {
  filter = f.no;
  jql = f.text;
  name = f.name;
  owner = name_at users f.owner.0;
}

-- some of those that he is told, and how many these are
abbrev pub filters_answer : Machine → ℕ → Part → Answer
filters_answer m caller part =
    answer.Filters (map (told_filter m.setup.users) (part_of part (filters_told m caller)))
    (length (filters_told m caller))

abbrev pub filters_meaning : Machine → ℕ → Part → Meaning
filters_meaning m caller part = Tells (filters_answer m caller part)

-- ---- boards

abbrev pub told_board : Board → ToldBoard
told_board b = record { board = b.no; filter = b.filter; name = b.name }

abbrev pub boards_answer : Machine → Part → Answer
boards_answer m part =
    answer.Boards (map told_board (part_of part m.boards)) (length m.boards)

abbrev pub boards_meaning : Machine → Part → Meaning
boards_meaning m part = Tells (boards_answer m part)

-- ---- sprints

abbrev pub told_sprint : ℕ → Sprint → ToldSprint
told_sprint n s = record { name = s.name; sprint = record { 0 = n }; state = told_phase s.state }

-- sprints by number, of which the first one has this
abbrev pub sprints_from : ℕ → List Sprint → List ToldSprint
sprints_from n [] = []
sprints_from n (s ∷ ss) = told_sprint n s ∷ sprints_from (n + 1) ss

-- they are numbered from 1
abbrev pub sprints_answer : Machine → Part → Answer
sprints_answer m part =
    answer.Sprints (part_of part (sprints_from 1 m.sprints)) (length m.sprints)

abbrev pub sprints_meaning : Machine → Part → Meaning
sprints_meaning m part = Tells (sprints_answer m part)
