-- What callers of a small tracker are told of its filters, boards and sprints, and which fields a list tells.
use Rattle.std.proofs.Common.{◌≡◌, ℕ, List, [], ◌∷◌, Some, None, codes, refl}
use Rattle.field_values.specs.declared.numbers.BoardNo.{BoardNo}
use Rattle.field_values.specs.declared.numbers.FilterNo.{FilterNo}
use Rattle.board.specs.declared.board.Board.{Board}
use Rattle.field_forms.specs.Known.{field_named}
use Rattle.sprints.specs.declared.state.SprintState.TheVariants.{Future, Active}
use Rattle.tracker_calls.specs.declared.call.Part.{Part}
use Rattle.tracker_calls.specs.declared.cause.Cause.TheVariants as cause
use Rattle.tracker_calls.specs.declared.cause.Thing.TheVariants as thing
use Rattle.tracker_calls.specs.declared.reply.Answer.TheVariants as answer
use Rattle.tracker_calls.specs.declared.reply.SprintPhase.TheVariants as phase
use Rattle.tracker_machine.specs.IssueList.{fields_refusal, wanted_fields}
use Rattle.tracker_machine.specs.Machine.{Machine, opening}
use Rattle.tracker_machine.specs.Overviews.{filters_answer, boards_answer, sprints_answer}
use Rattle.tracker_machine.specs.Saved.{SavedFilter}
use Rattle.tracker_machine.proofs.WorkedRows.{setup}

abbrev filter_of : ℕ → FilterNo
filter_of n = record { 0 = n }

abbrev board_of : ℕ → BoardNo
board_of n = record { 0 = n }

-- anna has the filters 1 and 3, and bo has 2
abbrev saved : ℕ → ℕ → SavedFilter
saved n owner = record { no = filter_of n; owner = record { 0 = owner }; name = codes "Bugs"; text = codes "type = Bug" }

abbrev made : ℕ → Board
made n = record { no = board_of n; name = codes "Team"; filter = filter_of 2 }

abbrev tracker : Machine
tracker = record (opening (codes "a setup's text") setup) {
  filters = saved 1 0 ∷ saved 2 1 ∷ saved 3 0 ∷ [];
  boards = made 1 ∷ made 4 ∷ [];
  sprints = record { name = codes "Week 1"; state = Active 0 0 } ∷ record { name = codes "Week 2"; state = Future } ∷ [];
}

abbrev part : ℕ → ℕ → Part
part from count = record { from = from; count = count }

-- ---- filters: nobody may administer this tracker

pub own_filters : filters_answer tracker 0 (part 0 1000)
    ≡ answer.Filters (record { filter = filter_of 1; jql = codes "type = Bug"; name = codes "Bugs"; owner = codes "anna" }
    ∷ record { filter = filter_of 3; jql = codes "type = Bug"; name = codes "Bugs"; owner = codes "anna" } ∷ []) 2
own_filters = refl

-- the part is of those that are told
pub second_own_filter : filters_answer tracker 0 (part 1 1)
    ≡ answer.Filters (record { filter = filter_of 3; jql = codes "type = Bug"; name = codes "Bugs"; owner = codes "anna" } ∷ []) 2
second_own_filter = refl

pub filter_of_bo : filters_answer tracker 1 (part 0 1000)
    ≡ answer.Filters (record { filter = filter_of 2; jql = codes "type = Bug"; name = codes "Bugs"; owner = codes "bo" } ∷ []) 1
filter_of_bo = refl

-- ---- boards and sprints

pub second_board : boards_answer tracker (part 1 1000) ≡ answer.Boards (record { board = board_of 4; filter = filter_of 2; name = codes "Team" } ∷ []) 2
second_board = refl

pub first_sprint : sprints_answer tracker (part 0 1) ≡ answer.Sprints (record { name = codes "Week 1"; sprint = record { 0 = 1 }; state = phase.Active } ∷ []) 2
first_sprint = refl

pub second_sprint : sprints_answer tracker (part 1 1000) ≡ answer.Sprints (record { name = codes "Week 2"; sprint = record { 0 = 2 }; state = phase.Future } ∷ []) 2
second_sprint = refl

pub behind_all_sprints : sprints_answer tracker (part 2 1000) ≡ answer.Sprints [] 2
behind_all_sprints = refl

-- ---- the fields of a list

-- by number and each once, whatever their order and their letters
pub named_twice : wanted_fields [] (Some (codes "status" ∷ codes "SUMMARY" ∷ codes "Status" ∷ [])) ≡ 2 ∷ 4 ∷ []
unfolding field_named
named_twice = refl

pub none_is_named : wanted_fields [] (Some []) ≡ []
none_is_named = refl

pub all_are_wanted : wanted_fields [] None ≡ 1 ∷ 2 ∷ 3 ∷ 4 ∷ 5 ∷ 6 ∷ 7 ∷ 8 ∷ 9 ∷ 10 ∷ 11 ∷ 12 ∷ 13 ∷ []
all_are_wanted = refl

-- another name of a field is none
pub no_other_name : fields_refusal [] (Some (codes "due" ∷ codes "duedate" ∷ codes "colour" ∷ [])) ≡ Some (cause.Unknown thing.Field (codes "duedate"))
unfolding field_named
no_other_name = refl
