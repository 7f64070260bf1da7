-- The calls `move_before` and `move_after`: an issue goes to the place beside another one.
use Rattle.std.specs.Prelude.{ℕ, List, [], Option, Some, if◌then◌else◌}
use Rattle.field_values.specs.declared.numbers.IssueNo.{IssueNo}
use Rattle.field_values.specs.declared.rules.Permission.TheVariants as permission
use Rattle.change_history.specs.History.{History}
use Rattle.rank_strings.specs.Rank.{RankParts}
use Rattle.rank_strings.specs.Text.{rank_text}
use Rattle.board.specs.declared.place.Place.{Place}
use Rattle.board.specs.declared.place.Place.TheVariants.{Before, After}
use Rattle.tracker_calls.specs.declared.reply.Answer.{Answer}
use Rattle.tracker_calls.specs.declared.reply.Answer.TheVariants as answer
use Rattle.tracker_calls.specs.declared.cause.Cause.{Cause}
use Rattle.tracker_calls.specs.declared.cause.Cause.TheVariants as cause
use Rattle.tracker_calls.specs.declared.cause.Thing.TheVariants as thing
use Rattle.tracker_machine.specs.Machine.{Machine}
use Rattle.tracker_machine.specs.Known.{place_of_issue, history_named}
use Rattle.tracker_machine.specs.Checks.{or_then, unless_known}
use Rattle.tracker_machine.specs.Access.{access_refusal}
use Rattle.tracker_machine.specs.Effect.Effect.{NewRank}
use Rattle.tracker_machine.specs.Rank.{with_given, moved_rank, has_rank}
use Rattle.tracker_machine.specs.Meaning.{Meaning, unless}
use Rattle.tracker_machine.specs.Meaning.Meaning.{Tells, Makes}

abbrev pub move_refusal : Machine → ℕ → List ℕ → List ℕ → Option Cause
move_refusal m caller issue other =
    or_then (unless_known (place_of_issue issue m.histories) (cause.Unknown thing.Issue issue))
    (or_then (unless_known (place_of_issue other m.histories) (cause.Unknown thing.Issue other))
    (or_then (access_refusal m caller permission.Browse (history_named m issue))
    (or_then (access_refusal m caller permission.Rank (history_named m issue))
    (access_refusal m caller permission.Browse (history_named m other)))))

abbrev pub move_answer : List ℕ → RankParts → Answer
move_answer name rank = answer.Move name (rank_text rank)

-- the issue has this rank from now on; where it has it already, nothing is done
abbrev pub newly_ranked : Machine → List ℕ → IssueNo → RankParts → Meaning
newly_ranked m name issue rank =
    if has_rank m.order issue rank then Tells (move_answer name rank)
    else Makes (move_answer name rank) (NewRank issue rank)

-- the issue goes to the place beside the other one
abbrev pub moved_beside : Machine → List ℕ → (IssueNo → Place) → Option History → Option History
    → Meaning
moved_beside m name place (Some h) (Some other) =
    with_given (moved_rank m h.no (place other.no)) (newly_ranked m name h.no)
moved_beside m name place _ _ = Tells (answer.Move name [])

abbrev pub move_meaning : Machine → ℕ → List ℕ → List ℕ → (IssueNo → Place) → Meaning
move_meaning m caller issue other place =
    unless (move_refusal m caller issue other)
    (moved_beside m issue place (history_named m issue) (history_named m other))

abbrev pub move_before_meaning : Machine → ℕ → List ℕ → List ℕ → Meaning
move_before_meaning m caller issue other = move_meaning m caller issue other Before

abbrev pub move_after_meaning : Machine → ℕ → List ℕ → List ℕ → Meaning
move_after_meaning m caller issue other = move_meaning m caller issue other After
