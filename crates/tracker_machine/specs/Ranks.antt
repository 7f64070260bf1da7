-- The call `ranks`: a part of the issues in the order of their ranks.
use Rattle.std.specs.Prelude.{ℕ, List, map, length, None}
use Rattle.field_values.specs.declared.rules.Permission.TheVariants as permission
use Rattle.change_history.specs.History.{History}
use Rattle.rank_strings.specs.Text.{rank_text}
use Rattle.board.specs.Order.{Pair}
use Rattle.tracker_calls.specs.Part.{part_of}
use Rattle.tracker_calls.specs.declared.call.Part.{Part}
use Rattle.tracker_calls.specs.declared.reply.RankedKey.{RankedKey}
use Rattle.tracker_calls.specs.declared.reply.Answer.{Answer}
use Rattle.tracker_calls.specs.declared.reply.Answer.TheVariants as answer
use Rattle.tracker_machine.specs.Machine.{Machine}
use Rattle.tracker_machine.specs.Known.{key_numbered}
use Rattle.tracker_machine.specs.Checks.{permission_refusal}
use Rattle.tracker_machine.specs.Meaning.{Meaning, unless}
use Rattle.tracker_machine.specs.Meaning.Meaning.{Tells}

abbrev pub ranked_key : List History → Pair → RankedKey
ranked_key histories p = record { issue = key_numbered histories p.1.0; rank = rank_text p.0 }

abbrev pub ranks_answer : Machine → Part → Answer
ranks_answer m part =
    answer.Ranks (map (ranked_key m.histories) (part_of part m.order)) (length m.order)

abbrev pub ranks_meaning : Machine → ℕ → Part → Meaning
ranks_meaning m caller part =
    unless (permission_refusal m caller permission.Administer None) (Tells (ranks_answer m part))
