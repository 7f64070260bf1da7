-- An issue's key beside its rank, as the order has it.
use Rattle.std.specs.Prelude.{Option}
use Rattle.field_values.specs.declared.numbers.IssueNo.{IssueNo}
use Rattle.board.specs.Order.{rank_in}
use Rattle.board.specs.Table.{rank_or_nothing}
use Rattle.tracker_calls.specs.declared.reply.RankedKey.{RankedKey}
use Rattle.tracker_machine.specs.Machine.{Machine}
use Rattle.tracker_machine.specs.Ranks.{ranked_key}

abbrev pub key_beside_rank : Machine → IssueNo → RankedKey
key_beside_rank m issue =
    ranked_key m.histories (rank_or_nothing (rank_in m.order issue.0), issue)
