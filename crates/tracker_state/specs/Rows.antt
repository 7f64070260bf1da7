-- The operations that keep where the tracker stands, ranks, external ids and the members of groups.
use Rattle.std.specs.Prelude.{ℕ, List}
use Rattle.serde_json.specs.Written.{compact_text}
use Rattle.rank_strings.specs.Rank.{RankParts}
use Rattle.rank_strings.specs.Text.{rank_text}
use Rattle.rank_balancer.specs.declared.balance.Balance.{Balance}
use Rattle.field_values.specs.declared.numbers.GroupNo.{GroupNo}
use Rattle.field_values.specs.declared.numbers.IssueNo.{IssueNo}
use Rattle.field_values.specs.declared.numbers.UserNo.{UserNo}
use Rattle.field_values.specs.Parts.{Parts}
use Rattle.fields.specs.SetupParts.{names_in}
use Rattle.tracker_keeper.specs.declared.part.Format.TheVariants.{Second}
use Rattle.tracker_keeper.specs.declared.row.RowOp.{RowOp}
use Rattle.tracker_keeper.specs.declared.row.RowOp.TheVariants.{Put}
use Rattle.tracker_keeper.specs.Bodies.{present_data}
use Rattle.tracker_machine.specs.Kept.{members_part, put_part}

-- the operation that keeps where the tracker stands
abbrev pub present_op : Balance → ℕ → ℕ → RowOp
present_op balance change moment =
    Put (record {
      kind = 2;
      no = 0;
      body = compact_text (present_data balance change Second moment);
    })

-- the operation that keeps an issue's rank
abbrev pub rank_op : IssueNo → RankParts → RowOp
rank_op issue rank = Put (record { kind = 5; no = issue.0; body = rank_text rank })

-- the operation that keeps an issue's external id
abbrev pub external_op : IssueNo → List ℕ → RowOp
external_op issue id = Put (record { kind = 6; no = issue.0; body = id })

-- the operation that keeps the members of a group
abbrev pub members_op : Parts → GroupNo → List UserNo → RowOp
members_op setup group members = put_part (names_in setup) (members_part group members)
