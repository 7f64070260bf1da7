-- The operation that keeps a sprint.
use Rattle.serde_json.specs.Written.{compact_text}
use Rattle.field_values.specs.declared.numbers.SprintNo.{SprintNo}
use Rattle.tracker_keeper.specs.declared.row.RowOp.{RowOp}
use Rattle.tracker_keeper.specs.declared.row.RowOp.TheVariants.{Put}
use Rattle.tracker_keeper.specs.Bodies.{sprint_data}
use Rattle.sprints.specs.declared.sprint.Sprint.{Sprint}

abbrev pub sprint_op : SprintNo → Sprint → RowOp
sprint_op sprint_no sprint =
    let body = compact_text (sprint_data sprint.name sprint.state) in
    Put (record { kind = 7; no = sprint_no.0; body = body })
