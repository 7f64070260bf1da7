-- Of a body that is a part's text the reader finds that part.
use Rattle.std.proofs.Common.{◌≡◌, ℕ, List, Some, sym, arith}
use Rattle.std.specs.Option.{option_and_then}
use Rattle.field_values.specs.declared.numbers.UserNo.{UserNo}
use Rattle.field_values.specs.declared.numbers.SprintNo.{SprintNo}
use Rattle.field_values.specs.declared.numbers.FilterNo.{FilterNo}
use Rattle.field_values.specs.declared.numbers.BoardNo.{BoardNo}
use Rattle.field_forms.specs.Names.{AreDistinct}
use Rattle.fields.specs.Naming.{name_at}
use Rattle.rank_balancer.specs.declared.balance.Balance.{Balance}
use Rattle.sprints.specs.declared.state.SprintState.{SprintState}
use Rattle.serde_json.specs.Read.{read}
use Rattle.serde_json.specs.Written.{compact_text}
use Rattle.tracker_keeper.specs.declared.part.Format.{Format}
use Rattle.tracker_keeper.specs.declared.part.Part.TheVariants as part
use Rattle.tracker_keeper.specs.Bodies.{present_data, sprint_data, filter_data, board_data}
use Rattle.tracker_keeper.specs.Forms.{IsPresentPart, IsSprintPart, IsFilterPart, IsBoardPart}
use Rattle.tracker_keeper.specs.Looking.{present_like, sprint_like, filter_like, board_like}
use Rattle.tracker_keeper.proofs.ReadBack.{reads_present, reads_sprint, reads_filter, reads_board}
use Rattle.tracker_keeper.proofs.Found.{present_found, sprint_found, filter_found, board_found}

pub present_told : (balance : Balance) (change : ℕ) (format : Format) (moment : ℕ) (body : List ℕ) → IsPresentPart balance change moment
    → compact_text (present_data balance change format moment) ≡ body → option_and_then (present_like 0) (read body) ≡ Some (part.Present balance change format moment)
present_told balance change format moment body h text =
    rw (sym text, reads_present balance change format moment h.balanced h.stamped) (present_found balance change format moment h)

pub sprint_told : (row_no : SprintNo) (name : List ℕ) (state : SprintState) (body : List ℕ) → IsSprintPart row_no.0 name state
    → compact_text (sprint_data name state) ≡ body → option_and_then (sprint_like row_no.0) (read body) ≡ Some (part.Sprint row_no (record { name = name; state = state }))
sprint_told row_no name state body h text = rw (sym text, reads_sprint name state h.stamped) (sprint_found row_no name state h)

pub filter_told : (users : List (List ℕ)) (row_no : FilterNo) (owner : UserNo) (name jql body : List ℕ) → AreDistinct users → IsFilterPart users row_no.0 owner name
    → compact_text (filter_data jql name (name_at users owner.0)) ≡ body → option_and_then (filter_like users row_no.0) (read body) ≡ Some (part.Filter row_no owner name jql)
filter_told users row_no owner name jql body distinct h text =
    rw (sym text, reads_filter jql name (name_at users owner.0)) (filter_found users row_no owner name jql distinct h)

pub board_told : (row_no : BoardNo) (name : List ℕ) (filter : FilterNo) (body : List ℕ) → IsBoardPart row_no.0 name filter.0
    → compact_text (board_data filter.0 name) ≡ body → option_and_then (board_like row_no.0) (read body) ≡ Some (part.Board row_no name filter)
board_told row_no name filter body h text =
    let small = h.small in rw (sym text, reads_board filter.0 name (omega (arith, small))) (board_found row_no name filter h)
