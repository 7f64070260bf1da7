-- What the row of a kind and a number would be the row of. The row of a setup and that of a rank are read as they stand.
use Rattle.std.specs.Prelude.{ℕ, ◌==◌, List, Option, None, option_and_then, if◌then◌else◌}
use Rattle.field_values.specs.Parts.{Parts}
use Rattle.fields.specs.Sound.{part_names}
use Rattle.serde_json.specs.Data.{Data}
use Rattle.serde_json.specs.Read.{read}
use Rattle.tracker_keeper.specs.declared.part.Part.{Part}
use Rattle.tracker_keeper.specs.Kept.{part_keys}
use Rattle.tracker_keeper.specs.Looking.{present_like, external_like, sprint_like, filter_like, board_like}
use Rattle.tracker_keeper.specs.LookingAtValues.{members_like, issue_like, group_like}

-- by what JSON says
abbrev pub told_like : Parts → ℕ → ℕ → Data → Option Part
told_like setup kind row_no d =
    if kind == 2 then present_like row_no d
    else if kind == 3 then issue_like (part_names setup) (part_keys setup) row_no d
    else if kind == 4 then group_like (part_names setup) row_no d
    else if kind == 7 then sprint_like row_no d
    else if kind == 8 then filter_like setup.users row_no d
    else if kind == 9 then board_like row_no d
    else if kind == 10 then members_like (part_names setup) row_no d
    else None

unfoldable pub part_like : Parts → ℕ → ℕ → List ℕ → Option Part
part_like setup kind row_no body =
    if kind == 6 then external_like row_no body
    else option_and_then (told_like setup kind row_no) (read body)
