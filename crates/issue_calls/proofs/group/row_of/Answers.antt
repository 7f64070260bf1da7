use Rattle.std.proofs.Common.{sym, subst}
use Rattle.std.specs.List.{All}
use Rattle.field_values.specs.Parts.{Parts}
use Rattle.fields.specs.SetupParts.{names_in}
use Rattle.tracker_keeper.specs.Forms.{IsGroupEntry}
use Rattle.issue_calls.proofs.Ops.{group_entries}
use Rattle.issue_calls.proofs.group.row_of.Goals as goal

pub issue_row_of-requires : goal.issue_row_of-requires
issue_row_of-requires c =
    let m = c.args.state.now.machine in
    let g = c.args.group.now in
    subst (λ (p : Parts). All (IsGroupEntry (names_in p) g.change g.at g.author) g.entries) (sym c.setup.ensures)
    (group_entries m c.args.found.place g c.args.found.issue.now.history c.is_tracker.ensures c.requires.may c.requires.there)
