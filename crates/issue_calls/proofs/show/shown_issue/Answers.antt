use Rattle.std.proofs.Common.{◌++◌, ℕ, List, map, ap, ap₂, ◌∙◌}
use Rattle.field_values.specs.declared.field.Field.{Field}
use Rattle.fields.specs.SetupParts.{parts, names_in}
use Rattle.tracker_calls.specs.declared.reply.ShownField.{ShownField}
use Rattle.tracker_machine.specs.Show.{shown_issue, shown_fields}
use Rattle.issue_calls.proofs.Showing.{shown_of_all}
use Rattle.issue_calls.proofs.show.shown_issue.Goals as goal

pub returns : goal.returns
unfolding shown_issue
returns c =
    let names = names_in (parts c.args.setup.now) in
    let h = c.args.issue.now.history in
    let built = c.put_fields.new.fields in
    shown_of_all names h built c.put_own_fields.new.fields
    (c.in_ok-put_fields.ensures
    ∙ ap₂ (λ (before : List ShownField) (ns : List ℕ). before ++ shown_fields names h ns) c.new-fields.ensures c.built_in_fields.ensures)
    (c.in_ok-put_own_fields.ensures
    ∙ ap (λ (fs : List Field). built ++ shown_fields names h (map (λ f. f.number.0) fs)) c.as_slice.ensures)
