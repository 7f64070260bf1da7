use Rattle.std.proofs.Common.{◌∙◌, ap, map, rules}
use Rattle.field_values.specs.declared.field.Field.{Field}
use Rattle.field_values.specs.declared.status.Status.{Status}
use Rattle.setup_reading.specs.Reading.{parts_of, kept_in}
use Rattle.fields.proofs.Sound.{sound_setup, at_offset}
use Rattle.fields.proofs.setup.Setup.of.Goals as goal

pub invariant_of-result-clause-few_options : goal.invariant_of-result-clause-few_options
invariant_of-result-clause-few_options c =
    rw (c.into_statuses_and_fields-statuses.ensures, c.into_parts-head.ensures, c.into_parts-draft.ensures) c.requires.small.tables.options

pub invariant_of-result-clause-sound : goal.invariant_of-result-clause-sound
invariant_of-result-clause-sound c =
    let lists = c.in_ok-lists.ensures in
    rw (lists.users, lists.types, lists.priorities, lists.resolutions, lists.versions, c.into_statuses_and_fields-statuses.ensures, c.into_parts-rights.ensures, c.into_parts-head.ensures, c.into_parts-draft.ensures)
    (at_offset (parts_of c.args.reading.draft c.args.reading.numbers) _ (sound_setup _ (parts_of c.args.reading.draft c.args.reading.numbers) c.requires.reads))

pub invariant_of-result-clause-reads : goal.invariant_of-result-clause-reads
unfolding kept_in
invariant_of-result-clause-reads c =
    let lists = c.in_ok-lists.ensures in
    rw (lists.users, lists.types, lists.priorities, lists.resolutions, lists.versions, c.into_statuses_and_fields-statuses.ensures, c.into_parts-rights.ensures, c.into_parts-head.ensures, c.into_parts-draft.ensures)
    (search rules)

pub invariant_of-result-clause-clock : goal.invariant_of-result-clause-clock
invariant_of-result-clause-clock c =
    rw (c.into_parts-head.ensures, c.into_parts-draft.ensures) (search rules)

pub invariant_of-result-clause-named_groups : goal.invariant_of-result-clause-named_groups
invariant_of-result-clause-named_groups c =
    rw (c.into_parts-rights.ensures, c.into_parts-draft.ensures) c.in_ok-table_names.ensures.groups

pub invariant_of-result-clause-keyed_projects : goal.invariant_of-result-clause-keyed_projects
invariant_of-result-clause-keyed_projects c =
    rw (c.into_parts-rights.ensures, c.into_parts-draft.ensures) c.in_ok-table_names.ensures.projects

pub invariant_of-result-clause-named_transitions : goal.invariant_of-result-clause-named_transitions
invariant_of-result-clause-named_transitions c =
    rw (c.into_parts-rights.ensures, c.into_parts-draft.ensures) c.in_ok-table_names.ensures.transitions

pub invariant_of-result-clause-named_statuses : goal.invariant_of-result-clause-named_statuses
invariant_of-result-clause-named_statuses c =
    rw (c.into_statuses_and_fields-statuses.ensures, c.into_parts-head.ensures, c.into_parts-draft.ensures)
    (c.in_ok-table_names.ensures.statuses ∙ ap (map (λ (s : Status). s.name)) c.as_slice.ensures)

pub invariant_of-result-clause-named_fields : goal.invariant_of-result-clause-named_fields
invariant_of-result-clause-named_fields c =
    rw (c.into_statuses_and_fields-statuses.ensures, c.into_parts-head.ensures, c.into_parts-draft.ensures)
    (c.in_ok-table_names.ensures.fields ∙ ap (map (λ (f : Field). f.name)) c.as_slice-2.ensures)

pub invariant_of-result-clause-listed_options : goal.invariant_of-result-clause-listed_options
invariant_of-result-clause-listed_options c =
    rw (c.into_statuses_and_fields-statuses.ensures, c.into_parts-head.ensures, c.into_parts-draft.ensures)
    (c.in_ok-table_names.ensures.options ∙ ap (map (λ (f : Field). f.options)) c.as_slice-2.ensures)
