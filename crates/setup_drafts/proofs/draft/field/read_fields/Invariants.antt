use Rattle.std.proofs.Common.{◌≡◌, true, [], drop, take, map, length}
use Rattle.std.specs.List.{list_all}
use Rattle.toml.specs.View.{table_view}
use Rattle.setup_drafts.specs.Entries.{entries_fault}
use Rattle.setup_drafts.specs.Fields.{field_fault, field_of, with_field}
use Rattle.field_forms.specs.Known.{has_few_options}
use Rattle.setup_drafts.proofs.draft.field.read_fields.Given as goal

abbrev pub invariant-loop-entry : goal.invariant-loop-entry
invariant-loop-entry l =
    (entries_fault field_fault with_field [] (map (λ t. table_view t.now) l.entries)
    ≡ entries_fault field_fault with_field l.fields (map (λ t. table_view t.now) (drop l.entry-index l.entries)))
    × (map field_of (map (λ t. table_view t.now) (take l.entry-index l.entries)) ≡ l.fields)
    × (l.names ≡ map (λ f. f.name) l.fields)
    × (length l.fields ≡ l.entry-index)
    × (list_all has_few_options l.fields ≡ true)
