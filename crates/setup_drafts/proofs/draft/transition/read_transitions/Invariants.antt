use Rattle.std.proofs.Common.{◌≡◌, [], drop, take, map, length}
use Rattle.toml.specs.View.{table_view}
use Rattle.setup_drafts.specs.Entries.{entries_fault, with_name}
use Rattle.setup_drafts.specs.Transitions.{transition_fault, transition_draft}
use Rattle.setup_drafts.proofs.draft.transition.read_transitions.Given as goal

abbrev pub invariant-loop-entry : goal.invariant-loop-entry
invariant-loop-entry l =
    (entries_fault transition_fault (with_name (λ e. (transition_draft e).name)) [] (map (λ t. table_view t.now) l.entries)
    ≡ entries_fault transition_fault (with_name (λ e. (transition_draft e).name)) l.names (map (λ t. table_view t.now) (drop l.entry-index l.entries)))
    × (map transition_draft (map (λ t. table_view t.now) (take l.entry-index l.entries)) ≡ l.transitions)
    × (l.names ≡ map (λ g. g.name) l.transitions)
    × (length l.transitions ≡ l.entry-index)
