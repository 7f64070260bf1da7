use Rattle.std.proofs.Common.{◌≡◌, drop, take, map}
use Rattle.setup_reading.specs.Resolving.{first_over, transition_unknown, transition_resolved}
use Rattle.field_forms.specs.Known.{names_of}
use Rattle.setup_reading.proofs.resolve_transition.resolve_transitions.Given as goal

abbrev pub invariant-loop-draft : goal.invariant-loop-draft
invariant-loop-draft l =
    (first_over (transition_unknown (names_of l.known)) l.drafts ≡ first_over (transition_unknown (names_of l.known)) (drop l.draft-index l.drafts))
    × (map (transition_resolved (names_of l.known)) (take l.draft-index l.drafts) ≡ l.transitions)
