use Rattle.std.proofs.Common.{◌≡◌, ◌++◌, drop}
use Rattle.std.specs.List.{filter_map}
use Rattle.field_forms.specs.Known.{names_of}
use Rattle.setup_reading.specs.Resolving.{first_over, no_rule}
use Rattle.setup_reading.proofs.rules.rules_of.Given as goal

abbrev pub invariant-loop-text : goal.invariant-loop-text
invariant-loop-text g l =
    let stated = g.T.Rule.stated (names_of l.known) in
    (first_over (no_rule stated) l.texts ≡ first_over (no_rule stated) (drop l.text-index l.texts))
    × (filter_map stated l.texts ≡ l.rules ++ filter_map stated (drop l.text-index l.texts))
