use Rattle.std.proofs.Common.{option_map, Some, None, sym, ap, ◌∙◌}
use Rattle.wanted_values.specs.Resolved.{resolved}
use Rattle.wanted_values.proofs.Resolving.{names_refused}
use Rattle.wanted_values.proofs.names.first_unknown_name.Goals as goal

pub returns-in-Some : goal.returns-in-Some
returns-in-Some c =
    let given = c.args.set.now in
    c.unknown_name.ensures
    ∙ sym (names_refused given.setup.field given.set _ _ (Some (resolved c.in-Some.name)) c.names.ensures
    (sym (ap (option_map resolved) c.in-Some.is) ∙ c.first_refused.ensures))

pub returns-in-None : goal.returns-in-None
returns-in-None c =
    let given = c.args.set.now in
    sym (names_refused given.setup.field given.set _ _ None c.names.ensures
    (sym (ap (option_map resolved) c.in-None.is) ∙ c.first_refused.ensures))
