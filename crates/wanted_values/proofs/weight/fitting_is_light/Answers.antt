use Rattle.std.proofs.Common.{arith}
use Rattle.std.proofs.lemmas.List.{length-map}
use Rattle.fields.specs.SetupParts.{names}
use Rattle.wanted_values.proofs.Bulk.{light_opening, light_group}
use Rattle.wanted_values.proofs.weight.fitting_is_light.Goals as goal

pub returns-clause-openings : goal.returns-clause-openings
returns-clause-openings c = λ wants fit.
    let sound = c.keeps_what_was_read.ensures.sound in
    light_opening (names c.args.setup.now) wants sound.versions.few (omega (arith, sound.field_names.few, length-map (names c.args.setup.now).fields (λ f. f.name))) sound.own_numbers fit

pub returns-clause-groups : goal.returns-clause-groups
returns-clause-groups c = λ before change at author changes holds news fit.
    let sound = c.keeps_what_was_read.ensures.sound in
    light_group (names c.args.setup.now) before change at author changes sound.versions.few (omega (arith, sound.field_names.few, length-map (names c.args.setup.now).fields (λ f. f.name))) holds news fit
