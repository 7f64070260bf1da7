use Rattle.std.proofs.Common.{◌≡◌, ◌==◌, ◌∙◌, sym, ap, subst, List, [], Some, Option, slice_get, option_and_then, position}
use Rattle.std.specs.Option.{option_map_or}
use Rattle.field_values.specs.declared.field.Field.{Field}
use Rattle.field_forms.specs.Names.{place_named}
use Rattle.field_forms.specs.Known.{own_field, own_choices}
use Rattle.fields.specs.SetupParts.{names}
use Rattle.fields.proofs.Found.{own_at}
use Rattle.fields.proofs.setup.Setup.place_among_own.Goals as goal

pub returns-in-Some-clause-place : goal.returns-in-Some-clause-place
returns-in-Some-clause-place c =
    let here = c.args.self.now in
    let n = c.args.field.0 in
    let place = c.in-Some.place in
    let at : position (λ (f : Field). f.number.0 == n) here.field ≡ Some place = subst (λ (fields : List Field). position (λ f. f.number.0 == n) fields ≡ Some place) c.as_slice.ensures (sym c.own_place.ensures ∙ c.in-Some.is) in
    let own : own_field here.field n ≡ slice_get here.field place = own_at here.field n ∙ ap (option_and_then (slice_get here.field)) at in
    c.place_at.ensures.place ∙ ap (λ (field : Option Field). place_named c.args.name.now (option_map_or (own_choices (names here)) field [])) (sym own)
