use Rattle.std.proofs.Common.{◌≡◌, ◌∙◌, sym, ap, subst, map, List, ℕ, Some, slice_get, option_and_then}
use Rattle.field_values.specs.declared.field.Field.{Field}
use Rattle.field_forms.specs.Names.{place_named}
use Rattle.fields.proofs.Found.{named_at}
use Rattle.fields.proofs.setup.Setup.own_field_named.Goals as goal

pub returns-in-Some : goal.returns-in-Some
returns-in-Some c =
    let here = c.args.self.now in
    let name = c.args.name.now in
    let place = c.in-Some.place in
    let placed : place_named name (map (λ f. f.name) here.field) ≡ Some place = subst (λ (names : List (List ℕ)). place_named name names ≡ Some place) here.named_fields (sym c.place_of.ensures ∙ c.in-Some.is) in
    c.field_at.ensures ∙ (ap (λ (fields : List Field). slice_get fields place) c.as_slice.ensures ∙ sym (named_at here.field name ∙ ap (option_and_then (slice_get here.field)) placed))
