-- What is found by an id.
use Rattle.std.proofs.Common.{◌≡◌, ℕ, ◌==◌, List, [], ◌∷◌, Bool, true, false, Some, None, bytes_eq, refl, sym, ◌∙◌, ap}
use Rattle.std.specs.Prelude.{if◌then◌else◌}
use Rattle.std.proofs.lemmas.Bool.{false≢true}
use Rattle.std.proofs.lemmas.Option.{none-some, same_Some}
use Rattle.std.proofs.lemmas.Slice.Eq.{bytes_eq-Decides}
use Rattle.rising_numbers.specs.ByNumber.{by_number}
use Rattle.external_ids.specs.declared.external_id.ExternalId.{ExternalId}
use Rattle.external_ids.specs.Ids.{external_number, external_named, HaveOwnIds}

-- it has the id
pub named_has_id : (id : List ℕ) (es : List ExternalId) (e : ExternalId) → external_named id es ≡ Some e → e.id ≡ id
named_has_id id [] e is = absurd (none-some e is)
named_has_id id (d ∷ es) e is = by (named_has_id id es e) (bytes_eq d.id id) refl is
  where
    by : (external_named id es ≡ Some e → e.id ≡ id) → (b : Bool) → bytes_eq d.id id ≡ b → (if b then Some d else external_named id es) ≡ Some e → e.id ≡ id
    by rest true same is = ap (λ (e : ExternalId). e.id) (sym (same_Some d e is)) ∙ (bytes_eq-Decides d.id id).0 same
    by rest false other is = rest is

-- the external id of an issue leads to it
pub number_named : (n : ℕ) (es : List ExternalId) (e : ExternalId) → HaveOwnIds es → by_number external_number n es ≡ Some e → external_named e.id es ≡ Some e
number_named n [] e own is = absurd (none-some e is)
number_named n (d ∷ es) e own is = at (number_named n es e own.1) (d.no.0 == n) (bytes_eq d.id e.id) refl is
  where
    at : (by_number external_number n es ≡ Some e → external_named e.id es ≡ Some e) → (here same : Bool) → bytes_eq d.id e.id ≡ same
        → (if here then Some d else by_number external_number n es) ≡ Some e → (if same then Some d else external_named e.id es) ≡ Some e
    at rest true true same_is is = is
    at rest true false same_is is = absurd (false≢true (sym same_is ∙ (bytes_eq-Decides d.id e.id).1 (ap (λ (e : ExternalId). e.id) (same_Some d e is))))
    at rest false true same_is is =
        let none : external_named e.id es ≡ None = ap (λ id. external_named id es) (sym ((bytes_eq-Decides d.id e.id).0 same_is)) ∙ own.0 in
        absurd (none-some e (sym none ∙ rest is))
    at rest false false same_is is = rest is
