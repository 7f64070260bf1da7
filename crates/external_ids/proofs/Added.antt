-- External ids when one comes that no issue has yet, of an issue behind all that have one.
use Rattle.std.proofs.Common.{◌≡◌, ℕ, ◌<◌, ◌≤◌, ◌==◌, List, [], ◌∷◌, ◌++◌, Bool, true, false, Option, Some, None, bytes_eq, refl, sym, subst, ◌∙◌, ap, arith}
use Rattle.std.specs.Prelude.{if◌then◌else◌}
use Rattle.std.specs.List.{All}
use Rattle.std.proofs.lemmas.Bool.Decides.{nat_tests}
use Rattle.std.proofs.lemmas.List.Elements.{All-tail}
use Rattle.std.proofs.lemmas.Slice.Eq.{bytes_eq-Decides}
use Rattle.rising_numbers.specs.ByNumber.{RiseFrom, by_number, put_by_number}
use Rattle.rising_numbers.proofs.ByNumber.{rise_put, by_put}
use Rattle.external_ids.specs.declared.external_id.ExternalId.{ExternalId}
use Rattle.external_ids.specs.Ids.{external_number, external_named, HaveOwnIds}

-- an issue whose number is greater than all comes at the end
pub put_last : (new : ExternalId) (es : List ExternalId) → All (λ e. e.no.0 < new.no.0) es → put_by_number external_number new es ≡ es ++ new ∷ []
put_last new [] last = refl
put_last new (e ∷ es) last =
    let first : e.no.0 < new.no.0 = last 0 e (omega arith) in
    let rest = put_last new es (All-tail (λ e. e.no.0 < new.no.0) e es last) in
    grind (arith, nat_tests, first, rest)

-- what two tests of the same id say of each other

same_ids : (a b : List ℕ) → bytes_eq a b ≡ true → bytes_eq b a ≡ true
same_ids a b is = (bytes_eq-Decides b a).1 (sym ((bytes_eq-Decides a b).0 is))

same_through : (a b c : List ℕ) → bytes_eq a c ≡ true → bytes_eq b c ≡ true → bytes_eq a b ≡ true
same_through a b c first second = (bytes_eq-Decides a b).1 ((bytes_eq-Decides a c).0 first ∙ sym ((bytes_eq-Decides b c).0 second))

other_way : (a b : List ℕ) → bytes_eq a b ≡ false → bytes_eq b a ≡ false
other_way a b other = by (bytes_eq b a) refl where
  by : (c : Bool) → bytes_eq b a ≡ c → c ≡ false
  by true is = sym (same_ids b a is) ∙ other
  by false is = refl

-- the first one has another id than one that none has

first_other : (e : ExternalId) (b : Bool) (o : Option ExternalId) → (if b then Some e else o) ≡ None → b ≡ false
first_other e true o none = cc
first_other e false o none = refl

others_free : (e : ExternalId) (b : Bool) (o : Option ExternalId) → (if b then Some e else o) ≡ None → o ≡ None
others_free e true o none = cc
others_free e false o none = none

step : (e new : ExternalId) (a b : Bool) (o more : Option ExternalId) → (a ≡ true → b ≡ true → true ≡ false) → more ≡ (if b then Some new else o)
    → (if a then Some e else more) ≡ (if b then Some new else if a then Some e else o)
step e new true true o more differ is = cc (differ refl refl)
step e new true false o more differ is = refl
step e new false b o more differ is = is

pub external_named-append : (id : List ℕ) (es : List ExternalId) (new : ExternalId) → external_named new.id es ≡ None
    → external_named id (es ++ new ∷ []) ≡ (if bytes_eq new.id id then Some new else external_named id es)
external_named-append id [] new free = refl
external_named-append id (e ∷ es) new free =
    let other = first_other e (bytes_eq e.id new.id) (external_named new.id es) free in
    let rest = others_free e (bytes_eq e.id new.id) (external_named new.id es) free in
    step e new (bytes_eq e.id id) (bytes_eq new.id id) (external_named id es) (external_named id (es ++ new ∷ []))
    (λ a b. sym (same_through e.id new.id id a b) ∙ other)
    (external_named-append id es new rest)

pub own_append : (es : List ExternalId) (new : ExternalId) → external_named new.id es ≡ None → HaveOwnIds es → HaveOwnIds (es ++ new ∷ [])
own_append [] new free own = (refl, tt)
own_append (e ∷ es) new free own =
    let other = first_other e (bytes_eq e.id new.id) (external_named new.id es) free in
    let rest = others_free e (bytes_eq e.id new.id) (external_named new.id es) free in
    let none = ap (λ b. if b then Some new else external_named e.id es) (other_way e.id new.id other) ∙ own.0 in
    (external_named-append e.id es new rest ∙ none, own_append es new rest own.1)

-- by its id the new one is found, and the others as before
pub named_put_last : (new : ExternalId) (es : List ExternalId) (id : List ℕ) → All (λ e. e.no.0 < new.no.0) es → external_named new.id es ≡ None
    → external_named id (put_by_number external_number new es) ≡ (if bytes_eq new.id id then Some new else external_named id es)
named_put_last new es id last free = ap (external_named id) (put_last new es last) ∙ external_named-append id es new free

-- and so by the number of its issue
pub number_put_last : (new : ExternalId) (es : List ExternalId) (n : ℕ)
    → by_number external_number n (put_by_number external_number new es) ≡ (if new.no.0 == n then Some new else by_number external_number n es)
number_put_last new es n = by_put external_number n new es

-- no two have the same id again
pub own_put_last : (new : ExternalId) (es : List ExternalId) → All (λ e. e.no.0 < new.no.0) es → external_named new.id es ≡ None → HaveOwnIds es
    → HaveOwnIds (put_by_number external_number new es)
own_put_last new es last free own = subst HaveOwnIds (sym (put_last new es last)) (own_append es new free own)

-- and numbers rise again
pub rise_put_last : (new : ExternalId) (es : List ExternalId) → 1 ≤ new.no.0 → RiseFrom external_number 1 es
    → RiseFrom external_number 1 (put_by_number external_number new es)
rise_put_last new es positive rise = rise_put external_number 1 new es positive rise
