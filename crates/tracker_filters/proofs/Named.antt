-- Filters by their owners' names.
use Rattle.std.proofs.Common.{◌≡◌, ℕ, ◌+◌, ◌<◌, ◌≤◌, ◌==◌, Bool, true, false, Some, None, Option, IfSome, List, [], ◌∷◌, nat_lt, if◌then◌else◌, refl, sym, ◌∙◌, ap, ap₂, arith}
use Rattle.std.specs.Bool.{Decides}
use Rattle.std.specs.Str.{bytes_eq}
use Rattle.std.proofs.lemmas.Slice.Eq.{bytes_eq-Decides}
use Rattle.std.proofs.lemmas.Bool.Decides.{nat_tests, Decides-and, Decides-eqb, Decides-like, same_from_decides}
use Rattle.std.proofs.lemmas.Option.{none-some, same_Some}
use Rattle.field_values.specs.declared.numbers.UserNo.{UserNo}
use Rattle.rising_numbers.specs.ByNumber.{RiseFrom, put_by_number, without_number}
use Rattle.tracker_filters.specs.declared.filter.Filter.{Filter}
use Rattle.tracker_filters.specs.Saved.{number, is_named, by_owner, HaveOwnNames}

-- both have one owner and one name
abbrev AreNamesakes : Filter → Filter → Type 0
AreNamesakes f g = (g.owner.0 ≡ f.owner.0) × (g.name ≡ f.name)

names_decide : (f g : Filter) → Decides (is_named f.owner f.name g) (AreNamesakes f g)
names_decide f g = Decides-and (g.owner.0 == f.owner.0) (bytes_eq g.name f.name) (Decides-eqb g.owner.0 f.owner.0) (bytes_eq-Decides g.name f.name)

named_both_ways : (f g : Filter) → is_named f.owner f.name g ≡ is_named g.owner g.name f
named_both_ways f g =
    same_from_decides (is_named f.owner f.name g) (is_named g.owner g.name f) (names_decide f g)
    (Decides-like (is_named g.owner g.name f) (λ (h : AreNamesakes g f). (sym h.0, sym h.1)) (λ (h : AreNamesakes f g). (sym h.0, sym h.1)) (names_decide g f))

found_alike : (f g : Filter) (hs : List Filter) → is_named f.owner f.name g ≡ true → by_owner f.owner f.name hs ≡ by_owner g.owner g.name hs
found_alike f g hs named =
    let same = (names_decide f g).0 named in
    let owner : f.owner ≡ g.owner = ap (λ (n : ℕ). let user : UserNo = record { 0 = n } in user) (sym same.0) in
    ap₂ (λ (o : UserNo) (n : List ℕ). by_owner o n hs) owner (sym same.1)

-- whoever is found has one of the numbers
found_above : (least : ℕ) (owner : UserNo) (name : List ℕ) (g : Filter) (fs : List Filter) → RiseFrom number least fs → by_owner owner name fs ≡ Some g → least ≤ number g
found_above least owner name g [] rise is = absurd (none-some g is)
found_above least owner name g (f ∷ fs) rise is = by (is_named owner name f) (found_above (number f + 1) owner name g fs rise.1) is
  where
    by : (b : Bool) → (by_owner owner name fs ≡ Some g → number f + 1 ≤ number g) → (if b then Some f else by_owner owner name fs) ≡ Some g → least ≤ number g
    by true rest is = omega (arith, rise.0, ap number (same_Some f g is))
    by false rest is = omega (arith, rise.0, rest is)

-- where only one of the filter's own number could have its name, none of these has it, whose numbers are greater
none_alike : (f : Filter) (least : ℕ) (found : Option Filter) → number f < least → ((g : Filter) → found ≡ Some g → least ≤ number g) → IfSome found (λ g. g.no.0 ≡ f.no.0) → found ≡ None
none_alike f least None lt above alone = refl
none_alike f least (Some g) lt above alone = absurd (omega (arith, lt, above g refl, alone))

none_put : (owner : UserNo) (name : List ℕ) (f : Filter) (gs : List Filter) → is_named owner name f ≡ false → by_owner owner name gs ≡ None → by_owner owner name (put_by_number number f gs) ≡ None
none_put owner name f [] other none = grind (arith, other)
none_put owner name f (g ∷ gs) other none = by (is_named owner name g) (nat_lt (number f) (number g)) (number g == number f) (none_put owner name f gs other) refl none
  where
    by : (m a b : Bool) → (by_owner owner name gs ≡ None → by_owner owner name (put_by_number number f gs) ≡ None) → is_named owner name g ≡ m → (if m then Some g else by_owner owner name gs) ≡ None →
        by_owner owner name (if a then f ∷ g ∷ gs else if b then f ∷ gs else g ∷ put_by_number number f gs) ≡ None
    by true a b rest is none = absurd (none-some g (sym none))
    by false true b rest is none = grind (arith, other, is, none)
    by false false true rest is none = grind (arith, other, none)
    by false false false rest is none = grind (arith, is, rest none)

none_without : (owner : UserNo) (name : List ℕ) (n : ℕ) (fs : List Filter) → by_owner owner name fs ≡ None → by_owner owner name (without_number number n fs) ≡ None
none_without owner name n [] none = refl
none_without owner name n (f ∷ fs) none = by (is_named owner name f) (number f == n) (none_without owner name n fs) refl none
  where
    by : (m b : Bool) → (by_owner owner name fs ≡ None → by_owner owner name (without_number number n fs) ≡ None) → is_named owner name f ≡ m → (if m then Some f else by_owner owner name fs) ≡ None →
        by_owner owner name (if b then fs else f ∷ without_number number n fs) ≡ None
    by true b rest is none = absurd (none-some f (sym none))
    by false true rest is none = none
    by false false rest is none = grind (arith, is, rest none)

pub own_names_put : (least : ℕ) (f : Filter) (gs : List Filter) → RiseFrom number least gs → IfSome (by_owner f.owner f.name gs) (λ g. g.no.0 ≡ f.no.0) → HaveOwnNames gs → HaveOwnNames (put_by_number number f gs)
own_names_put least f [] rise alone own = (refl, tt)
own_names_put least f (g ∷ gs) rise alone own = by (is_named f.owner f.name g) (nat_lt (number f) (number g)) (number g == number f) refl refl refl (λ (alone : IfSome (by_owner f.owner f.name gs) (λ g. g.no.0 ≡ f.no.0)). own_names_put (number g + 1) f gs rise.1 alone own.1) alone
  where
    by : (m a b : Bool) → is_named f.owner f.name g ≡ m → nat_lt (number f) (number g) ≡ a → (number g == number f) ≡ b
        → (IfSome (by_owner f.owner f.name gs) (λ g. g.no.0 ≡ f.no.0) → HaveOwnNames (put_by_number number f gs))
        → IfSome (if m then Some g else by_owner f.owner f.name gs) (λ g. g.no.0 ≡ f.no.0)
        → HaveOwnNames (if a then f ∷ g ∷ gs else if b then f ∷ gs else g ∷ put_by_number number f gs)
    by true true b is_m is_a is_b rest alone = let lt : number f < number g = grind (arith, nat_tests, is_a) in absurd (omega (arith, lt, alone))
    by false true b is_m is_a is_b rest alone =
        let none = none_alike f (number g + 1) (by_owner f.owner f.name gs) (grind (arith, nat_tests, is_a)) (λ h is. found_above (number g + 1) f.owner f.name h gs rise.1 is) alone in
        (grind (arith, is_m, none), own)
    by true false true is_m is_a is_b rest alone = (found_alike f g gs is_m ∙ own.0, own.1)
    by false false true is_m is_a is_b rest alone =
        (none_alike f (number g + 1) (by_owner f.owner f.name gs) (grind (arith, nat_tests, is_b)) (λ h is. found_above (number g + 1) f.owner f.name h gs rise.1 is) alone, own.1)
    by true false false is_m is_a is_b rest alone = absurd (grind (arith, nat_tests, is_b, alone))
    by false false false is_m is_a is_b rest alone = (none_put g.owner g.name f gs (sym (named_both_ways f g) ∙ is_m) own.0, rest alone)

pub own_names_without : (n : ℕ) (fs : List Filter) → HaveOwnNames fs → HaveOwnNames (without_number number n fs)
own_names_without n [] own = tt
own_names_without n (f ∷ fs) own = by (number f == n) (own_names_without n fs own.1)
  where
    by : (b : Bool) → HaveOwnNames (without_number number n fs) → HaveOwnNames (if b then fs else f ∷ without_number number n fs)
    by true rest = own.1
    by false rest = (none_without f.owner f.name n fs own.0, rest)
