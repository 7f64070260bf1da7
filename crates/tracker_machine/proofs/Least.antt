-- Of some names the first in byte order is chosen.
use Rattle.std.proofs.Common.{◌≡◌, ℕ, suc, List, [], ◌∷◌, Bool, true, false, Some, None, slice_get, unwrap_or, if◌then◌else◌, refl, sym, ap, ◌∙◌, subst, inl, inr, arith}
use Rattle.std.specs.Prelude.{◌⊎◌, ◌||◌}
use Rattle.std.specs.List.{list_any}
use Rattle.std.specs.declared.cmp.Ordering.{Ordering}
use Rattle.std.specs.declared.cmp.Ordering.TheVariants.{Less, Equal, Greater}
use Rattle.std.specs.Ordering.{nat_cmp, ordering_reverse}
use Rattle.std.specs.Cmp.Lexicographic.{slice_cmp, nat_list_cmp_total}
use Rattle.field_forms.specs.Values.{is_before}
use Rattle.tracker_machine.specs.Checks.{first_with}
use Rattle.tracker_machine.specs.Laws.{IsLeastName}

abbrev order : List ℕ → List ℕ → Ordering
order one other = slice_cmp nat_cmp one other

-- none comes before itself
not_before_itself : (a : List ℕ) → is_before a a ≡ false
not_before_itself a = by_order (order a a) refl where
  by_order : (r : Ordering) → order a a ≡ r → is_before a a ≡ false
  by_order Less e = absurd (turned e (nat_list_cmp_total.antisymm a a)) where
    turned : order a a ≡ Less → order a a ≡ ordering_reverse (order a a) → ⊥
    turned e r = let clash : Less ≡ ordering_reverse Less = sym e ∙ r ∙ ap ordering_reverse e in cc
  by_order Equal e = rw e refl
  by_order Greater e = rw e refl

-- what isn't behind an earlier one isn't behind a later one
not_before_later : (a b c : List ℕ) → is_before a b ≡ true → is_before a c ≡ false → is_before b c ≡ false
not_before_later a b c before not_before = by_order (order b c) refl (order a b) refl where
  by_order : (r : Ordering) → order b c ≡ r → (s : Ordering) → order a b ≡ s → is_before b c ≡ false
  by_order Equal e s f = rw e refl
  by_order Greater e s f = rw e refl
  by_order Less e Less f = let less = nat_list_cmp_total.trans a b c f e in absurd (grind (arith, less, not_before))
  by_order Less e Equal f = absurd (grind (arith, f, before))
  by_order Less e Greater f = absurd (grind (arith, f, before))

-- what isn't behind one isn't behind another that doesn't come before that
not_before_other : (a b c : List ℕ) → is_before a b ≡ false → is_before b c ≡ false → is_before a c ≡ false
not_before_other a b c first second = by_order (order a c) refl (order a b) refl where
  by_order : (r : Ordering) → order a c ≡ r → (s : Ordering) → order a b ≡ s → is_before a c ≡ false
  by_order Equal e s f = rw e refl
  by_order Greater e s f = rw e refl
  by_order Less e Less f = absurd (grind (arith, f, first))
  by_order Less e Equal f = let less : order b c ≡ Less = sym (nat_list_cmp_total.congr a b c f) ∙ e in absurd (grind (arith, less, second))
  by_order Less e Greater f =
      let turned : order b a ≡ Less = nat_list_cmp_total.antisymm b a ∙ ap ordering_reverse f in
      let less = nat_list_cmp_total.trans b a c turned e in
      absurd (grind (arith, less, second))

neither : (a b : Bool) → a ≡ false → b ≡ false → (a || b) ≡ false
neither a b one other = rw (one, other) refl

-- the name is the one found before, or one of these; none of them comes before it, and neither does that one
record IsChosen (names : List (List ℕ)) (found name : List ℕ) : Type 0 where
  among : (name ≡ found) ⊎ ((place : ℕ) × (slice_get names place ≡ Some name))
  not_before : is_before found name ≡ false
  least : list_any (λ other. is_before other name) names ≡ false

behind : (n name : List ℕ) (ns : List (List ℕ)) → (name ≡ n) ⊎ ((place : ℕ) × (slice_get ns place ≡ Some name)) → (place : ℕ) × (slice_get (n ∷ ns) place ≡ Some name)
behind n name ns (inl same) = (0, ap Some (sym same))
behind n name ns (inr (place, at)) = (suc place, at)

further : (n found name : List ℕ) (ns : List (List ℕ)) → (name ≡ found) ⊎ ((place : ℕ) × (slice_get ns place ≡ Some name)) → (name ≡ found) ⊎ ((place : ℕ) × (slice_get (n ∷ ns) place ≡ Some name))
further n found name ns (inl same) = inl same
further n found name ns (inr (place, at)) = inr (suc place, at)

one_more : (b : Bool) (n found name : List ℕ) (ns : List (List ℕ)) → is_before n found ≡ b → IsChosen ns (if b then n else found) name → IsChosen (n ∷ ns) found name
one_more true n found name ns e more = record {
  among = inr (behind n name ns more.among);
  not_before = not_before_later n found name e more.not_before;
  least = neither (is_before n name) (list_any (λ other. is_before other name) ns) more.not_before more.least;
}
one_more false n found name ns e more = record {
  among = further n found name ns more.among;
  not_before = more.not_before;
  least = neither (is_before n name) (list_any (λ other. is_before other name) ns) (not_before_other n found name e more.not_before) more.least;
}

chosen : (names : List (List ℕ)) (found name : List ℕ) → first_with (Some found) names ≡ Some name → IsChosen names found name
chosen [] found name is =
    let same : found ≡ name = ap (λ o. unwrap_or o []) is in
    record { among = inl (sym same); not_before = subst (λ n. is_before found n ≡ false) same (not_before_itself found); least = refl }
chosen (n ∷ ns) found name is = one_more (is_before n found) n found name ns refl (chosen ns (if is_before n found then n else found) name is)

pub least_name : (names : List (List ℕ)) (name : List ℕ) → first_with None names ≡ Some name → IsLeastName names name
least_name [] name is = absurd (cc)
least_name (n ∷ ns) name is =
    let more = chosen ns n name is in
    record { among = behind n name ns more.among; least = neither (is_before n name) (list_any (λ other. is_before other name) ns) more.not_before more.least }
