-- The next moments of several things.
use Rattle.std.proofs.Common.{◌≡◌, ◌⊎◌, ℕ, zero, suc, ◌+◌, ◌<◌, ◌≤◌, min, List, [], ◌∷◌, ◌++◌, length, take, get_or, arith, inl, inr, refl, append_assoc, append-nil, sym, ◌∙◌, ap, subst, Option, Some, None}
use Rattle.std.proofs.lemmas.Bool.{cases_lt}
use Rattle.std.proofs.lemmas.List.{take_more}
use Rattle.std.specs.Prelude.{slice_index_or}
use Rattle.std.specs.List.{Contains, flat_map}
use Rattle.std.proofs.lemmas.List.Elements.{Contains-append_right}
use Rattle.field_values.specs.Years.{last_second}
use Rattle.jql_present.specs.Steady.{earlier}
use Rattle.jql_past.specs.Next.{IsNext, ToOne}

-- what happens to none happens never
pub next_of_none : (P : ℕ → Type 0) (at : ℕ) → ((t : ℕ) → P t → ⊥) → IsNext P at None
next_of_none P at never = λ t low high. never t

-- what happens at the same moments happens next at the same one
pub next_of_same : (P Q : ℕ → Type 0) (at : ℕ) (next : Option ℕ) → ((t : ℕ) → at < t → t ≤ last_second → P t → Q t) → ((t : ℕ) → at < t → t ≤ last_second → Q t → P t) → IsNext P at next → IsNext Q at next
next_of_same P Q at None forth back n = λ t low high q. n t low high (back t low high q)
next_of_same P Q at (Some next) forth back n = record {
  later = n.later;
  in_time = n.in_time;
  happens = forth next n.later n.in_time n.happens;
  not_before = λ t low high q. n.not_before t low high (back t low (omega (arith, n.in_time)) q);
}

-- of two things the earlier
pub next_of_both : (P Q : ℕ → Type 0) (at : ℕ) (one other : Option ℕ) → IsNext P at one → IsNext Q at other → IsNext (λ t. P t ⊎ Q t) at (earlier one other)
next_of_both P Q at None None f g = λ t low high happens. elim happens [ inl p ↦ f t low high p | inr q ↦ g t low high q ]
next_of_both P Q at None (Some other) f g = record {
  later = g.later;
  in_time = g.in_time;
  happens = inr g.happens;
  not_before = λ t low high happens. elim happens [ inl p ↦ f t low (omega (arith, g.in_time)) p | inr q ↦ g.not_before t low high q ];
}
next_of_both P Q at (Some one) None f g = record {
  later = f.later;
  in_time = f.in_time;
  happens = inl f.happens;
  not_before = λ t low high happens. elim happens [ inl p ↦ f.not_before t low high p | inr q ↦ g t low (omega (arith, f.in_time)) q ];
}
next_of_both P Q at (Some one) (Some other) f g =
    elim (cases_lt other one) [
      | inl less ↦
          let is : min one other ≡ other = omega arith in
          rw is (record {
            later = g.later;
            in_time = g.in_time;
            happens = inr g.happens;
            not_before = λ t low high happens. elim happens [ inl p ↦ f.not_before t low (omega arith) p | inr q ↦ g.not_before t low high q ];
          })
      | inr more ↦
          let is : min one other ≡ one = omega arith in
          rw is (record {
            later = f.later;
            in_time = f.in_time;
            happens = inl f.happens;
            not_before = λ t low high happens. elim happens [ inl p ↦ f.not_before t low high p | inr q ↦ g.not_before t low (omega arith) q ];
          })
    ]

-- ---- lists

module _ {X : Type 0} (P : X → ℕ → Type 0) where
  pub to_first : (xs ys : List X) (t : ℕ) → ToOne P xs t → ToOne P (xs ++ ys) t
  to_first [] ys t happens = absurd happens
  to_first (x ∷ xs) ys t happens = elim happens [ inl p ↦ inl p | inr q ↦ inr (to_first xs ys t q) ]

  pub to_second : (xs ys : List X) (t : ℕ) → ToOne P ys t → ToOne P (xs ++ ys) t
  to_second [] ys t happens = happens
  to_second (x ∷ xs) ys t happens = inr (to_second xs ys t happens)

  pub to_either : (xs ys : List X) (t : ℕ) → ToOne P (xs ++ ys) t → ToOne P xs t ⊎ ToOne P ys t
  to_either [] ys t happens = inr happens
  to_either (x ∷ xs) ys t happens =
      elim happens [
        | inl p ↦ inl (inl p)
        | inr q ↦ elim (to_either xs ys t q) [ inl r ↦ inl (inr r) | inr r ↦ inr r ]
      ]

  -- it happens to a member, and to which one
  at_place : (xs : List X) (x : X) (t k : ℕ) → k < length xs → slice_index_or xs k x ≡ x → P x t → ToOne P xs t
  at_place [] x t k less is p = absurd (omega arith)
  at_place (y ∷ xs) x t zero less is p = inl (subst (λ z. P z t) (sym is) p)
  at_place (y ∷ xs) x t (suc k) less is p = inr (at_place xs x t k (omega arith) is p)

  pub to_member : (xs : List X) (x : X) (t : ℕ) → Contains xs x → P x t → ToOne P xs t
  to_member xs x t c p = at_place xs x t c.0 c.1 c.2 p

  pub which : (xs : List X) (t : ℕ) → ToOne P xs t → (x : X) × Contains xs x × P x t
  which [] t happens = absurd happens
  which (x ∷ xs) t happens =
      elim happens [
        | inl p ↦ (x, (0, omega arith, refl), p)
        | inr q ↦ let one = which xs t q in (one.0, Contains-append_right (x ∷ []) xs one.0 one.1, one.2)
      ]

  pub to_nested : {Y : Type 0} (f : Y → List X) (ys : List Y) (t : ℕ) → ToOne P (flat_map f ys) t → ToOne (λ y. ToOne P (f y)) ys t
  to_nested f [] t happens = absurd happens
  to_nested f (y ∷ ys) t happens =
      elim (to_either (f y) (flat_map f ys) t happens) [ inl p ↦ inl p | inr q ↦ inr (to_nested f ys t q) ]

  pub from_nested : {Y : Type 0} (f : Y → List X) (ys : List Y) (t : ℕ) → ToOne (λ y. ToOne P (f y)) ys t → ToOne P (flat_map f ys) t
  from_nested f [] t happens = absurd happens
  from_nested f (y ∷ ys) t happens =
      elim happens [ inl p ↦ to_first (f y) (flat_map f ys) t p | inr q ↦ to_second (f y) (flat_map f ys) t (from_nested f ys t q) ]

  pub next_of_one : (x : X) (at : ℕ) (next : Option ℕ) → IsNext (P x) at next → IsNext (ToOne P (x ∷ [])) at next
  next_of_one x at next n = next_of_same (P x) (ToOne P (x ∷ [])) at next (λ t low high p. inl p) (λ t low high q. elim q [ inl p ↦ p | inr none ↦ absurd none ]) n

  pub next_of_two : (x y : X) (at : ℕ) (one other : Option ℕ) → IsNext (P x) at one → IsNext (P y) at other → IsNext (ToOne P (x ∷ y ∷ [])) at (earlier one other)
  next_of_two x y at one other f g = next_of_both (P x) (ToOne P (y ∷ [])) at one other f (next_of_one y at other g)

  -- the step of a loop
  pub next_of_more : (xs : List X) (at i : ℕ) (x : X) (one other result : Option ℕ) → i < length xs → x ≡ get_or xs i x → result ≡ earlier one other → IsNext (ToOne P (take i xs)) at one → IsNext (P x) at other → IsNext (ToOne P (take (i + 1) xs)) at result
  next_of_more xs at i x one other result less is both f g =
      let list : take i xs ++ x ∷ [] ≡ take (i + 1) xs = ap (λ o. take i xs ++ o ∷ []) is ∙ sym (take_more xs i x less) in
      let joined : IsNext (ToOne P (take i xs ++ x ∷ [])) at (earlier one other) =
      next_of_same (λ t. ToOne P (take i xs) t ⊎ ToOne P (x ∷ []) t) (ToOne P (take i xs ++ x ∷ [])) at (earlier one other)
      (λ t low high e. elim e [ inl p ↦ to_first (take i xs) (x ∷ []) t p | inr q ↦ to_second (take i xs) (x ∷ []) t q ])
      (λ t low high e. to_either (take i xs) (x ∷ []) t e)
      (next_of_both (ToOne P (take i xs)) (ToOne P (x ∷ [])) at one other f (next_of_one x at other g)) in
      subst (λ r. IsNext (ToOne P (take (i + 1) xs)) at r) (sym both) (subst (λ l. IsNext (ToOne P l) at (earlier one other)) list joined)

-- ---- walks from the last to the first

-- those that a walk has passed and those that are left are all, and this is the next moment at which it happens to one passed
pub record HasPassed {X : Type 0} (P : X → ℕ → Type 0) (all left : List X) (at : ℕ) (next : Option ℕ) : Type 0 where
  pub passed : List X
  pub all_are : all ≡ left ++ passed
  pub is_next : IsNext (ToOne P passed) at next

module _ {X : Type 0} (P : X → ℕ → Type 0) (all : List X) (at : ℕ) where
  pub none_passed : (left : List X) → left ≡ all → HasPassed P all left at None
  none_passed left is = record {
    passed = [];
    all_are = sym is ∙ sym (append-nil left);
    is_next = λ t low high happens. happens;
  }

  pub one_more_passed : (left before : List X) (x : X) (one other result : Option ℕ) → left ≡ before ++ x ∷ [] → result ≡ earlier one other → IsNext (P x) at one → HasPassed P all left at other → HasPassed P all before at result
  one_more_passed left before x one other result is both f g = record {
    passed = x ∷ g.passed;
    all_are = g.all_are ∙ ap (λ l. l ++ g.passed) is ∙ append_assoc before (x ∷ []) g.passed;
    is_next = subst (λ r. IsNext (ToOne P (x ∷ g.passed)) at r) (sym both) (next_of_both (P x) (ToOne P g.passed) at one other f g.is_next);
  }

  pub all_passed : (left : List X) (next : Option ℕ) → left ≡ [] → HasPassed P all left at next → IsNext (ToOne P all) at next
  all_passed left next is g =
      subst (λ l. IsNext (ToOne P l) at next) (sym (g.all_are ∙ ap (λ l. l ++ g.passed) is)) g.is_next
