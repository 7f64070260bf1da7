-- Several conditions, one of which decides where it is so.
use Rattle.std.proofs.Common.{◌≡◌, ℕ, zero, suc, ◌+◌, ◌<◌, min, Bool, true, false, not, ◌&&◌, ◌||◌, List, [], ◌∷◌, ◌++◌, length, get_or, take, refl, ap, sym, subst, ◌∙◌, arith, inl, inr, Option, Some, None}
use Rattle.std.specs.Bool.{beq}
use Rattle.std.proofs.lemmas.Bool.{cases_lt, true≢false}
use Rattle.std.proofs.lemmas.List.{take_more}
use Rattle.change_history.specs.History.{History}
use Rattle.jql_bound.specs.declared.cond.Cond.{Cond}
use Rattle.jql_bound.specs.Condition.{no_conditions, view, views}
use Rattle.jql_meaning.specs.Surroundings.{Surroundings}
use Rattle.jql_meaning.specs.Truth.{holds, all_hold, some_holds}
use Rattle.jql_meaning.specs.Critical.{IsCritical, IsCriticalForOne}
use Rattle.jql_meaning.specs.Ends.{Stays}
use Rattle.jql_present.specs.Steady.{earlier}
use Rattle.jql_eval.specs.Joined.{joined}

-- one of several conditions is so, where that decides
some_at : (s : Surroundings) (h : History) (t : ℕ) (conds : List Cond) (k : ℕ) (cond : Cond) → k < length conds → cond ≡ get_or conds k cond → holds s h t (view cond) ≡ true → some_holds s h t (views conds) ≡ true
unfolding holds
some_at s h t [] k cond inside is so = absurd (omega (arith, inside))
some_at s h t (first ∷ conds) zero cond inside is so = ap (λ b. b || some_holds s h t (views conds)) (sym (ap (λ (c : Cond). holds s h t (view c)) is) ∙ so)
some_at s h t (first ∷ conds) (suc k) cond inside is so = ap (λ b. holds s h t (view first) || b) (some_at s h t conds k cond (omega arith) is so) ∙ or_true (holds s h t (view first))
  where
    or_true : (b : Bool) → b || true ≡ true
    or_true true = refl
    or_true false = refl

not_all_at : (s : Surroundings) (h : History) (t : ℕ) (conds : List Cond) (k : ℕ) (cond : Cond) → k < length conds → cond ≡ get_or conds k cond → holds s h t (view cond) ≡ false → all_hold s h t (views conds) ≡ false
unfolding holds
not_all_at s h t [] k cond inside is so = absurd (omega (arith, inside))
not_all_at s h t (first ∷ conds) zero cond inside is so = ap (λ b. b && all_hold s h t (views conds)) (sym (ap (λ (c : Cond). holds s h t (view c)) is) ∙ so)
not_all_at s h t (first ∷ conds) (suc k) cond inside is so = ap (λ b. holds s h t (view first) && b) (not_all_at s h t conds k cond (omega arith) is so) ∙ and_false (holds s h t (view first))
  where
    and_false : (b : Bool) → b && false ≡ false
    and_false true = refl
    and_false false = refl

decides_at : (deciding : Bool) (s : Surroundings) (h : History) (t : ℕ) (conds : List Cond) (k : ℕ) (cond : Cond) → k < length conds → cond ≡ get_or conds k cond → holds s h t (view cond) ≡ deciding → joined deciding s h t (views conds) ≡ deciding
decides_at true s h t conds k cond inside is so = some_at s h t conds k cond inside is so
decides_at false s h t conds k cond inside is so = not_all_at s h t conds k cond inside is so

-- nothing is decided by none, nor by one more that isn't so
pub none_joined : (deciding : Bool) (s : Surroundings) (h : History) (t : ℕ) → joined deciding s h t no_conditions ≡ not deciding
unfolding holds
none_joined true s h t = refl
none_joined false s h t = refl

none_more : (s : Surroundings) (h : History) (t : ℕ) (conds : List Cond) (cond : Cond) → some_holds s h t (views conds) ≡ false → holds s h t (view cond) ≡ false → some_holds s h t (views (conds ++ cond ∷ [])) ≡ false
unfolding holds
none_more s h t [] cond before so = ap (λ b. b || false) so
none_more s h t (first ∷ conds) cond before so =
    let parts = or_false (holds s h t (view first)) (some_holds s h t (views conds)) before in
    λ i. parts.0 i || none_more s h t conds cond parts.1 so i
  where
    or_false : (a b : Bool) → a || b ≡ false → (a ≡ false) × (b ≡ false)
    or_false true b e = absurd (true≢false e)
    or_false false b e = (refl, e)

all_more : (s : Surroundings) (h : History) (t : ℕ) (conds : List Cond) (cond : Cond) → all_hold s h t (views conds) ≡ true → holds s h t (view cond) ≡ true → all_hold s h t (views (conds ++ cond ∷ [])) ≡ true
unfolding holds
all_more s h t [] cond before so = ap (λ b. b && true) so
all_more s h t (first ∷ conds) cond before so =
    let parts = and_true (holds s h t (view first)) (all_hold s h t (views conds)) before in
    λ i. parts.0 i && all_more s h t conds cond parts.1 so i
  where
    and_true : (a b : Bool) → a && b ≡ true → (a ≡ true) × (b ≡ true)
    and_true true b e = (refl, e)
    and_true false b e = absurd (true≢false (sym e))

undecided_at : (deciding : Bool) (s : Surroundings) (h : History) (t : ℕ) (conds : List Cond) (cond : Cond) → joined deciding s h t (views conds) ≡ not deciding → holds s h t (view cond) ≡ not deciding → joined deciding s h t (views (conds ++ cond ∷ [])) ≡ not deciding
undecided_at true s h t conds cond before so = none_more s h t conds cond before so
undecided_at false s h t conds cond before so = all_more s h t conds cond before so

-- the step of a loop that looks at one after the other, as long as none decides
pub undecided_on : (deciding : Bool) (s : Surroundings) (h : History) (t : ℕ) (conds : List Cond) (i : ℕ) (cond : Cond) → i < length conds → cond ≡ get_or conds i cond →
    joined deciding s h t (views (take i conds)) ≡ not deciding → holds s h t (view cond) ≡ not deciding → joined deciding s h t (views (take (i + 1) conds)) ≡ not deciding
undecided_on deciding s h t conds i cond inside is before so =
    let front : take i conds ++ cond ∷ [] ≡ take (i + 1) conds = ap (λ c. take i conds ++ c ∷ []) is ∙ sym (take_more conds i cond inside) in
    subst (λ (l : List Cond). joined deciding s h t (views l) ≡ not deciding) front (undecided_at deciding s h t (take i conds) cond before so)

module _ (deciding : Bool) (s : Surroundings) (h : History) where
  -- ---- one that is so decides

  critical_at : (t : ℕ) (conds : List Cond) (k : ℕ) (cond : Cond) → k < length conds → cond ≡ get_or conds k cond → IsCritical s h t (view cond) → IsCriticalForOne s h t (views conds)
  unfolding IsCritical
  critical_at t [] k cond inside is critical = absurd (omega (arith, inside))
  critical_at t (first ∷ conds) zero cond inside is critical = inl (subst (λ (c : Cond). IsCritical s h t (view c)) is critical)
  critical_at t (first ∷ conds) (suc k) cond inside is critical = inr (critical_at t conds k cond (omega arith) is critical)

  pub decided_stays : (at : ℕ) (conds : List Cond) (k : ℕ) (cond : Cond) (until : Option ℕ) → k < length conds → cond ≡ get_or conds k cond → holds s h at (view cond) ≡ deciding →
      Stays (λ t. holds s h t (view cond)) (λ t. IsCritical s h t (view cond)) at until →
      Stays (λ t. joined deciding s h t (views conds)) (λ t. IsCriticalForOne s h t (views conds)) at until
  decided_stays at conds k cond None inside is so stays =
      λ t low high. decides_at deciding s h t conds k cond inside is (stays t low high ∙ so) ∙ sym (decides_at deciding s h at conds k cond inside is so)
  decided_stays at conds k cond (Some until) inside is so stays = record {
    later = stays.later;
    in_time = stays.in_time;
    critical = critical_at until conds k cond inside is stays.critical;
    stays = λ t low high. decides_at deciding s h t conds k cond inside is (stays.stays t low high ∙ so) ∙ sym (decides_at deciding s h at conds k cond inside is so);
  }

  pub decided_holds : (at : ℕ) (conds : List Cond) (k : ℕ) (cond : Cond) → k < length conds → cond ≡ get_or conds k cond → holds s h at (view cond) ≡ deciding → holds s h at (view cond) ≡ joined deciding s h at (views conds)
  decided_holds at conds k cond inside is so = so ∙ sym (decides_at deciding s h at conds k cond inside is so)

  -- ---- none of them is so yet

  critical_before : (t : ℕ) (conds : List Cond) (cond : Cond) → IsCriticalForOne s h t (views conds) → IsCriticalForOne s h t (views (conds ++ cond ∷ []))
  unfolding IsCritical
  critical_before t [] cond critical = absurd critical
  critical_before t (first ∷ conds) cond critical = elim critical [ inl here ↦ inl here | inr later ↦ inr (critical_before t conds cond later) ]

  critical_last : (t : ℕ) (conds : List Cond) (cond : Cond) → IsCritical s h t (view cond) → IsCriticalForOne s h t (views (conds ++ cond ∷ []))
  unfolding IsCritical
  critical_last t [] cond critical = inl critical
  critical_last t (first ∷ conds) cond critical = inr (critical_last t conds cond critical)

  -- that is so at the moment and stays so
  pub record Undecided (at : ℕ) (conds : List Cond) (until : Option ℕ) : Type 0 where
    pub so : joined deciding s h at (views conds) ≡ not deciding
    pub stays : Stays (λ t. joined deciding s h t (views conds)) (λ t. IsCriticalForOne s h t (views conds)) at until

  pub undecided_none : (at : ℕ) → Undecided at [] None
  undecided_none at = record {
    so = none_joined deciding s h at;
    stays = λ t low high. none_joined deciding s h t ∙ sym (none_joined deciding s h at);
  }

  undecided_one : (at : ℕ) (conds : List Cond) (cond : Cond) (one other : Option ℕ) → Undecided at conds one → holds s h at (view cond) ≡ not deciding →
      Stays (λ t. holds s h t (view cond)) (λ t. IsCritical s h t (view cond)) at other → Undecided at (conds ++ cond ∷ []) (earlier one other)
  undecided_one at conds cond one other before so stays = record { so = now_so; stays = both one other before.stays stays }
    where
      now_so : joined deciding s h at (views (conds ++ cond ∷ [])) ≡ not deciding
      now_so = undecided_at deciding s h at conds cond before.so so

      same : (t : ℕ) → joined deciding s h t (views conds) ≡ joined deciding s h at (views conds) → holds s h t (view cond) ≡ holds s h at (view cond) → joined deciding s h t (views (conds ++ cond ∷ [])) ≡ joined deciding s h at (views (conds ++ cond ∷ []))
      same t first last = undecided_at deciding s h t conds cond (first ∙ before.so) (last ∙ so) ∙ sym now_so

      both : (one other : Option ℕ) → Stays (λ t. joined deciding s h t (views conds)) (λ t. IsCriticalForOne s h t (views conds)) at one → Stays (λ t. holds s h t (view cond)) (λ t. IsCritical s h t (view cond)) at other →
          Stays (λ t. joined deciding s h t (views (conds ++ cond ∷ []))) (λ t. IsCriticalForOne s h t (views (conds ++ cond ∷ []))) at (earlier one other)
      both None None f g = λ t low high. same t (f t low high) (g t low high)
      both None (Some other) f g = record {
        later = g.later;
        in_time = g.in_time;
        critical = critical_last other conds cond g.critical;
        stays = λ t low high. same t (f t low (omega (arith, g.in_time))) (g.stays t low high);
      }
      both (Some one) None f g = record {
        later = f.later;
        in_time = f.in_time;
        critical = critical_before one conds cond f.critical;
        stays = λ t low high. same t (f.stays t low high) (g t low (omega (arith, f.in_time)));
      }
      both (Some one) (Some other) f g =
          elim (cases_lt other one) [
            | inl less ↦
                let is : min one other ≡ other = omega arith in
                rw is (record {
                  later = g.later;
                  in_time = g.in_time;
                  critical = critical_last other conds cond g.critical;
                  stays = λ t low high. same t (f.stays t low (omega arith)) (g.stays t low high);
                })
            | inr more ↦
                let is : min one other ≡ one = omega arith in
                rw is (record {
                  later = f.later;
                  in_time = f.in_time;
                  critical = critical_before one conds cond f.critical;
                  stays = λ t low high. same t (f.stays t low high) (g.stays t low (omega arith));
                })
          ]

  -- the step of the loop
  pub undecided_more : (at : ℕ) (conds : List Cond) (i : ℕ) (cond : Cond) (one other result : Option ℕ) → i < length conds → cond ≡ get_or conds i cond → result ≡ earlier one other → Undecided at (take i conds) one → holds s h at (view cond) ≡ not deciding →
      Stays (λ t. holds s h t (view cond)) (λ t. IsCritical s h t (view cond)) at other → Undecided at (take (i + 1) conds) result
  undecided_more at conds i cond one other result inside is made before so stays =
      let front : take i conds ++ cond ∷ [] ≡ take (i + 1) conds = ap (λ c. take i conds ++ c ∷ []) is ∙ sym (take_more conds i cond inside) in
      subst (λ (r : Option ℕ). Undecided at (take (i + 1) conds) r) (sym made) (subst (λ (l : List Cond). Undecided at l (earlier one other)) front (undecided_one at (take i conds) cond one other before so stays))

-- what the loop's test tells
pub is_deciding : (a b deciding : Bool) → a ≡ b → beq a deciding ≡ true → b ≡ deciding
is_deciding a b deciding e t = sym e ∙ same a deciding t
  where
    same : (a b : Bool) → beq a b ≡ true → a ≡ b
    same true true t = refl
    same true false t = absurd (true≢false (sym t))
    same false true t = absurd (true≢false (sym t))
    same false false t = refl

pub is_not_deciding : (a b deciding : Bool) → a ≡ b → beq a deciding ≡ false → b ≡ not deciding
is_not_deciding a b deciding e t = sym e ∙ other a deciding t
  where
    other : (a b : Bool) → beq a b ≡ false → a ≡ not b
    other true true t = absurd (true≢false t)
    other true false t = refl
    other false true t = refl
    other false false t = absurd (true≢false t)
