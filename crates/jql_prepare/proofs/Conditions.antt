-- Conditions of conditions that hold of the same issues.
use Rattle.std.proofs.Common.{◌≡◌, ◌≢◌, ◌<◌, ◌≤◌, ◌+◌, ◌==◌, ℕ, zero, suc, ◌&&◌, ◌||◌, Bool, true, false, not, List, [], ◌∷◌, length, slice_get, set, Some, refl, sym, ap, ap₂, subst, ◌∙◌, arith, inl, inr, rules, Vec, Global}
use Rattle.std.specs.List.{list_any}
use Rattle.std.specs.List.Sorted.{IsPermutation}
use Rattle.std.proofs.lemmas.Bool.{cases_Bool, eqb-true, eq-eqb}
use Rattle.std.proofs.lemmas.Option.{same_Some, slice_get_within}
use Rattle.std.proofs.lemmas.List.Sorted.{list_any-IsPermutation}
use Rattle.change_history.specs.History.{History}
use Rattle.jql_bound.specs.declared.cond.Cond.{Cond, All, Any, Now, the_lemmas}
use Rattle.jql_bound.specs.declared.leaf.Leaf.{Leaf}
use Rattle.jql_bound.specs.Condition.{now, all_of, any_of, view, views}
use Rattle.jql_meaning.specs.Surroundings.{Surroundings}
use Rattle.jql_meaning.specs.Present.{holds_now}
use Rattle.jql_meaning.specs.Truth.{holds, all_hold, some_holds}
use Rattle.jql_prepare.specs.Same.{IsSame, AreSame}

view-All : (v : Vec Cond Global) → view (All v) ≡ all_of (views v.items)
view-All v = search (rules, the_lemmas)

view-Any : (v : Vec Cond Global) → view (Any v) ≡ any_of (views v.items)
view-Any v = search (rules, the_lemmas)

view-Now : (leaf : Leaf) → view (Now leaf) ≡ now leaf
view-Now leaf = search (rules, the_lemmas)

-- what stands in a list where one of it was set, and elsewhere
set_here : {A : Type 0} (xs : List A) (k : ℕ) (x : A) → k < length xs → slice_get (set xs k x) k ≡ Some x
set_here [] k x in' = absurd (omega (arith, in'))
set_here (y ∷ xs) zero x in' = refl
set_here (y ∷ xs) (suc k) x in' = set_here xs k x (omega (arith, in'))

set_there : {A : Type 0} (xs : List A) (n k : ℕ) (x : A) → k ≢ n → slice_get (set xs n x) k ≡ slice_get xs k
set_there [] n k x apart = refl
set_there (y ∷ xs) zero zero x apart = absurd (apart refl)
set_there (y ∷ xs) (suc n) zero x apart = refl
set_there (y ∷ xs) zero (suc k) x apart = refl
set_there (y ∷ xs) (suc n) (suc k) x apart = set_there xs n k x (λ e. apart (ap suc e))

module _ (s : Surroundings) (at : ℕ) where
  first_same : (c d : Cond) (cs ds : List Cond) → AreSame s at (c ∷ cs) (d ∷ ds) → IsSame s at c d
  first_same c d cs ds same = same.each 0 c d refl refl

  rest_same : (c d : Cond) (cs ds : List Cond) → AreSame s at (c ∷ cs) (d ∷ ds) → AreSame s at cs ds
  rest_same c d cs ds same = record {
    many = omega (arith, same.many);
    each = λ place x y old new. same.each (suc place) x y old new;
  }

  -- all of them hold, or one of them does
  all_same : (old new : List Cond) (h : History) → AreSame s at old new → all_hold s h at (views new) ≡ all_hold s h at (views old)
  unfolding holds
  all_same [] [] h same = refl
  all_same [] (d ∷ ds) h same = absurd (omega (arith, same.many))
  all_same (c ∷ cs) [] h same = absurd (omega (arith, same.many))
  all_same (c ∷ cs) (d ∷ ds) h same =
      ap₂ (λ (a b : Bool). a && b) (first_same c d cs ds same h) (all_same cs ds h (rest_same c d cs ds same))

  some_same : (old new : List Cond) (h : History) → AreSame s at old new → some_holds s h at (views new) ≡ some_holds s h at (views old)
  unfolding holds
  some_same [] [] h same = refl
  some_same [] (d ∷ ds) h same = absurd (omega (arith, same.many))
  some_same (c ∷ cs) [] h same = absurd (omega (arith, same.many))
  some_same (c ∷ cs) (d ∷ ds) h same =
      ap₂ (λ (a b : Bool). a || b) (first_same c d cs ds same h) (some_same cs ds h (rest_same c d cs ds same))

  -- ---- in another order

  some_any : (conds : List Cond) (h : History) → some_holds s h at (views conds) ≡ list_any (λ c. holds s h at (view c)) conds
  unfolding holds
  some_any [] h = refl
  some_any (c ∷ cs) h = ap (λ (b : Bool). holds s h at (view c) || b) (some_any cs h)

  -- all of them hold where none of them doesn't
  all_any : (conds : List Cond) (h : History) → all_hold s h at (views conds) ≡ not (list_any (λ c. not (holds s h at (view c))) conds)
  unfolding holds
  all_any [] h = refl
  all_any (c ∷ cs) h = ap (λ (b : Bool). holds s h at (view c) && b) (all_any cs h) ∙ both (holds s h at (view c)) (list_any (λ c. not (holds s h at (view c))) cs)
    where
      both : (a b : Bool) → (a && not b) ≡ not (not a || b)
      both true b = refl
      both false b = refl

  -- whether all of them hold, or one of them, goes by no order
  some_permuted : (old new : List Cond) (h : History) → IsPermutation old new → some_holds s h at (views new) ≡ some_holds s h at (views old)
  some_permuted old new h same =
      some_any new h ∙ sym (list_any-IsPermutation (λ c. holds s h at (view c)) old new same) ∙ sym (some_any old h)

  all_permuted : (old new : List Cond) (h : History) → IsPermutation old new → all_hold s h at (views new) ≡ all_hold s h at (views old)
  all_permuted old new h same =
      all_any new h ∙ ap not (sym (list_any-IsPermutation (λ c. not (holds s h at (view c))) old new same)) ∙ sym (all_any old h)

  -- ---- of the same kind

  pub All_same : (old mid new : Vec Cond Global) → AreSame s at old.items mid.items → IsPermutation mid.items new.items → IsSame s at (All old) (All new)
  unfolding holds
  All_same old mid new same permuted = λ h.
      ap (holds s h at) (view-All new) ∙ all_permuted mid.items new.items h permuted
      ∙ all_same old.items mid.items h same ∙ sym (ap (holds s h at) (view-All old))

  pub Any_same : (old mid new : Vec Cond Global) → AreSame s at old.items mid.items → IsPermutation mid.items new.items → IsSame s at (Any old) (Any new)
  unfolding holds
  Any_same old mid new same permuted = λ h.
      ap (holds s h at) (view-Any new) ∙ some_permuted mid.items new.items h permuted
      ∙ some_same old.items mid.items h same ∙ sym (ap (holds s h at) (view-Any old))

  pub Now_same : (old new : Leaf) → ((h : History) → holds_now s new h at ≡ holds_now s old h at) → IsSame s at (Now old) (Now new)
  unfolding holds
  Now_same old new same = λ h.
      ap (holds s h at) (view-Now new) ∙ same h ∙ sym (ap (holds s h at) (view-Now old))

  -- ---- one after the other

  -- those before this place hold of the same issues, and the others are as they were
  pub record SameBelow (old new : List Cond) (at_place : ℕ) : Type 0 where
    pub below : (place : ℕ) (c d : Cond) → place < at_place → slice_get old place ≡ Some c → slice_get new place ≡ Some d → IsSame s at c d

  pub same_none : (old : List Cond) → SameBelow old old 0
  same_none old = record { below = λ place c d in' was is. absurd (omega (arith, in')) }

  pub same_more : (old mid : List Cond) (n : ℕ) (c d : Cond) → n < length mid → slice_get old n ≡ Some c → IsSame s at c d → SameBelow old mid n → SameBelow old (set mid n d) (n + 1)
  same_more old mid n c d in' was same before = record {
    below = λ place x y less x_at y_at. elim (cases_Bool (place == n)) [
      | inl here ↦
          let own : place ≡ n = eqb-true place n here in
          let x_is : c ≡ x = same_Some c x (sym was ∙ ap (slice_get old) (sym own) ∙ x_at) in
          let y_is : d ≡ y = same_Some d y (sym (set_here mid n d in') ∙ ap (slice_get (set mid n d)) (sym own) ∙ y_at) in
          subst (λ (y : Cond). IsSame s at x y) y_is (subst (λ (x : Cond). IsSame s at x d) x_is same)
      | inr other ↦
          let apart : place ≢ n = λ e. absurd (cc (other, eq-eqb place n e)) in
          before.below place x y (omega (arith, less, apart)) x_at (sym (set_there mid n place d apart) ∙ y_at)
    ];
  }

  pub all_below : (old new : List Cond) (n : ℕ) → length new ≡ length old → length old ≤ n → SameBelow old new n → AreSame s at old new
  all_below old new n many enough same = record {
    many = many;
    each = λ place c d was is. same.below place c d (omega (arith, slice_get_within old place c was, enough)) was is;
  }

  pub itself : (c : Cond) → IsSame s at c c
  itself c = λ h. refl
