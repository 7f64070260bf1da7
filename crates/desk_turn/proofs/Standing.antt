-- What all steps of a turn share.
use Rattle.std.proofs.Common.{◌≡◌, ◌≢◌, ◌==◌, ℕ, ◌+◌, ◌≤◌, List, [], ◌∷◌, ◌++◌, length, set, inl, inr, refl, sym, ap, subst, ◌∙◌, arith, eq-eqb, ne_eqb, append_assoc, append-nil, Option, Some, None, if◌then◌else◌}
use mathlib.Core.Option as rules
use mathlib.Core.Logic.{dite}
use native.Mathlib.Decide.{ℕ_discrete}
use lib.ListN.{get_elem?}
use Rattle.std.proofs.lemmas.List.Elements.{filter-append}
use Rattle.atomic_table.proofs.Lists.{at_set}
use Rattle.desk_turn.specs.declared.entry.Entry.{Entry}
use Rattle.desk_turn.specs.declared.view.View.{View}
use Rattle.desk_turn.specs.Rule.{one_if, weigh, Account, Fits, Counts}
use Rattle.desk_turn.specs.History.{StartsWith, calls_by}
use Rattle.desk_turn.proofs.Totals.{total_set}

-- f, but x at k
abbrev pub changed : {X : Type 0} → (ℕ → X) → ℕ → X → ℕ → X
changed f k x t = if t == k then x else f t

module _ {X : Type 0} where
  pub changed_here : (f : ℕ → X) (k : ℕ) (x : X) → changed f k x k ≡ x
  changed_here f k x = ap (λ b. if b then x else f k) (eq-eqb k k refl)

  pub changed_else : (f : ℕ → X) (k : ℕ) (x : X) (t : ℕ) → t ≢ k → changed f k x t ≡ f t
  changed_else f k x t n = ap (λ b. if b then x else f t) (ne_eqb t k n)

pub some_same : (a b : ℕ) → Some a ≡ Some b → a ≡ b
some_same a b e = ap (λ (x : Option ℕ). value_of x) e where
  value_of : Option ℕ → ℕ
  value_of None = a
  value_of (Some x) = x

pub some_none : {X : Type 0} (a : X) (R : Type 0) → Some a ≡ None → R
some_none {X} a R e = absurd (subst is_there e tt) where
  is_there : Option X → Type 0
  is_there None = ⊥
  is_there (Some x) = Unit {0}

pub some_is : {X : Type 0} (a b : X) → Some a ≡ Some b → a ≡ b
some_is {X} a b e = ap (λ (x : Option X). value_of x) e where
  value_of : Option X → X
  value_of None = a
  value_of (Some x) = x

-- a ticket is this number or it isn't
pub decide : (x : Option ℕ) (n : ℕ) (R : Type 0) → (x ≡ Some n → R) → (x ≢ Some n → R) → R
decide None n R is isnt = isnt (λ e. some_none n ⊥ (sym e))
decide (Some m) n R is isnt = dite (ℕ_discrete m n) (λ e. is (ap Some e)) (λ ne. isnt (λ e. ne (some_same m n e)))

module _ {A T : Type 0} where
  pub starts_all : (log : List (Entry A T)) → StartsWith log log
  starts_all log = ([], sym (append-nil log))

  pub starts_more : (log seen : List (Entry A T)) (e : Entry A T) → StartsWith log seen → StartsWith (log ++ e ∷ []) seen
  starts_more log seen e s = (s.0 ++ e ∷ [], ap (λ l. l ++ e ∷ []) s.1 ∙ append_assoc seen s.0 (e ∷ []))

  pub calls_more : (log : List (Entry A T)) (e : Entry A T) → calls_by e.by (log ++ e ∷ []) ≡ calls_by e.by log ++ e ∷ []
  calls_more log e = filter-append (λ x. x.by == e.by) log (e ∷ []) ∙ ap (λ b. calls_by e.by log ++ (if b then e ∷ [] else [])) (eq-eqb e.by e.by refl)

  pub calls_same : (log : List (Entry A T)) (e : Entry A T) (by : ℕ) → e.by ≢ by → calls_by by (log ++ e ∷ []) ≡ calls_by by log
  calls_same log e by n = filter-append (λ x. x.by == by) log (e ∷ []) ∙ ap (λ b. calls_by by log ++ (if b then e ∷ [] else [])) (ne_eqb e.by by n) ∙ append-nil (calls_by by log)

module _ {A T O : Type 0} where
  pub fits_set : (o : O) (p q : Account A T) (views : List (View A T O)) (id : ℕ) (w : View A T O) → Fits o q id w
      → ((j : ℕ) (u : View A T O) → j ≢ id → get_elem? views j ≡ rules.some u → Fits o q j u)
      → (j : ℕ) (u : View A T O) → get_elem? (set views id w) j ≡ rules.some u → Fits o q j u
  fits_set o p q views id w own others j u at = elim (at_set views id j w u at) [
    | inl here ↦ subst (λ i. Fits o q i u) (sym here.0) (subst (λ (x : View A T O). Fits o q id x) here.1 own)
    | inr other ↦ others j u other.0 other.1
  ]

  pub counts_set : (most : ℕ) (p q : Account A T) (views : List (View A T O)) (id : ℕ) (v w : View A T O) → get_elem? views id ≡ rules.some v → Counts most p views
      → w.parts ≡ v.parts
      → length q.log + weigh v ≡ length p.log + weigh w
      → one_if q.out + one_if v.holds ≡ one_if p.out + one_if w.holds
      → q.drawn + w.left ≤ p.drawn + v.left
      → length q.log + w.fresh + p.drawn ≤ length p.log + v.fresh + q.drawn
      → Counts most q (set views id w)
  counts_set most p q views id v w at c parts entries busy left fresh =
      let t1 = total_set (λ (x : View A T O). x.parts) views id v w at in
      let t2 = total_set (λ (x : View A T O). weigh x) views id v w at in
      let t3 = total_set (λ (x : View A T O). one_if x.holds) views id v w at in
      let t4 = total_set (λ (x : View A T O). x.left) views id v w at in
      let t5 = total_set (λ (x : View A T O). x.fresh) views id v w at in
      record {
        parts = omega (arith, t1, parts, c.parts);
        entries = omega (arith, t2, entries, c.entries);
        busy = omega (arith, t3, busy, c.busy);
        left = omega (arith, t4, left, c.left);
        fresh = omega (arith, t5, fresh, c.fresh);
      }
