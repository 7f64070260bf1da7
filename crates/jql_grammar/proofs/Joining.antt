-- Conditions bound one after another.
use Rattle.std.proofs.Common.{◌≡◌, ℕ, ◌+◌, ◌<◌, ◌≤◌, List, [], ◌∷◌, ◌++◌, length, get_or, drop, Bool, Result, Ok, Err, refl, ap, sym, ◌∙◌}
use Rattle.std.proofs.lemmas.List.{at_drop_more, at_drop_all}
use Rattle.jql_syntax.specs.View.{view as tree_of, views as trees_of}
use Rattle.jql_syntax.specs.declared.query.Expr.{Expr}
use Rattle.jql_bound.specs.Condition.{Conditions, no_conditions, condition, view, views}
use Rattle.jql_bound.specs.declared.cond.Cond.{Cond}
use Rattle.jql_grammar.specs.declared.fault.BindFault.{BindFault}
use Rattle.jql_grammar.specs.declared.fault.BindFault.TheVariants.{Bad, Memory}
use Rattle.jql_grammar.specs.Scope.{Scope}
use Rattle.jql_grammar.specs.Steps.{made, made_of_both}
use Rattle.jql_grammar.specs.Conditions.{PlacedFault, tests, tests_in}
use Rattle.jql_grammar.specs.Asked.{condition_asked, conditions_asked}
use Rattle.jql_grammar.specs.Binding.{Tells}
use Rattle.jql_grammar.proofs.Denying.{each_asked, none_asked}

abbrev pub appended : Conditions → Conditions → Conditions
appended no_conditions ds = ds
appended (condition c cs) ds = condition c (appended cs ds)

-- what is done stands before what the rest gives
abbrev pub before : List Cond → Result Conditions PlacedFault → Result Conditions PlacedFault
before done r = made (λ cs. appended (views done) cs) r

pub before_none : (r : Result Conditions PlacedFault) → r ≡ before [] r
before_none (Ok cs) = refl
before_none (Err fault) = refl

appended_nothing : (cs : Conditions) → appended cs no_conditions ≡ cs
appended_nothing no_conditions = refl
appended_nothing (condition c cs) = ap (condition c) (appended_nothing cs)

appended_one : (done : List Cond) (c : Cond) (cs : Conditions) → appended (views done) (condition (view c) cs) ≡ appended (views (done ++ c ∷ [])) cs
appended_one [] c cs = refl
appended_one (d ∷ done) c cs = ap (condition (view d)) (appended_one done c cs)

one_more : (done : List Cond) (c : Cond) (r : Result Conditions PlacedFault) → before done (made_of_both condition (Ok (view c)) r) ≡ before (done ++ c ∷ []) r
one_more done c (Ok cs) = ap Ok (appended_one done c cs)
one_more done c (Err fault) = refl

-- the rest of the conditions, from a number on
abbrev pub rest_in : Scope → Bool → ℕ → List Expr → Result Conditions PlacedFault
rest_in scope denied n exprs = conditions_asked scope denied n (trees_of exprs)

rest_turn : (scope : Scope) (denied : Bool) (n : ℕ) (expr : Expr) (exprs : List Expr) →
    rest_in scope denied n (expr ∷ exprs) ≡ made_of_both condition (condition_asked scope denied n (tree_of expr)) (rest_in scope denied (n + tests (tree_of expr)) exprs)
rest_turn scope denied n expr exprs = each_asked scope n denied (tree_of expr) (trees_of exprs)

module _ (scope : Scope) (denied : Bool) (whole : Result Conditions PlacedFault) (done : List Cond) (n : ℕ) (exprs : List Expr) (i : ℕ) (expr : Expr) (inside : i < length exprs) (here : expr ≡ get_or exprs i expr) (so_far : whole ≡ before done (rest_in scope denied n (drop i exprs))) where
  next_is : whole ≡ before done (made_of_both condition (condition_asked scope denied n (tree_of expr)) (rest_in scope denied (n + tests (tree_of expr)) (drop (i + 1) exprs)))
  next_is =
      so_far
      ∙ ap (before done) (at_drop_more (rest_in scope denied n) exprs i expr inside)
      ∙ ap (λ e. before done (rest_in scope denied n (e ∷ drop (i + 1) exprs))) (sym here)
      ∙ ap (before done) (rest_turn scope denied n expr (drop (i + 1) exprs))

  pub goes_on : (c : Cond) (next : ℕ) → condition_asked scope denied n (tree_of expr) ≡ Ok (view c) → next ≡ n + tests (tree_of expr) →
      whole ≡ before (done ++ c ∷ []) (rest_in scope denied next (drop (i + 1) exprs))
  goes_on c next bound numbered =
      next_is
      ∙ ap (λ r. before done (made_of_both condition r (rest_in scope denied (n + tests (tree_of expr)) (drop (i + 1) exprs)))) bound
      ∙ one_more done c (rest_in scope denied (n + tests (tree_of expr)) (drop (i + 1) exprs))
      ∙ ap (λ k. before (done ++ c ∷ []) (rest_in scope denied k (drop (i + 1) exprs))) (sym numbered)

  pub stops : (fault : BindFault) → Tells (condition_asked scope denied n (tree_of expr)) fault → Tells whole fault
  stops Memory h = tt
  stops (Bad place number) (kind, is, told) =
      (kind, next_is ∙ ap (λ r. before done (made_of_both condition r (rest_in scope denied (n + tests (tree_of expr)) (drop (i + 1) exprs)))) is, told)

pub ends : (scope : Scope) (denied : Bool) (whole : Result Conditions PlacedFault) (done : List Cond) (n : ℕ) (exprs : List Expr) (i : ℕ) → length exprs ≤ i →
    whole ≡ before done (rest_in scope denied n (drop i exprs)) → whole ≡ Ok (views done)
ends scope denied whole done n exprs i past so_far = so_far ∙ ap (before done) (at_drop_all (rest_in scope denied n) exprs i past ∙ none_asked scope n denied) ∙ ap Ok (appended_nothing (views done))

-- ---- numbers

pub tests_turn : (exprs : List Expr) (i : ℕ) (expr : Expr) → i < length exprs → expr ≡ get_or exprs i expr →
    tests_in (trees_of (drop i exprs)) ≡ tests (tree_of expr) + tests_in (trees_of (drop (i + 1) exprs))
tests_turn exprs i expr inside here =
    at_drop_more (λ es. tests_in (trees_of es)) exprs i expr inside
    ∙ ap (λ e. tests (tree_of e) + tests_in (trees_of (drop (i + 1) exprs))) (sym here)

pub tests_end : (exprs : List Expr) (i : ℕ) → length exprs ≤ i → tests_in (trees_of (drop i exprs)) ≡ 0
tests_end exprs i past = at_drop_all (λ es. tests_in (trees_of es)) exprs i past
