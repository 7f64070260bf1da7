-- The first test at fault.
use Rattle.std.proofs.Common.{◌≡◌, ℕ, ◌+◌, List, [], ◌∷◌, ◌++◌, length, Option, Some, None, Result, Ok, Err, refl, ap, sym, ◌∙◌, arith, length-append}
use Rattle.std.specs.Option.{option_or}
use Rattle.jql_syntax.specs.Tree.{Tree, single, negation, all_of, any_of, Trees, no_trees, tree}
use Rattle.jql_syntax.specs.declared.query.Leaf.{Leaf}
use Rattle.jql_bound.specs.Condition.{all_of as all_hold, any_of as any_holds, condition}
use Rattle.jql_bound.specs.Negation.{negation as negated}
use Rattle.jql_grammar.specs.Scope.{Scope}
use Rattle.jql_grammar.specs.Steps.{made, made_of_both}
use Rattle.jql_grammar.specs.Leaves.{leaf_in}
use Rattle.jql_grammar.specs.Conditions.{PlacedFault, placed, tests, tests_in, condition_in, conditions_in}
use Rattle.jql_grammar.specs.First.{leaves, leaves_in, fault_of, first_at_fault, TellsTheFirst}

fault_made : {A B : Type 0} (f : A → B) (r : Result A PlacedFault) → fault_of (made f r) ≡ fault_of r
fault_made f (Ok x) = refl
fault_made f (Err fault) = refl

fault_of_both : {A B C : Type 0} (f : A → B → C) (r : Result A PlacedFault) (s : Result B PlacedFault) → fault_of (made_of_both f r s) ≡ option_or (fault_of r) (fault_of s)
fault_of_both f (Err fault) s = refl
fault_of_both f (Ok x) (Err fault) = refl
fault_of_both f (Ok x) (Ok y) = refl

or_none : {A : Type 0} (o : Option A) → option_or o None ≡ o
or_none None = refl
or_none (Some x) = refl

or_assoc : {A : Type 0} (o p q : Option A) → option_or (option_or o p) q ≡ option_or o (option_or p q)
or_assoc None p q = refl
or_assoc (Some x) p q = refl

first_append : (scope : Scope) (n : ℕ) (front rest : List Leaf) → first_at_fault scope n (front ++ rest) ≡ option_or (first_at_fault scope n front) (first_at_fault scope (n + length front) rest)
first_append scope n [] rest = let e : n ≡ n + 0 = omega arith in ap (λ k. first_at_fault scope k rest) e
first_append scope n (leaf ∷ front) rest =
    let e : n + 1 + length front ≡ n + length (leaf ∷ front) = omega arith in
    ap (option_or (fault_of (placed n (leaf_in scope leaf)))) (first_append scope (n + 1) front rest)
    ∙ sym (or_assoc (fault_of (placed n (leaf_in scope leaf))) (first_at_fault scope (n + 1) front) (first_at_fault scope (n + 1 + length front) rest))
    ∙ ap (λ k. option_or (first_at_fault scope n (leaf ∷ front)) (first_at_fault scope k rest)) e

mutual
  length_leaves : (q : Tree) → length (leaves q) ≡ tests q
  length_leaves (single leaf) = refl
  length_leaves (negation q) = length_leaves q
  length_leaves (all_of qs) = length_leaves_in qs
  length_leaves (any_of qs) = length_leaves_in qs

  length_leaves_in : (qs : Trees) → length (leaves_in qs) ≡ tests_in qs
  length_leaves_in no_trees = refl
  length_leaves_in (tree q qs) = length-append (leaves q) (leaves_in qs) ∙ (let e = length_leaves q in let f = length_leaves_in qs in cc)

mutual
  first_told : (scope : Scope) (n : ℕ) (q : Tree) → fault_of (condition_in scope n q) ≡ first_at_fault scope n (leaves q)
  first_told scope n (single leaf) = sym (or_none (fault_of (placed n (leaf_in scope leaf))))
  first_told scope n (negation q) = fault_made negated (condition_in scope n q) ∙ first_told scope n q
  first_told scope n (all_of qs) = fault_made all_hold (conditions_in scope n qs) ∙ each_told scope n qs
  first_told scope n (any_of qs) = fault_made any_holds (conditions_in scope n qs) ∙ each_told scope n qs

  each_told : (scope : Scope) (n : ℕ) (qs : Trees) → fault_of (conditions_in scope n qs) ≡ first_at_fault scope n (leaves_in qs)
  each_told scope n no_trees = refl
  each_told scope n (tree q qs) =
      let e : n + tests q ≡ n + length (leaves q) = ap (λ k. n + k) (sym (length_leaves q)) in
      fault_of_both condition (condition_in scope n q) (conditions_in scope (n + tests q) qs)
      ∙ ap (λ o. option_or o (fault_of (conditions_in scope (n + tests q) qs))) (first_told scope n q)
      ∙ ap (λ k. option_or (first_at_fault scope n (leaves q)) (fault_of (conditions_in scope k qs))) e
      ∙ ap (option_or (first_at_fault scope n (leaves q))) (each_told scope (n + length (leaves q)) qs)
      ∙ sym (first_append scope n (leaves q) (leaves_in qs))

pub tells_the_first : TellsTheFirst
tells_the_first scope q = first_told scope 0 q
