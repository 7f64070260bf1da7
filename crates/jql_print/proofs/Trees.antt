-- Conditions and queries read again as they are spelled.
use Rattle.std.proofs.Common.{◌≡◌, ℕ, zero, suc, ◌≤◌, arith, List, [], ◌∷◌, Option, Some, None, refl, ap, sym, ◌∙◌}
use Rattle.jql_syntax.specs.Tree.{Tree, single, negation, all_of, any_of, Trees, no_trees, tree}
use Rattle.jql_syntax.specs.Node.{Node, condition, conditions_of, one_or, made, negated, all, any}
use Rattle.jql_syntax.specs.Form.{nothing, both, either, many, unit}
use Rattle.jql_syntax.specs.Grammar.{key, leaf, unit_form, conjunction, expression}
use Rattle.jql_syntax.specs.Reads.{Is, is_nothing, is_both, is_first, is_second, is_none, is_more, is_rule, is_unit}
use Rattle.jql_syntax.specs.declared.token.Mark.TheVariants.{Open, Close, And, Or, Not}
use Rattle.jql_syntax.specs.declared.token.Token.{Token}
use Rattle.jql_syntax.specs.declared.token.Token.TheVariants.{Marked}
use Rattle.jql_syntax.specs.Reader.{condition_parts}
use Rattle.jql_print.specs.Print.{unit_text, conjunction_text, units_text, more_units_text, conjunctions_text, more_conjunctions_text, expression_text, condition_text, leaf_text}
use Rattle.jql_print.specs.Nesting.{nesting, expression_nesting, unit_nesting, conjunction_nesting, units_nesting, conjunctions_nesting}
use Rattle.jql_print.proofs.Spells.{AreGood}
use Rattle.jql_print.proofs.Round.{Again, again_key, again_nothing, again_both, again_first, again_second, again_rule, again_none, again_more, good_after, both_parts, rule_parts, key_parts}
use Rattle.jql_print.proofs.Parts.{leaf_back}

-- ---- conditions whose spelling may stand at a place

abbrev IsMany : Trees → Type 0
IsMany no_trees = ⊥
IsMany (tree x no_trees) = ⊥
IsMany (tree x (tree y ys)) = Unit {0}

abbrev mutual
  -- so many NOTs and parentheses may be opened
  FitsUnit : Tree → ℕ → Type 0
  FitsUnit (single l) n = Again leaf (leaf_text l) (condition (single l) ∷ [])
  FitsUnit (negation x) zero = ⊥
  FitsUnit (negation x) (suc n) = FitsUnit x n
  FitsUnit (all_of xs) zero = ⊥
  FitsUnit (all_of xs) (suc n) = IsMany xs × FitUnits xs n
  FitsUnit (any_of xs) zero = ⊥
  FitsUnit (any_of xs) (suc n) = IsMany xs × FitConjunctions xs n

  FitsConjunction : Tree → ℕ → Type 0
  FitsConjunction (single l) n = Again leaf (leaf_text l) (condition (single l) ∷ [])
  FitsConjunction (negation x) zero = ⊥
  FitsConjunction (negation x) (suc n) = FitsUnit x n
  FitsConjunction (all_of xs) n = IsMany xs × FitUnits xs n
  FitsConjunction (any_of xs) zero = ⊥
  FitsConjunction (any_of xs) (suc n) = IsMany xs × FitConjunctions xs n

  FitUnits : Trees → ℕ → Type 0
  FitUnits no_trees n = Unit {0}
  FitUnits (tree x xs) n = FitsUnit x n × FitUnits xs n

  FitConjunctions : Trees → ℕ → Type 0
  FitConjunctions no_trees n = Unit {0}
  FitConjunctions (tree x xs) n = FitsConjunction x n × FitConjunctions xs n

abbrev FitsExpression : Tree → ℕ → Type 0
FitsExpression (any_of xs) n = IsMany xs × FitConjunctions xs n
FitsExpression x n = FitsConjunction x n

-- what fits at a place fits where more may be opened
mutual
  unit_more : (x : Tree) (n : ℕ) → FitsUnit x n → FitsUnit x (suc n)
  unit_more (single l) n f = f
  unit_more (negation x) zero f = absurd f
  unit_more (negation x) (suc n) f = unit_more x n f
  unit_more (all_of xs) zero f = absurd f
  unit_more (all_of xs) (suc n) f = (f.0, units_more xs n f.1)
  unit_more (any_of xs) zero f = absurd f
  unit_more (any_of xs) (suc n) f = (f.0, conjunctions_more xs n f.1)

  conjunction_more : (x : Tree) (n : ℕ) → FitsConjunction x n → FitsConjunction x (suc n)
  conjunction_more (single l) n f = f
  conjunction_more (negation x) zero f = absurd f
  conjunction_more (negation x) (suc n) f = unit_more x n f
  conjunction_more (all_of xs) n f = (f.0, units_more xs n f.1)
  conjunction_more (any_of xs) zero f = absurd f
  conjunction_more (any_of xs) (suc n) f = (f.0, conjunctions_more xs n f.1)

  units_more : (xs : Trees) (n : ℕ) → FitUnits xs n → FitUnits xs (suc n)
  units_more no_trees n f = f
  units_more (tree x xs) n f = (unit_more x n f.0, units_more xs n f.1)

  conjunctions_more : (xs : Trees) (n : ℕ) → FitConjunctions xs n → FitConjunctions xs (suc n)
  conjunctions_more no_trees n f = f
  conjunctions_more (tree x xs) n f = (conjunction_more x n f.0, conjunctions_more xs n f.1)

unit_as_conjunction : (x : Tree) (n : ℕ) → FitsUnit x n → FitsConjunction x n
unit_as_conjunction (single l) n f = f
unit_as_conjunction (negation x) zero f = absurd f
unit_as_conjunction (negation x) (suc n) f = f
unit_as_conjunction (all_of xs) zero f = absurd f
unit_as_conjunction (all_of xs) (suc n) f = (f.0, units_more xs n f.1)
unit_as_conjunction (any_of xs) zero f = absurd f
unit_as_conjunction (any_of xs) (suc n) f = f

conjunction_as_expression : (x : Tree) (n : ℕ) → FitsConjunction x n → FitsExpression x n
conjunction_as_expression (single l) n f = f
conjunction_as_expression (negation x) n f = f
conjunction_as_expression (all_of xs) n f = f
conjunction_as_expression (any_of xs) zero f = absurd f
conjunction_as_expression (any_of xs) (suc n) f = (f.0, conjunctions_more xs n f.1)

expression_as_unit : (x : Tree) (n : ℕ) → FitsExpression x n → FitsUnit x (suc n)
expression_as_unit (single l) n f = f
expression_as_unit (negation x) zero f = absurd f
expression_as_unit (negation x) (suc n) f = unit_more x n f
expression_as_unit (all_of xs) n f = f
expression_as_unit (any_of xs) n f = f

all_fit : (x : Tree) (xs : Trees) (n : ℕ) → FitsUnit x n → FitUnits xs n → FitsConjunction (one_or all_of (tree x xs)) n
all_fit x no_trees n f g = unit_as_conjunction x n f
all_fit x (tree y ys) n f g = (tt, (f, g))

any_fit : (x : Tree) (xs : Trees) (n : ℕ) → FitsConjunction x n → FitConjunctions xs n → FitsExpression (one_or any_of (tree x xs)) n
any_fit x no_trees n f g = conjunction_as_expression x n f
any_fit x (tree y ys) n f g = (tt, (f, g))

-- ---- what was read fits

-- the parts that conditions are
abbrev nodes : Trees → List Node
nodes no_trees = []
nodes (tree x xs) = condition x ∷ nodes xs

nodes_back : (xs : Trees) → conditions_of (nodes xs) ≡ xs
nodes_back no_trees = refl
nodes_back (tree x xs) = ap (tree x) (nodes_back xs)

record OneFits (fits : Tree → ℕ → Type 0) (n : ℕ) (xs : List Node) : Type 0 where
  part : Tree
  parts : xs ≡ condition part ∷ []
  does : fits part n

record AllFit (fit : Trees → ℕ → Type 0) (n : ℕ) (xs : List Node) : Type 0 where
  items : Trees
  parts : xs ≡ nodes items
  fit_all : fit items n

all_made : (x : Tree) (xs : Trees) → made all (condition x ∷ nodes xs) ≡ condition (one_or all_of (tree x xs)) ∷ []
all_made x xs = ap (λ v. condition (one_or all_of (tree x v)) ∷ []) (nodes_back xs)

any_made : (x : Tree) (xs : Trees) → made any (condition x ∷ nodes xs) ≡ condition (one_or any_of (tree x xs)) ∷ []
any_made x xs = ap (λ v. condition (one_or any_of (tree x v)) ∷ []) (nodes_back xs)

mutual
  unit_fits : {n : ℕ} {ts rest : List Token} {xs : List Node} → Is (unit n) ts rest xs → AreGood ts → OneFits FitsUnit n xs
  unit_fits (is_unit {n = zero} r) g = let b = leaf_back r g in record { part = single b.part; parts = b.parts; does = b.again }
  unit_fits (is_unit {n = suc n} (is_first (is_rule (is_both k r d) e))) g =
      let b = unit_fits r (good_after k g) in
      record { part = negation b.part; parts = rule_parts negated e (both_parts d (key_parts k) b.parts); does = b.does }
  unit_fits (is_unit {n = suc n} (is_second (is_first (is_both k (is_both r l d) e)))) g =
      let b = expression_fits r (good_after k g) in
      record { part = b.part; parts = both_parts e (key_parts k) (both_parts d b.parts (key_parts l)); does = expression_as_unit b.part n b.does }
  unit_fits (is_unit {n = suc n} (is_second (is_second r))) g = let b = leaf_back r g in record { part = single b.part; parts = b.parts; does = b.again }

  units_fit : {n : ℕ} {ts rest : List Token} {xs : List Node} → Is (many (both (key And) (unit n))) ts rest xs → AreGood ts → AllFit FitUnits n xs
  units_fit is_none g = record { items = no_trees; parts = refl; fit_all = tt }
  units_fit (is_more (is_both k r d) s e) g =
      let gk = good_after k g in
      let b = unit_fits r gk in
      let c = units_fit s (good_after r gk) in
      record { items = tree b.part c.items; parts = both_parts e (both_parts d (key_parts k) b.parts) c.parts; fit_all = (b.does, c.fit_all) }

  conjunction_fits : {n : ℕ} {ts rest : List Token} {xs : List Node} → Is (conjunction n) ts rest xs → AreGood ts → OneFits FitsConjunction n xs
  conjunction_fits {n = n} (is_rule (is_both r s d) e) g =
      let b = unit_fits r g in
      let c = units_fit s (good_after r g) in
      record { part = one_or all_of (tree b.part c.items); parts = rule_parts all e (both_parts d b.parts c.parts) ∙ all_made b.part c.items; does = all_fit b.part c.items n b.does c.fit_all }

  conjunctions_fit : {n : ℕ} {ts rest : List Token} {xs : List Node} → Is (many (both (key Or) (conjunction n))) ts rest xs → AreGood ts → AllFit FitConjunctions n xs
  conjunctions_fit is_none g = record { items = no_trees; parts = refl; fit_all = tt }
  conjunctions_fit (is_more (is_both k r d) s e) g =
      let gk = good_after k g in
      let b = conjunction_fits r gk in
      let c = conjunctions_fit s (good_after r gk) in
      record { items = tree b.part c.items; parts = both_parts e (both_parts d (key_parts k) b.parts) c.parts; fit_all = (b.does, c.fit_all) }

  expression_fits : {n : ℕ} {ts rest : List Token} {xs : List Node} → Is (expression n) ts rest xs → AreGood ts → OneFits FitsExpression n xs
  expression_fits {n = n} (is_rule (is_both r s d) e) g =
      let b = conjunction_fits r g in
      let c = conjunctions_fit s (good_after r g) in
      record { part = one_or any_of (tree b.part c.items); parts = rule_parts any e (both_parts d b.parts c.parts) ∙ any_made b.part c.items; does = any_fit b.part c.items n b.does c.fit_all }

-- ---- what fits reads again

as_unit : {m : ℕ} {p : List Token → List Token} {xs : List Node} → Again (unit_form m) p xs → Again (unit m) p xs
as_unit a = record { reads = λ rest. is_unit (a.reads rest); spells = a.spells }

leaf_unit : {p : List Token → List Token} {xs : List Node} (n : ℕ) → Again leaf p xs → Again (unit n) p xs
leaf_unit zero a = as_unit a
leaf_unit (suc n) a = as_unit (again_second _ (again_second _ a))

not_unit : {x : Tree} (n : ℕ) → Again (unit n) (unit_text x) (condition x ∷ []) → Again (unit (suc n)) (λ rest. Marked Not ∷ unit_text x rest) (condition (negation x) ∷ [])
not_unit n a = as_unit (again_first _ (again_rule negated (again_both (again_key Not) a) refl))

group_unit : {p : List Token → List Token} {x : Tree} (n : ℕ) → Again (expression n) p (condition x ∷ []) → Again (unit (suc n)) (λ rest. Marked Open ∷ p (Marked Close ∷ rest)) (condition x ∷ [])
group_unit n a = as_unit (again_second _ (again_first _ (again_both (again_key Open) (again_both a (again_key Close)))))

alone_conjunction : {p : List Token → List Token} {x : Tree} (n : ℕ) → Again (unit n) p (condition x ∷ []) → Again (conjunction n) p (condition x ∷ [])
alone_conjunction n a = again_rule all (again_both a again_none) refl

alone_expression : {p : List Token → List Token} {x : Tree} (n : ℕ) → Again (conjunction n) p (condition x ∷ []) → Again (expression n) p (condition x ∷ [])
alone_expression n a = again_rule any (again_both a again_none) refl

mutual
  unit_again : (x : Tree) (n : ℕ) → FitsUnit x n → Again (unit n) (unit_text x) (condition x ∷ [])
  unit_again (single l) n f = leaf_unit n f
  unit_again (negation x) zero f = absurd f
  unit_again (negation x) (suc n) f = not_unit n (unit_again x n f)
  unit_again (all_of xs) zero f = absurd f
  unit_again (all_of xs) (suc n) f = group_unit n (alone_expression n (units_again xs n f.0 f.1))
  unit_again (any_of xs) zero f = absurd f
  unit_again (any_of xs) (suc n) f = group_unit n (conjunctions_again xs n f.0 f.1)

  conjunction_again : (x : Tree) (n : ℕ) → FitsConjunction x n → Again (conjunction n) (conjunction_text x) (condition x ∷ [])
  conjunction_again (single l) n f = alone_conjunction n (leaf_unit n f)
  conjunction_again (negation x) zero f = absurd f
  conjunction_again (negation x) (suc n) f = alone_conjunction (suc n) (not_unit n (unit_again x n f))
  conjunction_again (all_of xs) n f = units_again xs n f.0 f.1
  conjunction_again (any_of xs) zero f = absurd f
  conjunction_again (any_of xs) (suc n) f = alone_conjunction (suc n) (group_unit n (conjunctions_again xs n f.0 f.1))

  units_again : (xs : Trees) (n : ℕ) → IsMany xs → FitUnits xs n → Again (conjunction n) (units_text xs) (condition (all_of xs) ∷ [])
  units_again no_trees n m f = absurd m
  units_again (tree x no_trees) n m f = absurd m
  units_again (tree x (tree y ys)) n m f = again_rule all (again_both (unit_again x n f.0) (more_units_again (tree y ys) n f.1)) (sym (all_made x (tree y ys)))

  more_units_again : (xs : Trees) (n : ℕ) → FitUnits xs n → Again (many (both (key And) (unit n))) (more_units_text xs) (nodes xs)
  more_units_again no_trees n f = again_none
  more_units_again (tree x xs) n f = again_more (again_both (again_key And) (unit_again x n f.0)) (more_units_again xs n f.1)

  conjunctions_again : (xs : Trees) (n : ℕ) → IsMany xs → FitConjunctions xs n → Again (expression n) (conjunctions_text xs) (condition (any_of xs) ∷ [])
  conjunctions_again no_trees n m f = absurd m
  conjunctions_again (tree x no_trees) n m f = absurd m
  conjunctions_again (tree x (tree y ys)) n m f = again_rule any (again_both (conjunction_again x n f.0) (more_conjunctions_again (tree y ys) n f.1)) (sym (any_made x (tree y ys)))

  more_conjunctions_again : (xs : Trees) (n : ℕ) → FitConjunctions xs n → Again (many (both (key Or) (conjunction n))) (more_conjunctions_text xs) (nodes xs)
  more_conjunctions_again no_trees n f = again_none
  more_conjunctions_again (tree x xs) n f = again_more (again_both (again_key Or) (conjunction_again x n f.0)) (more_conjunctions_again xs n f.1)

expression_again : (x : Tree) (n : ℕ) → FitsExpression x n → Again (expression n) (expression_text x) (condition x ∷ [])
expression_again (any_of xs) n f = conjunctions_again xs n f.0 f.1
expression_again (single l) n f = alone_expression n (conjunction_again (single l) n f)
expression_again (negation x) n f = alone_expression n (conjunction_again (negation x) n f)
expression_again (all_of xs) n f = alone_expression n (conjunction_again (all_of xs) n f)

-- ---- what fits nests no deeper than may be opened

mutual
  unit_nests : (x : Tree) (n : ℕ) → FitsUnit x n → unit_nesting x ≤ n
  unit_nests (single l) n f = omega arith
  unit_nests (negation x) zero f = absurd f
  unit_nests (negation x) (suc n) f = omega (arith, unit_nests x n f)
  unit_nests (all_of xs) zero f = absurd f
  unit_nests (all_of xs) (suc n) f = omega (arith, units_nest xs n f.1)
  unit_nests (any_of xs) zero f = absurd f
  unit_nests (any_of xs) (suc n) f = omega (arith, conjunctions_nest xs n f.1)

  conjunction_nests : (x : Tree) (n : ℕ) → FitsConjunction x n → conjunction_nesting x ≤ n
  conjunction_nests (single l) n f = omega arith
  conjunction_nests (negation x) zero f = absurd f
  conjunction_nests (negation x) (suc n) f = omega (arith, unit_nests x n f)
  conjunction_nests (all_of xs) n f = units_nest xs n f.1
  conjunction_nests (any_of xs) zero f = absurd f
  conjunction_nests (any_of xs) (suc n) f = omega (arith, conjunctions_nest xs n f.1)

  units_nest : (xs : Trees) (n : ℕ) → FitUnits xs n → units_nesting xs ≤ n
  units_nest no_trees n f = omega arith
  units_nest (tree x xs) n f = omega (arith, unit_nests x n f.0, units_nest xs n f.1)

  conjunctions_nest : (xs : Trees) (n : ℕ) → FitConjunctions xs n → conjunctions_nesting xs ≤ n
  conjunctions_nest no_trees n f = omega arith
  conjunctions_nest (tree x xs) n f = omega (arith, conjunction_nests x n f.0, conjunctions_nest xs n f.1)

expression_nests : (x : Tree) (n : ℕ) → FitsExpression x n → expression_nesting x ≤ n
expression_nests (any_of xs) n f = conjunctions_nest xs n f.1
expression_nests (single l) n f = conjunction_nests (single l) n f
expression_nests (negation x) n f = conjunction_nests (negation x) n f
expression_nests (all_of xs) n f = conjunction_nests (all_of xs) n f

-- the condition of a query, where it has one
pub record BackCondition (n : ℕ) (xs : List Node) : Type 0 where
  pub part : Option Tree
  pub parts : xs ≡ condition_parts part
  pub nests : nesting part ≤ n
  pub again : Again (either (expression n) nothing) (condition_text part) (condition_parts part)

pub condition_back : {n : ℕ} {ts rest : List Token} {xs : List Node} → Is (either (expression n) nothing) ts rest xs → AreGood ts → BackCondition n xs
condition_back {n = n} (is_first r) g = let b = expression_fits r g in record { part = Some b.part; parts = b.parts; nests = expression_nests b.part n b.does; again = again_first _ (expression_again b.part n b.does) }
condition_back (is_second is_nothing) g = record { part = None; parts = refl; nests = omega arith; again = again_second _ again_nothing }
