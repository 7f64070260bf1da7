-- Views of conditions and of lists of them.
use Rattle.std.proofs.Common.{◌≡◌, ◌<◌, List, [], ◌∷◌, length, map, refl, ap, sym, ◌∙◌, arith, Vec, Global, rules, Box}
use Rattle.jql_syntax.specs.Tree.{Tree, Trees, single, negation, all_of, any_of, tree}
use Rattle.jql_syntax.specs.Node.{condition, conditions_of, one_or, made, all, any}
use Rattle.jql_syntax.specs.View.{view, views, node}
use Rattle.jql_syntax.specs.declared.query.Leaf.{Leaf as LeafOf}
use Rattle.jql_syntax.specs.declared.query.Expr.{Expr, All, Any, Not, Leaf, the_lemmas}

pub one_or_many : (f : Trees → Tree) (xs : List Expr) → 1 < length xs → one_or f (views xs) ≡ f (views xs)
one_or_many f [] h = absurd (omega arith)
one_or_many f (x ∷ []) h = absurd (omega arith)
one_or_many f (x ∷ y ∷ xs) h = refl

pub conditions_back : (xs : List Expr) → conditions_of (map node xs) ≡ views xs
conditions_back [] = refl
conditions_back (x ∷ xs) = ap (tree (view x)) (conditions_back xs)

pub view-All : (v : Vec Expr Global) → view (All v) ≡ all_of (views v.items)
view-All v = search (rules, the_lemmas)

pub view-Any : (v : Vec Expr Global) → view (Any v) ≡ any_of (views v.items)
view-Any v = search (rules, the_lemmas)

pub view-Leaf : (l : LeafOf) → view (Leaf l) ≡ single l
view-Leaf l = search (rules, the_lemmas)

pub view-Not : (b : Box Expr Global) → view (Not b) ≡ negation (view b.value)
view-Not b = search (rules, the_lemmas)

-- what the parts of a conjunction, and of a condition, make
pub all_made : (xs : List Expr) (x : Expr) → view x ≡ one_or all_of (views xs) → made all (map node xs) ≡ node x ∷ []
all_made xs x e = ap (λ v. condition (one_or all_of v) ∷ []) (conditions_back xs) ∙ ap (λ v. condition v ∷ []) (sym e)

pub any_made : (xs : List Expr) (x : Expr) → view x ≡ one_or any_of (views xs) → made any (map node xs) ≡ node x ∷ []
any_made xs x e = ap (λ v. condition (one_or any_of v) ∷ []) (conditions_back xs) ∙ ap (λ v. condition v ∷ []) (sym e)
