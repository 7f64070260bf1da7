-- What conditions in memory say.
use Rattle.std.specs.Prelude.{List, [], ◌∷◌, map, Option, option_map, Box}
use Rattle.std.specs.Global.{Global}
use Rattle.jql_syntax.specs.Tree.{Tree, single, negation, all_of, any_of, Trees, no_trees, tree}
use Rattle.jql_syntax.specs.Node.{Node, condition}
use Rattle.jql_syntax.specs.declared.query.Expr.{Expr, fold-Expr}
use Rattle.jql_syntax.specs.declared.query.Expr.TheOpen.{Expr-F}

abbrev pub trees_of : List Tree → Trees
trees_of [] = no_trees
trees_of (x ∷ xs) = tree x (trees_of xs)

-- one level, with each condition inside already seen
abbrev pub view_step : Expr-F Tree → Tree
view_step (Expr-F.Leaf l) = single l
view_step (Expr-F.Not b) = negation b.value
view_step (Expr-F.All v) = all_of (trees_of v.items)
view_step (Expr-F.Any v) = any_of (trees_of v.items)

abbrev pub view : Expr → Tree
view = fold-Expr Tree view_step

-- the condition in its box, where there is one
abbrev pub unboxed : Option (Box Expr Global) → Option Expr
unboxed x = option_map (λ b. b.value) x

abbrev pub views : List Expr → Trees
views xs = trees_of (map view xs)

-- the part of a query that a condition is
abbrev pub node : Expr → Node
node x = condition (view x)
