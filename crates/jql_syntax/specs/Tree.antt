-- What a condition says, without where it lies in memory.
use Rattle.jql_syntax.specs.declared.query.Leaf.{Leaf}

mutual
  pub data Tree : Type 0 where
    single : Leaf → Tree
    negation : Tree → Tree
    all_of : Trees → Tree
    any_of : Trees → Tree

  pub data Trees : Type 0 where
    no_trees : Trees
    tree : Tree → Trees → Trees

abbrev pub append : Trees → Trees → Trees
append no_trees ys = ys
append (tree x xs) ys = tree x (append xs ys)
