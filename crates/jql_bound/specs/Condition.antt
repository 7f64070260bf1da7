-- What a condition says, without where it lies in memory.
use Rattle.std.specs.Prelude.{List, [], ◌∷◌, map}
use Rattle.jql_bound.specs.declared.leaf.Leaf.{Leaf}
use Rattle.jql_bound.specs.declared.past.PastLeaf.{PastLeaf}
use Rattle.jql_bound.specs.declared.cond.Cond.{Cond, fold-Cond}
use Rattle.jql_bound.specs.declared.cond.Cond.TheOpen.{Cond-F}

mutual
  pub data Condition : Type 0 where
    now : Leaf → Condition
    past : PastLeaf → Condition
    all_of : Conditions → Condition
    any_of : Conditions → Condition

  pub data Conditions : Type 0 where
    no_conditions : Conditions
    condition : Condition → Conditions → Conditions

abbrev pub conditions_of : List Condition → Conditions
conditions_of [] = no_conditions
conditions_of (c ∷ cs) = condition c (conditions_of cs)

-- one level, with each condition inside already seen
abbrev pub view_step : Cond-F Condition → Condition
view_step (Cond-F.All v) = all_of (conditions_of v.items)
view_step (Cond-F.Any v) = any_of (conditions_of v.items)
view_step (Cond-F.Now l) = now l
view_step (Cond-F.Past l) = past l

abbrev pub view : Cond → Condition
view = fold-Cond Condition view_step

abbrev pub views : List Cond → Conditions
views cs = conditions_of (map view cs)
