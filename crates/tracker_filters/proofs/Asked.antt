-- Whether a condition in memory asks for members, by its kind.
use Rattle.std.proofs.Common.{◌≡◌, ℕ, ◌+◌, ◌<◌, ◌≤◌, Bool, true, false, ◌||◌, List, [], ◌∷◌, length, take, get_or, refl, sym, ◌∙◌, ap}
use Rattle.std.specs.List.{list_any}
use Rattle.std.proofs.lemmas.Bool.{or_from}
use Rattle.std.proofs.lemmas.List.{take_all}
use Rattle.std.proofs.lemmas.List.Folds.{list_any_at, list_any_more}
use Rattle.jql_bound.specs.declared.cond.Cond.{Cond}
use Rattle.jql_bound.specs.declared.leaf.Leaf.{Leaf}
use Rattle.jql_bound.specs.declared.past.PastLeaf.{PastLeaf}
use Rattle.jql_bound.specs.Condition.{Conditions, now, past, all_of, any_of, view, views}
use Rattle.tracker_filters.specs.Members.{operator_asks, past_asks, condition_asks, one_asks}

pub all_asks : (cs : Conditions) → one_asks cs ≡ condition_asks (all_of cs)
unfolding condition_asks
all_asks cs = refl

pub any_asks : (cs : Conditions) → one_asks cs ≡ condition_asks (any_of cs)
unfolding condition_asks
any_asks cs = refl

pub now_asks : (leaf : Leaf) → operator_asks leaf.operator ≡ condition_asks (now leaf)
unfolding condition_asks
now_asks leaf = refl

pub past_is_asked : (leaf : PastLeaf) → past_asks leaf ≡ condition_asks (past leaf)
unfolding condition_asks
past_is_asked leaf = refl

-- ---- one of several

abbrev pub asks : Cond → Bool
asks cond = condition_asks (view cond)

-- one of several conditions asks for members where one in the list of them does
listed : (conds : List Cond) → one_asks (views conds) ≡ list_any asks conds
unfolding condition_asks
listed [] = refl
listed (c ∷ cs) = λ i. condition_asks (view c) || listed cs i

pub one_of_them : (conds : List Cond) (k : ℕ) (cond : Cond) → k < length conds → cond ≡ get_or conds k cond → asks cond ≡ true → true ≡ one_asks (views conds)
one_of_them conds k cond inside is so = sym (listed conds ∙ list_any_at asks conds k cond inside (ap asks (sym is) ∙ so))

pub none_of_more : (conds : List Cond) (k : ℕ) (cond : Cond) → k < length conds → cond ≡ get_or conds k cond → asks cond ≡ false → list_any asks (take k conds) ≡ false → list_any asks (take (k + 1) conds) ≡ false
none_of_more conds k cond inside is so before = list_any_more asks conds k cond inside ∙ or_from (list_any asks (take k conds)) (asks (get_or conds k cond)) before (ap asks (sym is) ∙ so)

pub none_of_them : (conds : List Cond) (k : ℕ) → length conds ≤ k → list_any asks (take k conds) ≡ false → false ≡ one_asks (views conds)
none_of_them conds k all none = sym (listed conds ∙ ap (list_any asks) (sym (take_all k conds all)) ∙ none)
