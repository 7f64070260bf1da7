-- Counting the items of an array, and the tables of an array.
use Rattle.std.proofs.Common.{◌≡◌, List, [], ◌∷◌, length, refl, arith}
use Rattle.toml.specs.View.{items_view}
use Rattle.toml.specs.declared.value.Value.{Value}
use Rattle.setup_drafts.specs.Written.{count}

pub count_items : (vs : List Value) → count (items_view vs) ≡ length vs
count_items [] = refl
count_items (v ∷ vs) = grind (arith, count_items vs)
