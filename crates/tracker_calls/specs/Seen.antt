-- Names kept by their small letters.
use Rattle.std.specs.Prelude.{ℕ, List, Bool, false, not, String, Option, Some, None, option_map}
use Rattle.std.specs.Borrow.{Bor}
use Rattle.std.specs.declared.alloc.Global.{Global}
use Rattle.std.specs.BTreeMap.{BTreeMap, get_by_text}
use Rattle.std.specs.Str.{bytes_eq, str_to_ascii_lowercase}

-- the kept name of the same letters, ASCII case ignored
abbrev pub seen_by : BTreeMap (String Global) (Bor (List ℕ)) → List ℕ → Option (List ℕ)
seen_by seen name = option_map (λ n. n.now) (get_by_text seen (str_to_ascii_lowercase name))

-- there is one, and it isn't the name
abbrev pub is_other : Option (List ℕ) → List ℕ → Bool
is_other None name = false
is_other (Some before) name = not (bytes_eq name before)
