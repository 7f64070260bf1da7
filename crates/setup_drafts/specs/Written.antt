-- What TOML data says: texts, lists of texts, tables.
use Rattle.std.specs.Prelude.{ℕ, List, [], ◌∷◌, Bool, false, Option, Some, option_map, option_and_then, nat_lt, ◌+◌}
use Rattle.toml.specs.Data.{Data, array, Items, no_items, item, Members, as_str, as_array, as_table}

-- the texts of items that are all texts
abbrev pub all_texts : Items → Option (List (List ℕ))
all_texts no_items = Some []
all_texts (item d ds) =
    option_and_then (λ s. option_map (λ rest. s ∷ rest) (all_texts ds)) (as_str d)

-- the texts of an array of texts
abbrev pub texts_of : Data → Option (List (List ℕ))
texts_of d = option_and_then all_texts (as_array d)

-- the tables of items that are all tables
abbrev pub all_tables : Items → Option (List Members)
all_tables no_items = Some []
all_tables (item d ds) =
    option_and_then (λ ms. option_map (λ rest. ms ∷ rest) (all_tables ds)) (as_table d)

-- the tables of an array of tables
abbrev pub tables_of : Data → Option (List Members)
tables_of d = option_and_then all_tables (as_array d)

-- how many items there are
abbrev pub count : Items → ℕ
count no_items = 0
count (item d ds) = count ds + 1

-- an array of fewer items than that
abbrev pub has_fewer_than : ℕ → Data → Bool
has_fewer_than n (array ds) = nat_lt (count ds) n
has_fewer_than n _ = false
