-- Lists of texts as JSON arrays.
use Rattle.std.specs.Prelude.{ℕ, List, [], ◌∷◌, Option, Some, option_map, option_and_then, map}
use Rattle.serde_json.specs.Data.{Data, string, array, Items, no_items, item}
use Rattle.serde_json.specs.View.{items_of}
use Rattle.serde_json.specs.Find.{as_str, as_array}
use Rattle.serde_json.specs.Read.{read}
use Rattle.serde_json.specs.Written.{compact_text}

-- the texts of items that are all texts
abbrev pub all_texts : Items → Option (List (List ℕ))
all_texts no_items = Some []
all_texts (item d ds) =
    option_and_then (λ s. option_map (λ rest. s ∷ rest) (all_texts ds)) (as_str d)

abbrev pub texts_of : Data → Option (List (List ℕ))
texts_of d = option_and_then all_texts (as_array d)

-- the texts of a JSON array of texts
unfoldable pub texts_in : List ℕ → Option (List (List ℕ))
texts_in text = option_and_then texts_of (read text)

-- the texts as an array
abbrev pub texts_data : List (List ℕ) → Data
texts_data texts = array (items_of (map string texts))

-- the JSON array of these texts, without spaces
unfoldable pub array_text : List (List ℕ) → List ℕ
array_text texts = compact_text (texts_data texts)
