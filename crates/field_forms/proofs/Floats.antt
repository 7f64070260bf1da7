-- A JSON array of texts has no float in it.
use Rattle.std.proofs.Common.{◌≡◌, ℕ, List, [], ◌∷◌, map, false, refl}
use Rattle.serde_json.specs.Data.{string}
use Rattle.serde_json.specs.View.{items_of}
use Rattle.serde_json.specs.Written.{has_float, items_have_float}
use Rattle.field_forms.specs.TextLists.{texts_data}

no_floats : (texts : List (List ℕ)) → items_have_float (items_of (map string texts)) ≡ false
no_floats [] = refl
no_floats (text ∷ texts) = no_floats texts

pub array_without_floats : (texts : List (List ℕ)) → has_float (texts_data texts) ≡ false
array_without_floats texts = no_floats texts
