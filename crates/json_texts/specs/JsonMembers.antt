-- Texts among the members of an object.
use Rattle.std.specs.Prelude.{ℕ, List, Option, Some, None, option_and_then, if◌then◌else◌}
use Rattle.serde_json.specs.Data.{Data}
use Rattle.serde_json.specs.Find.{get, as_str}
use Rattle.field_forms.specs.Names.{is_title}

abbrev pub text_at : List ℕ → Data → Option (List ℕ)
text_at name d = option_and_then as_str (get name d)

-- the name of a saved filter, a board or a sprint
abbrev pub title_at : List ℕ → Data → Option (List ℕ)
title_at name d =
    option_and_then (λ text. if is_title text then Some text else None) (text_at name d)
