-- The external id of a new issue, and the users and the fields that a line names.
use Rattle.std.specs.Prelude.{ℕ, List, Option, Some, None, option_and_then, codes, if◌then◌else◌}
use Rattle.serde_json.specs.Data.{Data, array}
use Rattle.serde_json.specs.Find.{get, as_str}
use Rattle.call_lines.specs.Given.{texts_of}
use Rattle.external_ids.specs.Form.{is_external}
use Rattle.tracker_calls.specs.Named.{are_few, are_few_fields}

abbrev pub external_given : Data → Option (Option (List ℕ))
external_given d =
    option_and_then (λ text. if is_external text then Some (Some text) else None) (as_str d)

abbrev pub external_or_none : Option Data → Option (Option (List ℕ))
external_or_none None = Some None
external_or_none (Some d) = external_given d

-- the member `external`, which may be absent
abbrev pub external_if_there : Data → Option (Option (List ℕ))
external_if_there d = external_or_none (get (codes "external") d)

abbrev pub few_of : Option (List (List ℕ)) → Option (List (List ℕ))
few_of texts = option_and_then (λ names. if are_few names then Some names else None) texts

-- an array of at most so many texts, and of nothing else
abbrev pub names_given : Data → Option (List (List ℕ))
names_given (array ds) = few_of (texts_of ds)
names_given _ = None

abbrev pub names_at : List ℕ → Data → Option (List (List ℕ))
names_at name d = option_and_then names_given (get name d)

abbrev pub few_fields_of : Option (List (List ℕ)) → Option (Option (List (List ℕ)))
few_fields_of texts =
    option_and_then (λ names. if are_few_fields names then Some (Some names) else None) texts

abbrev pub fields_given : Data → Option (Option (List (List ℕ)))
fields_given (array ds) = few_fields_of (texts_of ds)
fields_given _ = None

abbrev pub fields_or_none : Option Data → Option (Option (List (List ℕ)))
fields_or_none None = Some None
fields_or_none (Some d) = fields_given d

-- the member `fields`, which may be absent
abbrev pub fields_if_there : Data → Option (Option (List (List ℕ)))
fields_if_there d = fields_or_none (get (codes "fields") d)
