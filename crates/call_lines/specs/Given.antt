-- What a call gives for fields, as it stands in the JSON of its member `set`.
use Rattle.std.specs.Prelude.{ℕ, List, [], ◌∷◌, Option, Some, None, option_map, option_and_then, if◌then◌else◌, codes}
use Rattle.serde_json.specs.Data.{Data, null, boolean, number, string, array, object, Items, no_items, item, Members, no_members, member}
use Rattle.serde_json.specs.Find.{get, as_object, as_str, as_u64}
use Rattle.tracker_calls.specs.Given.{has_twins}
use Rattle.tracker_calls.specs.declared.given.Given.{Given}
use Rattle.tracker_calls.specs.declared.given.Given.TheVariants as given
use Rattle.tracker_calls.specs.declared.given.GivenField.{GivenField}

abbrev pub onto_texts : Option (List ℕ) → Option (List (List ℕ)) → Option (List (List ℕ))
onto_texts None texts = None
onto_texts (Some text) texts = option_map (λ more. text ∷ more) texts

-- the texts of an array that has texts alone
abbrev pub texts_of : Items → Option (List (List ℕ))
texts_of no_items = Some []
texts_of (item d ds) = onto_texts (as_str d) (texts_of ds)

abbrev pub list_given : Option (List (List ℕ)) → Given
list_given None = given.Other
list_given (Some texts) = given.List texts

abbrev pub number_given : Option ℕ → Given
number_given None = given.Other
number_given (Some n) = given.Number n

abbrev pub given_of : Data → Given
given_of null = given.Null
given_of (boolean b) = given.Other
given_of (number n) = number_given (as_u64 n)
given_of (string s) = given.Text s
given_of (array ds) = list_given (texts_of ds)
given_of (object ms) = given.Other

-- each member gives something for the field of its name
abbrev pub fields_of : Members → List GivenField
fields_of no_members = []
fields_of (member name d more) = (record { name = name; given = given_of d }) ∷ fields_of more

abbrev pub without_twins : List GivenField → Option (List GivenField)
without_twins fields = if has_twins fields then None else Some fields

-- an object whose names don't differ in case alone
abbrev pub given_set : Data → Option (List GivenField)
given_set d = option_and_then (λ members. without_twins (fields_of members)) (as_object d)

-- the member `set`, where it has to be there
abbrev pub set_at : Data → Option (List GivenField)
set_at d = option_and_then given_set (get (codes "set") d)

abbrev pub none_or : Option Data → Option (List GivenField)
none_or None = Some []
none_or (Some d) = given_set d

-- the member `set`, which may be absent, and then gives nothing
abbrev pub set_if_there : Data → Option (List GivenField)
set_if_there d = none_or (get (codes "set") d)
