-- The members of a line that has texts alone, and one object of texts in `set`, as they come.
use Rattle.std.specs.Prelude.{◌≡◌, ℕ, ◌&&◌, List, [], ◌∷◌, Bool, true, false, Option, Some, None, Ok, unwrap_or, if◌then◌else◌}
use Rattle.std.specs.Option.{is_some}
use Rattle.std.specs.Borrow.{Bor}
use Rattle.std.specs.Str.{bytes_eq}
use Rattle.std.specs.declared.alloc.Global.{Global}
use Rattle.json.specs.Json as json
use Rattle.json.specs.Find.{as_str}
use Rattle.json.specs.Value.{value_view}
use Rattle.json.specs.declared.value.Value.{Value}
use Rattle.serde_json.specs.Data.{Data, null, string, object, Members, no_members, member, put}
use Rattle.call_lines.specs.Asked.{asked_by, first_other, names_of}
use Rattle.tracker_calls.specs.declared.call.Call.{Call}
use Rattle.call_lines.specs.declared.kind.CallKind.{CallKind}

-- a name and its value
abbrev pub Named : Type 0
Named = Bor (List ℕ) × Value Global

-- the text that a value is, or an empty one
abbrev pub text_in : json.Json → List ℕ
text_in j = unwrap_or (as_str j) []

abbrev pub is_text : Value Global → Bool
is_text v = is_some (as_str (value_view v))

abbrev pub text_of : Value Global → List ℕ
text_of v = text_in (value_view v)

-- each text is the member of its name, among these
abbrev pub texts_in : json.Members → Members → Members
texts_in json.no_members found = found
texts_in (json.member k j ms) found = texts_in ms (put k (string (text_in j)) found)

abbrev pub are_texts_in : json.Members → Bool
are_texts_in json.no_members = true
are_texts_in (json.member k j ms) = is_some (as_str j) && are_texts_in ms

-- a text, or an object of texts
abbrev pub is_plain : json.Json → Bool
is_plain json.null = false
is_plain (json.boolean b) = false
is_plain (json.number s) = false
is_plain (json.string s) = true
is_plain (json.array js) = false
is_plain (json.object ms) = are_texts_in ms

-- such a value
abbrev pub plain_data : json.Json → Data
plain_data json.null = null
plain_data (json.boolean b) = null
plain_data (json.number s) = null
plain_data (json.string s) = string s
plain_data (json.array js) = null
plain_data (json.object ms) = object (texts_in ms no_members)

-- the same of lists of names and values
abbrev pub with_texts : List Named → Members → Members
with_texts [] found = found
with_texts (m ∷ ms) found = with_texts ms (put m.0.now (string (text_of m.1)) found)

abbrev pub texts_of : List Named → Members
texts_of ms = with_texts ms no_members

abbrev pub with_values : List Named → Members → Members
with_values [] found = found
with_values (m ∷ ms) found = with_values ms (put m.0.now (plain_data (value_view m.1)) found)

abbrev pub values_of : List Named → Members
values_of ms = with_values ms no_members

-- each of them is a member of a call of that kind
abbrev pub HaveNoOther : CallKind → List Named → Type 0
HaveNoOther kind ms = first_other kind (names_of (values_of ms)) ≡ None

-- they ask for the call, whoever the user is
abbrev pub AskFor : CallKind → List Named → Call → Type 0
AskFor kind ms call =
    (user : List ℕ) → asked_by kind (object (values_of ms)) (values_of ms) user ≡ Ok (user, call)

-- the last value of that name, or where there is none, what was found before
abbrev pub last_value : List ℕ → Option Data → List Named → Option Data
last_value name before [] = before
last_value name before (m ∷ ms) =
    last_value name (if bytes_eq name m.0.now then Some (plain_data (value_view m.1)) else before)
    ms

-- lent texts by name, in byte order
abbrev pub texts_by : List (Bor (List ℕ) × Bor (List ℕ)) → Members
texts_by [] = no_members
texts_by (e ∷ es) = member e.0.now (string e.1.now) (texts_by es)

-- a member of that name is that text
abbrev pub IsTextOf : List ℕ → List ℕ → Named → Type 0
IsTextOf name text m = (bytes_eq name m.0.now ≡ true) × (as_str (value_view m.1) ≡ Some text)
