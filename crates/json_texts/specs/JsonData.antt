-- Numbers and texts as JSON.
use Rattle.std.specs.Prelude.{ℕ, ℤ, List, Option, Some, None}
use Rattle.serde_json.specs.Data.{Data, null, number, unsigned, string}
use Rattle.serde_json.specs.Find.{of_integer}

abbrev pub natural : ℕ → Data
natural n = number (unsigned n)

-- a number that may be below zero
abbrev pub integer : ℤ → Data
integer n = number (of_integer n)

abbrev pub natural_or_null : Option ℕ → Data
natural_or_null None = null
natural_or_null (Some n) = natural n

abbrev pub text_or_null : Option (List ℕ) → Data
text_or_null None = null
text_or_null (Some text) = string text
