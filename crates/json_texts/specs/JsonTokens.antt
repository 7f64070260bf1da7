-- What stands written once a value is written behind it, a token at a time. By what stands before, so that the clause of each
-- step computes to the clause of the next.
use Rattle.std.specs.Prelude.{List, [], ◌∷◌, ◌++◌}
use Rattle.json.specs.Token.{Token}
use Rattle.serde_json.specs.Data.{Data, null, boolean, number, string, array, object, Items, no_items, item, Members, no_members, member}
use Rattle.serde_json.specs.Written.{number_text}

abbrev mutual
  pub after : Data → List Token → List Token
  after null ts = ts ++ Token.null ∷ []
  after (boolean b) ts = ts ++ Token.boolean b ∷ []
  after (number n) ts = ts ++ Token.number (number_text n) ∷ []
  after (string s) ts = ts ++ Token.string s ∷ []
  after (array ds) ts = after_items ds (ts ++ Token.begin_array ∷ [])
  after (object ms) ts = after_members ms (ts ++ Token.begin_object ∷ [])

  -- with the closing bracket
  pub after_items : Items → List Token → List Token
  after_items no_items ts = ts ++ Token.end_array ∷ []
  after_items (item d ds) ts = after_items ds (after d ts)

  pub after_members : Members → List Token → List Token
  after_members no_members ts = ts ++ Token.end_object ∷ []
  after_members (member k d ms) ts = after_members ms (after d (ts ++ Token.key k ∷ []))
