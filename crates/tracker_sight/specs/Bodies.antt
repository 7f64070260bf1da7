-- A posted body asks for what its line asks for, the line of the same members and of the user.
use Rattle.std.specs.Prelude.{◌≡◌, ℕ, List, codes, filter, Bool, false, not, Some}
use Rattle.std.specs.Option.{option_map_or}
use Rattle.std.specs.Str.{bytes_eq}
use Rattle.serde_json.specs.Data.{object, Members}
use Rattle.serde_json.specs.Find.{get}
use Rattle.json_texts.specs.JsonMembers.{text_at}
use Rattle.call_lines.specs.Asked.{line_of, data_of, names_of}
use Rattle.call_lines.specs.Body.{body_of, members_in}

abbrev pub is_user : List ℕ → Bool
is_user name = bytes_eq name (codes "user")

-- the line's object has the members of the body's, each with its value, and the user beside them; the body's has no member `user`
pub record IsLineOf (line body user : List ℕ) : Type 0 where
  pub members : Members
  pub own : Members
  pub body_is : members_in body ≡ Some members
  pub line_is : data_of line ≡ Some (object own)
  pub user_is : text_at (codes "user") (object own) ≡ Some user
  pub values : (name : List ℕ) → is_user name ≡ false
      → get name (object own) ≡ get name (object members)
  pub names : filter (λ name. not (is_user name)) (names_of own) ≡ names_of members

-- the members ask for a tick, which no body may
abbrev pub asks_to_tick : Members → Bool
asks_to_tick members =
    option_map_or (λ name. bytes_eq name (codes "tick")) (text_at (codes "call") (object members))
    false

-- of what isn't a tick both are read as the same call of the user, or are refused by the same fault
abbrev pub BodiesAskAsLines : Type 0
BodiesAskAsLines =
    (line body user : List ℕ) (is : IsLineOf line body user) → asks_to_tick is.members ≡ false
    → body_of body (Some user) ≡ line_of line
