-- How the reader of each form answers. No public contract speaks of this.
use Rattle.std.specs.Prelude.{◌≡◌, ℕ, ◌-◌, ◌≤◌, List, [], ◌∷◌, length, drop, Option, Some, None}
use Rattle.jql_syntax.specs.Fault.{IsFault, place_of}
use Rattle.jql_syntax.specs.Node.{Node, text, condition, a_direction}
use Rattle.jql_syntax.specs.Tree.{Tree}
use Rattle.jql_syntax.specs.declared.query.Direction.{Direction}
use Rattle.jql_syntax.specs.declared.query.Direction.TheVariants.{Ascending}
pub use Rattle.jql_syntax.specs.Tokens.{words}
use Rattle.jql_syntax.specs.Form.{Form}
use Rattle.jql_syntax.specs.Machine.{ended, halted, Runs}
use Rattle.jql_syntax.specs.declared.token.Token.{Token}
use Rattle.jql_syntax.specs.declared.token.Placed.{Placed}
use Rattle.jql_syntax.specs.declared.token.Kind.{Kind}
use Rattle.jql_syntax.specs.declared.take.Stop.{Stop}
use Rattle.jql_syntax.specs.declared.take.Stop.TheVariants.{Memory, At}

-- the form was read from the first list up to the second, and gave these parts
pub record Goes (f : Form) (ts rest : List Placed) (xs : List Node) : Type 0 where
  pub runs : Runs f (words ts) (ended (words rest) xs)

-- there is a fault of the kind, with so many tokens from it on
pub record Halts (f : Form) (ts : List Placed) (kind : Kind) (left : ℕ) : Type 0 where
  pub rest : List Token
  pub left_over : length rest ≡ left
  pub runs : Runs f (words ts) (halted rest kind)

-- Want of memory is any list's answer.
abbrev pub Why : Form → List Placed → Stop → Type 0
Why f ts Memory = Unit {0}
Why f ts (At kind left) = Halts f ts kind left

pub record Stops (f : Form) (ts : List Placed) (stop : Stop) : Type 0 where
  pub why : Why f ts stop

-- the parts of a call's argument
abbrev pub argument_parts : Option (List ℕ) → List Node
argument_parts None = []
argument_parts (Some a) = text a ∷ []

-- the parts of a direction and of a condition, where there is one
abbrev pub direction_parts : Option Direction → List Node
direction_parts None = []
direction_parts (Some d) = a_direction d ∷ []

abbrev pub or_ascending : Option Direction → Direction
or_ascending None = Ascending
or_ascending (Some d) = d

abbrev pub condition_parts : Option Tree → List Node
condition_parts None = []
condition_parts (Some x) = condition x ∷ []

-- The tokens have their first fault where so many of them are left.
abbrev pub Fails : List Placed → Stop → Type 0
Fails ts Memory = Unit {0}
Fails ts (At kind left) =
    (left ≤ length ts)
    × ((end : ℕ) → IsFault ts end (place_of end (drop (length ts - left) ts)) kind)
