-- The reply to a line that may be a query.
use Rattle.std.specs.Prelude.{◌≡◌, ℕ, ◌<◌, ◌≤◌, List, [], ◌∷◌, ◌++◌, length, Option, codes, decimal}
use Rattle.std.specs.Str.{IsUtf8, IsValidUpTo}
use Rattle.jql_syntax.specs.Tree.{Tree}
use Rattle.jql_syntax.specs.Fault.{IsQuery, FirstFault, most_bytes, number_of_kind}
use Rattle.jql_syntax.specs.declared.token.Kind.{Kind}
use Rattle.jql_syntax.specs.declared.token.Kind.TheVariants.{Character, TooLong}
use Rattle.jql_syntax.specs.declared.query.SortKey.{SortKey}
use Rattle.jql_print.specs.Spelling.{query_text}

-- behind a space, where it isn't empty
abbrev pub shown : List ℕ → List ℕ
shown [] = []
shown (c ∷ cs) = 32 ∷ c ∷ cs

abbrev pub ok_reply : List ℕ → List ℕ
ok_reply text = codes "ok" ++ (shown text ++ 10 ∷ [])

-- a fault's place and the number of its kind
abbrev pub fault_reply : ℕ → ℕ → List ℕ
fault_reply place kind = codes "fault " ++ (decimal place ++ (32 ∷ decimal kind) ++ 10 ∷ [])

-- A query is answered by its one spelling, and any other text by its first fault. A line that is no text is too long,
-- or has its fault where the longest front of whole characters ends.
pub data IsReply (line : List ℕ) : List ℕ → Type 0 where
  reads : {q : Option Tree} {keys : List SortKey} → IsUtf8 line → IsQuery line q keys
      → IsReply line (ok_reply (query_text q keys))
  fails : {place : ℕ} {kind : Kind} → IsUtf8 line → FirstFault line place kind
      → IsReply line (fault_reply place (number_of_kind kind))
  is_too_long : (IsUtf8 line → ⊥) → most_bytes < length line
      → IsReply line (fault_reply most_bytes (number_of_kind TooLong))
  is_no_text : {place : ℕ} → (IsUtf8 line → ⊥) → length line ≤ most_bytes → IsValidUpTo line place
      → IsReply line (fault_reply place (number_of_kind Character))

-- the reply to the line was written at the end
pub record Replies (line old new : List ℕ) : Type 0 where
  pub reply : List ℕ
  pub is_reply : IsReply line reply
  pub written : new ≡ old ++ reply

-- a line is answered
pub record IsAnswered (line : List ℕ) : Type 0 where
  pub reply : List ℕ
  pub is_reply : IsReply line reply
