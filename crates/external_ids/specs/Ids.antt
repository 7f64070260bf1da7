-- External ids: what an issue is called where it came from.
use Rattle.std.specs.Prelude.{ℕ, ◌≡◌, ◌+◌, ◌≤◌, List, [], ◌∷◌, Option, Some, None, option_map, if◌then◌else◌, String}
use Rattle.std.specs.Str.{bytes_eq}
use Rattle.std.specs.HashMap.{HashMap, spare, get_by_text}
use Rattle.std.specs.declared.alloc.Global.{Global}
use Rattle.field_values.specs.declared.numbers.IssueNo.{IssueNo}
use Rattle.rising_numbers.specs.ByNumber.{RiseFrom}
use Rattle.external_ids.specs.declared.external_id.ExternalId.{ExternalId}

-- the number of the issue that has the id
abbrev pub external_number : ExternalId → ℕ
external_number e = e.no.0

-- the first one of this id, if there is one
abbrev pub external_named : List ℕ → List ExternalId → Option ExternalId
external_named id [] = None
external_named id (e ∷ es) = if bytes_eq e.id id then Some e else external_named id es

-- no two issues have the same id
abbrev pub HaveOwnIds : List ExternalId → Type 0
HaveOwnIds [] = Unit {0}
HaveOwnIds (e ∷ es) = (external_named e.id es ≡ None) × HaveOwnIds es

-- all of them, and for how many more there is room
pub record IdList : Type 0 where
  pub ids : List ExternalId
  pub room : ℕ

-- what external ids keep true of themselves: numbers rise, ids are own ones, and the index finds what a walk would find
pub record AreExternalIds {S : Type 0} (es : List ExternalId)
    (by_id : HashMap (String Global) IssueNo S) (room len capacity : ℕ) : Type 0 where
  pub rising : RiseFrom external_number 1 es
  pub own : HaveOwnIds es
  pub found : (id : List ℕ) → get_by_text by_id id ≡ option_map (λ e. e.no) (external_named id es)
  pub fits : len + room ≤ capacity
  pub indexed : room ≤ spare by_id
