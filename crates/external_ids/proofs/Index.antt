-- The index by id finds what a walk finds.
use Rattle.std.proofs.Common.{◌≡◌, List, [], ◌∷◌, ◌++◌, ℕ, Bool, true, false, Option, Some, None, option_map, String, Global, string_bytes, string_eq, bytes_eq, refl, sym, ap, ◌∙◌, cond}
use Rattle.std.specs.Prelude.{if◌then◌else◌}
use Rattle.std.specs.HashMap.{HashMap, get, get_by_text}
use Rattle.std.specs.Map.{lookup}
use Rattle.std.proofs.lemmas.Slice.Eq.{bytes_eq-Decides}
use Rattle.field_values.specs.declared.numbers.IssueNo.{IssueNo}
use Rattle.external_ids.specs.declared.external_id.ExternalId.{ExternalId}
use Rattle.external_ids.specs.Ids.{external_named}
use Rattle.external_ids.proofs.Added.{external_named-append}

module _ {V : Type 0} where
  -- bytes that are found are those of a key that stands in the table
  found_at : (bytes : List ℕ) (x : String Global × V) (rest : Option V) (v : V) (b : Bool) → bytes_eq bytes (string_bytes x.0) ≡ b → cond b (Some x.1) rest ≡ Some v
      → (rest ≡ Some v → (k : String Global) × (bytes ≡ string_bytes k)) → (k : String Global) × (bytes ≡ string_bytes k)
  found_at bytes x rest v true is e later = (x.0, (bytes_eq-Decides bytes (string_bytes x.0)).0 is)
  found_at bytes x rest v false is e later = later e

  found_key : (bytes : List ℕ) (es : List (String Global × V)) (v : V) → lookup (λ k. bytes_eq bytes (string_bytes k)) es ≡ Some v → (k : String Global) × (bytes ≡ string_bytes k)
  found_key bytes [] v e = cc
  found_key bytes (x ∷ es) v e = found_at bytes x (lookup (λ k. bytes_eq bytes (string_bytes k)) es) v (bytes_eq bytes (string_bytes x.0)) refl e (found_key bytes es v)

  agree : (o p : Option V) → ((v : V) → o ≡ Some v → p ≡ o) → ((v : V) → p ≡ Some v → p ≡ o) → p ≡ o
  agree (Some v) p f g = f v refl
  agree None (Some v) f g = g v refl
  agree None None f g = refl

  module _ {S : Type 0} where
    at_key : (m : HashMap (String Global) V S) (bytes : List ℕ) (k : String Global) → bytes ≡ string_bytes k → get_by_text m bytes ≡ get string_eq m k
    at_key m bytes k is = ap (λ b. get_by_text m b) is

    -- two tables that agree on keys agree on all bytes
    pub same_found : (m n : HashMap (String Global) V S) → ((q : String Global) → get string_eq n q ≡ get string_eq m q) → (bytes : List ℕ) → get_by_text n bytes ≡ get_by_text m bytes
    same_found m n same bytes =
        let by = λ (k : (k : String Global) × (bytes ≡ string_bytes k)). at_key n bytes k.0 k.1 ∙ same k.0 ∙ sym (at_key m bytes k.0 k.1) in
        agree (get_by_text m bytes) (get_by_text n bytes) (λ v e. by (found_key bytes m.entries v e)) (λ v e. by (found_key bytes n.entries v e))

issue_of : (new : ExternalId) (b : Bool) (o : Option ExternalId) → (if b then Some new.no else option_map (λ e. e.no) o) ≡ option_map (λ e. e.no) (if b then Some new else o)
issue_of new true o = refl
issue_of new false o = refl

-- an id more leads to its issue, and the others lead where they led
pub found_more : (id key : List ℕ) (new : ExternalId) (es : List ExternalId) (before after : Option IssueNo) → key ≡ new.id → external_named new.id es ≡ None
    → before ≡ option_map (λ e. e.no) (external_named id es) → after ≡ (if bytes_eq key id then Some new.no else before)
    → after ≡ option_map (λ e. e.no) (external_named id (es ++ new ∷ []))
found_more id key new es before after same free was is =
    is
    ∙ ap (λ k. if bytes_eq k id then Some new.no else before) same
    ∙ ap (λ o. if bytes_eq new.id id then Some new.no else o) was
    ∙ issue_of new (bytes_eq new.id id) (external_named id es)
    ∙ ap (λ o. option_map (λ (e : ExternalId). e.no) o) (sym (external_named-append id es new free))
