-- External ids, as an issue with one comes, and where a call gives one that no issue has.
use Rattle.std.proofs.Common.{◌≡◌, ℕ, ◌+◌, ◌-◌, ◌<◌, ◌≤◌, Bool, true, false, List, [], ◌∷◌, length, slice_get, Option, Some, None, bytes_eq, codes, refl, sym, ap, ◌∙◌, arith}
use Rattle.std.specs.Prelude.{if◌then◌else◌, option_and_then}
use Rattle.std.specs.List.{All}
use Rattle.std.proofs.lemmas.List.Elements.{All-nil, All-head, All-tail}
use Rattle.std.proofs.lemmas.Option.{same_Some, none-some}
use Rattle.rising_numbers.specs.ByNumber.{RiseFrom}
use Rattle.field_values.specs.declared.numbers.IssueNo.{IssueNo}
use Rattle.external_ids.specs.declared.external_id.ExternalId.{ExternalId}
use Rattle.external_ids.specs.Ids.{external_number, external_named}
use Rattle.external_ids.proofs.Added.{rise_put_last, own_put_last}
use Rattle.external_ids.specs.Form.{is_external}
use Rattle.tracker_calls.specs.declared.cause.Cause.TheVariants as cause
use Rattle.tracker_machine.specs.Machine.{Machine}
use Rattle.tracker_machine.specs.Checks.{external_refusal}
use Rattle.tracker_machine.specs.Create.{issue_called}
use Rattle.tracker_machine.specs.Tracker.{IsExternalOf, AreExternals, IsTracker}
use Rattle.tracker_machine.specs.Effect.{with_external, MayName}
use Rattle.tracker_machine.proofs.Saved.{all_put, all_then}
use Rattle.tracker_machine.proofs.Settled.{at_place}

-- no issue has one
pub no_externals : (issues : ℕ) → AreExternals issues []
no_externals issues = record { rising = tt; own = tt; each = All-nil (IsExternalOf issues) }

-- there are more issues
pub all_more : (issues more : ℕ) (ids : List ExternalId) → issues ≤ more → All (IsExternalOf issues) ids → All (IsExternalOf more) ids
all_more issues more ids less all =
    all_then (IsExternalOf issues) (IsExternalOf more) ids (λ e is. record { there = omega (arith, is.there, less); formed = is.formed }) all

-- an issue comes, maybe with one
pub externals_more : (issues : ℕ) (ids : List ExternalId) (issue : IssueNo) (external : Option (List ℕ)) → AreExternals issues ids → issue.0 ≡ issues + 1
    → MayName ids external → AreExternals (issues + 1) (with_external ids issue external)
externals_more issues ids issue None are next may =
    record { rising = are.rising; own = are.own; each = all_more issues (issues + 1) ids (omega arith) are.each }
externals_more issues ids issue (Some id) are next may =
    let new : ExternalId = record { no = issue; id = id } in
    let last : All (λ e. e.no.0 < issue.0) ids =
    all_then (IsExternalOf issues) (λ e. e.no.0 < issue.0) ids (λ e is. omega (arith, is.there, next)) are.each in
    record {
      rising = rise_put_last new ids (omega (arith, next)) are.rising;
      own = own_put_last new ids last may.1 are.own;
      each = all_put external_number (IsExternalOf (issues + 1)) new ids (record { there = omega (arith, next); formed = may.0 })
          (all_more issues (issues + 1) ids (omega arith) are.each);
    }

-- ---- what is looked for

-- what is found by an id is of an issue that is there
pub named_is_there : (first issues : ℕ) (ids : List ExternalId) (id : List ℕ) (e : ExternalId) → RiseFrom external_number first ids → All (IsExternalOf issues) ids
    → external_named id ids ≡ Some e → (first ≤ e.no.0) × (e.no.0 ≤ issues)
named_is_there first issues [] id e rising each is = absurd (none-some e is)
named_is_there first issues (x ∷ xs) id e rising each is =
    by (bytes_eq x.id id) is (named_is_there (x.no.0 + 1) issues xs id e rising.1 (All-tail (IsExternalOf issues) x xs each))
  where
    by : (b : Bool) → (if b then Some x else external_named id xs) ≡ Some e
        → (external_named id xs ≡ Some e → (x.no.0 + 1 ≤ e.no.0) × (e.no.0 ≤ issues)) → (first ≤ e.no.0) × (e.no.0 ≤ issues)
    by true same rest =
        let own : x.no.0 ≡ e.no.0 = ap external_number (same_Some x e same) in
        (omega (arith, own, rising.0), omega (arith, own, (All-head (IsExternalOf issues) x xs each).there))
    by false same rest = let behind = rest same in (omega (arith, behind.0, rising.0), behind.1)

-- an id of its form that leads to no issue may come with a new one
pub free_external : (m : Machine) (external : Option (List ℕ)) → IsTracker m → external_refusal external ≡ None → issue_called m external ≡ None
    → MayName m.externals external
free_external m None is formed none = tt
free_external m (Some id) is formed none = (has_form (is_external id) formed, by (external_named id m.externals) refl none) where
  has_form : (b : Bool) → (if b then None else Some (cause.Form (codes "external"))) ≡ None → b ≡ true
  has_form true passes = refl
  has_form false passes = cc

  by : (o : Option ExternalId) → external_named id m.externals ≡ o → option_and_then (λ e. slice_get m.histories (e.no.0 - 1)) o ≡ None → external_named id m.externals ≡ None
  by None found called = found
  by (Some e) found called =
      let there = named_is_there 1 (length m.histories) m.externals id e is.externals.rising is.externals.each found in
      let history = at_place m.histories (e.no.0 - 1) (omega (arith, there.0, there.1)) in
      absurd (none-some history.0 (sym called ∙ history.1))
