-- The issue of an external id that is found.
use Rattle.std.proofs.Common.{◌≡◌, ℕ, ◌≤◌, List, Option, Some, None, option_map, refl, ap, arith}
use Rattle.std.proofs.lemmas.Option.{same_Some, none-some}
use Rattle.field_values.specs.declared.numbers.IssueNo.{IssueNo}
use Rattle.external_ids.specs.declared.external_id.ExternalId.{ExternalId}
use Rattle.external_ids.specs.Ids.{external_named}
use Rattle.tracker_machine.specs.Tracker.{AreExternals}
use Rattle.tracker_machine.proofs.Externals.{named_is_there}

pub called_is_there : (issues : ℕ) (ids : List ExternalId) (id : List ℕ) (found_no : IssueNo) → AreExternals issues ids → option_map (λ e. e.no) (external_named id ids) ≡ Some found_no
    → (1 ≤ found_no.0) × (found_no.0 ≤ issues)
called_is_there issues ids id found_no are = by (external_named id ids) refl
  where
    by : (o : Option ExternalId) → external_named id ids ≡ o → option_map (λ e. e.no) o ≡ Some found_no → (1 ≤ found_no.0) × (found_no.0 ≤ issues)
    by None found is = absurd (none-some found_no is)
    by (Some e) found is =
        let there = named_is_there 1 issues ids id e are.rising are.each found in
        let same : e.no.0 ≡ found_no.0 = ap (λ (n : IssueNo). n.0) (same_Some e.no found_no is) in
        (omega (arith, there.0, same), omega (arith, there.1, same))
