-- External ids, as one more is read.
use Rattle.std.proofs.Common.{◌≡◌, ℕ, ◌<◌, ◌≤◌, List, None, arith}
use Rattle.std.specs.List.{All}
use Rattle.std.proofs.lemmas.List.Elements.{All-weaker}
use Rattle.rising_numbers.specs.ByNumber.{put_by_number}
use Rattle.external_ids.specs.declared.external_id.ExternalId.{ExternalId}
use Rattle.external_ids.specs.Ids.{external_number, external_named}
use Rattle.external_ids.proofs.Added.{own_put_last, rise_put_last}
use Rattle.tracker_keeper.specs.Forms.{IsExternalPart}
use Rattle.tracker_machine.specs.Tracker.{IsExternalOf, AreExternals}
use Rattle.tracker_machine.proofs.Saved.{all_put}

-- of more issues
pub externals_more : (issues more : ℕ) (ids : List ExternalId) → issues ≤ more → AreExternals issues ids → AreExternals more ids
externals_more issues more ids le are = record {
  rising = are.rising;
  own = are.own;
  each = All-weaker (IsExternalOf issues) (IsExternalOf more) (λ e is. record { there = omega (arith, is.there, le); formed = is.formed }) ids are.each;
}

-- the id of an issue that is there, behind all that have one
pub external_read : (issues : ℕ) (ids : List ExternalId) (new : ExternalId) → AreExternals issues ids → All (λ e. e.no.0 < new.no.0) ids
    → new.no.0 ≤ issues → external_named new.id ids ≡ None → IsExternalPart new.no.0 new.id → AreExternals issues (put_by_number external_number new ids)
external_read issues ids new are last there free form = record {
  rising = rise_put_last new ids form.numbered.0 are.rising;
  own = own_put_last new ids last free are.own;
  each = all_put external_number (IsExternalOf issues) new ids (record { there = there; formed = form.formed }) are.each;
}
