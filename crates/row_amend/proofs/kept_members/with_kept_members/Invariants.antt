use Rattle.std.proofs.Common.{◌≡◌}
use Rattle.fields.specs.SetupParts.{parts}
use Rattle.amended_rows.specs.Amended.{with_kept}
use Rattle.row_amend.proofs.KeptMembers.{kept_to}
use Rattle.row_amend.proofs.kept_members.with_kept_members.Given as goal

abbrev pub invariant-loop-place : goal.invariant-loop-place
invariant-loop-place l =
    (parts l.setup
    ≡ record (parts l.fn.setup) {
      group = kept_to (with_kept (parts l.old) (parts l.fn.setup)) l.place l.fn.setup.group;
    })
    × (l.setup.text ≡ l.fn.setup.text)
