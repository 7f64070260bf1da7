-- What passes its checks may come.
use Rattle.std.proofs.Common.{◌≡◌, ℕ, List, true, length, None}
use Rattle.field_values.specs.declared.rules.Permission.TheVariants as permission
use Rattle.field_forms.specs.Names.{is_title}
use Rattle.tracker_limits.specs.Limits.{most_sprints}
use Rattle.tracker_calls.specs.declared.cause.Cause.TheVariants as cause
use Rattle.tracker_calls.specs.declared.cause.Limit.TheVariants as limit
use Rattle.tracker_machine.specs.Machine.{Machine}
use Rattle.tracker_machine.specs.SprintRules.{MayMakeSprint}
use Rattle.tracker_machine.specs.Sprints.{sprints_refusal, make_sprint_refusal}
use Rattle.tracker_machine.specs.Checks.{permission_refusal}
use Rattle.tracker_state.proofs.Checked.{later_passes, few_passes}

-- a new sprint may come
pub may_make_sprint : (m : Machine) (caller : ℕ) (name : List ℕ) → is_title name ≡ true → make_sprint_refusal m caller ≡ None
    → MayMakeSprint m.sprints name
may_make_sprint m caller name titled passed = record {
  named = titled;
  few = few_passes (length m.sprints) most_sprints (cause.Limit limit.Sprints)
      (later_passes (permission_refusal m caller permission.Plan None) (sprints_refusal m) passed);
}
