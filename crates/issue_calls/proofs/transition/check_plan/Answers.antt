use Rattle.std.proofs.Common.{◌≡◌, length, slice_get, Some, true, refl, subst, rules}
use Rattle.std.proofs.lemmas.Option.{slice_get_read}
use Rattle.field_values.specs.Parts.{Parts}
use Rattle.fields.specs.SetupParts.{names_in, parts}
use Rattle.workflow.specs.Laws.{IsSoundTransition}
use Rattle.workflow.proofs.SoundSetups.{sound_transition}
use Rattle.field_forms.specs.SoundRules.{rules_are_sound}
use Rattle.wanted_values.proofs.InSprints.{sound_rules}
use Rattle.field_values.specs.declared.numbers.TheConstants.FieldNo.{REPORTER as reporter}
use Rattle.tracker_machine.specs.Tracker.{IsSettled}
use Rattle.tracker_machine.proofs.Settled.{settled_at}
use Rattle.issue_calls.proofs.transition.check_plan.Goals as goal

pub plan_of-requires-clause-sound : goal.plan_of-requires-clause-sound
plan_of-requires-clause-sound c =
    let setup = c.setup.result.now in
    let kept = c.as_slice.result.now in
    let found = c.index-as_slice-transition.result in
    let at : slice_get kept c.args.transition ≡ Some found = slice_get_read kept (length kept) c.args.transition found refl (search rules) c.index-as_slice-transition.is in
    let own : slice_get (parts setup).transition c.args.transition ≡ Some found = subst (λ ts. slice_get ts c.args.transition ≡ Some found) c.as_slice.ensures at in
    subst (λ (s : Parts). IsSoundTransition s found) c.setup.ensures (sound_transition (parts setup) c.args.transition found setup.sound own)

pub plan_of-requires-clause-rules : goal.plan_of-requires-clause-rules
plan_of-requires-clause-rules c =
    let setup = c.setup.result.now in
    let kept = c.as_slice.result.now in
    let found = c.index-as_slice-transition.result in
    let at : slice_get kept c.args.transition ≡ Some found = slice_get_read kept (length kept) c.args.transition found refl (search rules) c.index-as_slice-transition.is in
    let own : slice_get (parts setup).transition c.args.transition ≡ Some found = subst (λ ts. slice_get ts c.args.transition ≡ Some found) c.as_slice.ensures at in
    subst (λ (s : Parts). rules_are_sound (names_in s) found ≡ true) c.setup.ensures
    (sound_rules (parts setup) c.args.transition found setup.sound own)

pub plan_of-requires-clause-reporter : goal.plan_of-requires-clause-reporter
plan_of-requires-clause-reporter c =
    let m = c.args.state.now.machine in
    let settled : IsSettled (names_in m.setup) m.moment m.change c.args.found.issue.now.history =
    settled_at (names_in m.setup) m.moment m.change m.histories c.args.found.place c.args.found.issue.now.history c.requires.there c.is_tracker.ensures.settled in
    settled.holding reporter
