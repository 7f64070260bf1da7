use Rattle.std.proofs.Common.{◌≡◌, ℕ, List, ◌∷◌, [], ap, ap₂, sym, ◌∙◌, subst}
use Rattle.field_values.specs.declared.numbers.SprintNo.{SprintNo}
use Rattle.sprints.specs.Sprint.{future}
use Rattle.tracker_calls.specs.declared.reply.Answer.TheVariants as answer
use Rattle.tracker_machine.specs.Machine.{Machine}
use Rattle.tracker_machine.specs.SprintRules.{MayMakeSprint}
use Rattle.tracker_machine.specs.Effect.{IsAllowed}
use Rattle.tracker_machine.specs.Effect.Effect.{NewSprint}
use Rattle.tracker_machine.specs.Meaning.Meaning.{Makes}
use Rattle.tracker_machine.specs.Kept.{ops_of}
use Rattle.tracker_machine.specs.Sprints.{make_sprint_refusal, next_sprint}
use Rattle.setting_calls.specs.Rows.{sprint_op}
use Rattle.tracker_state.specs.State.{Held}
use Rattle.setting_calls.proofs.Checked.{may_make_sprint}
use Rattle.tracker_state.proofs.Checked.{unrefused}
use Rattle.setting_calls.proofs.Ops.{sprint_ops_are}
use Rattle.setting_calls.proofs.make_sprint.make_sprint.Goals as goal

pub returns-clause-prepared : goal.returns-clause-prepared
unfolding IsAllowed
returns-clause-prepared c =
    let m = c.args.state.now.machine in
    let passed = c.in_ok-check_make.ensures in
    let made = λ (n : SprintNo) (name : List ℕ). Makes (answer.MakeSprint n) (NewSprint name) in
    let named : c.in_ok-name.name ≡ c.args.name.now = c.in_ok-name.ensures in
    let numbered : c.next_sprint-sprint.result ≡ next_sprint m = c.next_sprint-sprint.ensures in
    let same : c.reserve_sprint.new.self.machine ≡ m = ap (λ (s : Held). s.machine) c.reserve_sprint.ensures.same in
    let may : MayMakeSprint m.sprints c.args.name.now = may_make_sprint m c.args.caller.0 c.args.name.now c.requires.title passed in
    record {
      means = unrefused (make_sprint_refusal m c.args.caller.0) _ passed ∙ sym (ap₂ made numbered named);
      keeps = c.in_ok-rows.ensures
          ∙ ap₂ (λ (n : SprintNo) (name : List ℕ). sprint_op n (future name) ∷ []) numbered c.as_str.ensures
          ∙ sprint_ops_are m c.in_ok-name.name ∙ ap (ops_of (NewSprint c.in_ok-name.name)) (sym same);
      allowed = subst (λ (n : Machine). MayMakeSprint n.sprints c.in_ok-name.name) (sym same)
          (subst (MayMakeSprint m.sprints) (sym named) may);
      fits = c.in_ok-reserve_sprint.ensures.room;
    }
