use Rattle.std.proofs.Common.{◌≡◌, IfSome, sym, ap, subst, ◌∙◌}
use Rattle.field_values.specs.declared.value.Value.{Value}
use Rattle.change_history.specs.declared.small.Small.{Small}
use Rattle.change_history.specs.History.{RoomyHistory, present}
use Rattle.change_history.specs.Small.{small_of, small_value, AreSmall}
use Rattle.change_history.proofs.Smalls.{small_value-of}
use Rattle.change_history.proofs.issue.Issue.small.Goals as goal

told : (s : Small) (v : Value) → s ≡ small_of v → IfSome (small_value s) (λ w. w ≡ v)
told s v is = subst (λ (t : Small). IfSome (small_value t) (λ w. w ≡ v)) (sym is) (small_value-of v)

pub returns-in-Some : goal.returns-in-Some
returns-in-Some c =
    let are = subst (λ (kept : RoomyHistory). AreSmall (present kept.history) c.self.inside.small) c.self.view_is c.self.invariant.small_are in
    let is = are c.args.field c.in-Some.small (sym c.in-Some.ensures) in
    record { small = is; value = told c.in-Some.small (present c.args.self.now.history c.args.field) is }

pub returns-in-None : goal.returns-in-None
returns-in-None c =
    let is = c.of.ensures ∙ ap small_of c.value.ensures in
    record { small = is; value = told c.of.result (present c.args.self.now.history c.args.field) is }
