use Rattle.std.proofs.Common.{◌∷◌, [], ◌-◌, List, length, ap, sym, ◌∙◌}
use Rattle.field_values.specs.declared.numbers.UserNo.{UserNo}
use Rattle.tracker_machine.specs.Members.{has_members}
use Rattle.tracker_state.specs.Rows.{members_op}
use Rattle.setting_calls.proofs.Members.{members_ready}
use Rattle.setting_calls.proofs.set_group.regrouped.Goals as goal

pub returns : goal.returns
returns c =
    let setup = c.args.state.now.machine.setup in
    let new = c.in_ok-new.new in
    let is = c.in_ok-new.ensures in
    members_ready c.args.state.now c.args.group c.args.names.now new _ _ _ c.requires.from_one c.requires.there c.in_ok-name.ensures
    is.group is.members is.listed is.asked
    (ap (has_members setup (c.args.group.0 - 1)) (sym c.as_slice-2.ensures) ∙ sym c.if-has_members.ensures) (ap length c.as_slice.ensures)
    (c.in_ok-rows.ensures ∙ ap (λ (us : List UserNo). members_op setup c.args.group us ∷ []) c.as_slice-3.ensures)
