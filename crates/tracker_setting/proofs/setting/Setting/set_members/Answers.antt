use Rattle.std.proofs.Common.{◌≡◌, ◌-◌, true, [], List, length, map, slice_set, ap, sym, subst, ◌∙◌, arith}
use Rattle.std.specs.List.{list_all}
use Rattle.field_values.specs.declared.numbers.UserNo.{UserNo}
use Rattle.field_values.specs.declared.parts.Group.{Group}
use Rattle.field_values.specs.GroupMembers.{is_user_list, with_members}
use Rattle.field_values.specs.Parts.{Parts}
use Rattle.jql_meaning.specs.Surroundings.{Surroundings}
use Rattle.tracker_machine.specs.Search.{surroundings_in}
use Rattle.tracker_setting.proofs.Surrounding.{members_in_order, members_set}
use Rattle.tracker_setting.proofs.setting.Setting.set_members.Goals as goal

pub invariant_of-self : goal.invariant_of-self
invariant_of-self c =
    let old = c.args.self.now in
    let new = c.set_members.new.self in
    let place = c.from.result - 1 in
    let groups : new.group ≡ with_members old.setup.group place c.args.members =
    ap (λ (p : Parts). p.group) c.set_members.ensures.parts ∙ ap (λ n. with_members old.setup.group (n - 1) c.args.members) (sym c.from.ensures) in
    let members : slice_set old.context.members.items place c.args.asked ≡ map (λ (g : Group). g.members) new.group =
    ap (λ (s : Surroundings). slice_set s.members place c.args.asked) old.agree
    ∙ ap (slice_set (map (λ (g : Group). g.members) old.setup.group) place) c.requires.same
    ∙ members_set old.setup.group place c.args.members
    ∙ ap (map (λ (g : Group). g.members)) (sym groups) in
    let in_order : list_all (is_user_list 65_536) (slice_set old.context.members.items place c.args.asked) ≡ true =
    subst (λ (ms : List (List UserNo)). list_all (is_user_list 65_536) ms ≡ true) (sym members)
    (members_in_order (length new.users) (omega (arith, new.few_users)) new.group new.sound.members) in
    let calendar = ap (λ (s : Surroundings). s.calendar) old.agree ∙ ap (λ (p : Parts). (surroundings_in p []).calendar) (sym c.set_members.ensures.parts) in
    ((in_order, tt), (λ i. record { sprints = old.context.sprints.items; members = members i; calendar = calendar i }, tt))
