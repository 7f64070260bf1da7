use Rattle.std.proofs.Common.{◌≡◌, subst, sym, ◌∙◌, ap, map, List, [], Ok}
use Rattle.fields.proofs.setup.Setup.set_members.Goals as goal
use Rattle.field_values.specs.declared.parts.Group.{Group}
use Rattle.fields.specs.SetupParts.{parts}
use Rattle.setup_reading.specs.Reading.{memberless, kept_in}
use Rattle.fields.specs.Sound.{IsSound}
use Rattle.fields.proofs.Sound.{still_sound}
use Rattle.field_values.proofs.Members.{same_names, same_but_members}

pub invariant_of-self-clause-sound : goal.invariant_of-self-clause-sound
invariant_of-self-clause-sound c =
    subst (λ (groups : List Group). IsSound (record (parts c.args.self.now) { group = groups })) (sym c.set_members.ensures) (still_sound (parts c.args.self.now) _ c.args.members c.args.self.now.sound c.requires.in_order)

pub invariant_of-self-clause-named_groups : goal.invariant_of-self-clause-named_groups
invariant_of-self-clause-named_groups c =
    c.args.self.now.named_groups ∙ (sym (same_names c.args.self.now.group _ c.args.members) ∙ ap (map (λ (g : Group). g.name)) (sym c.set_members.ensures))

pub invariant_of-self-clause-reads : goal.invariant_of-self-clause-reads
invariant_of-self-clause-reads c =
    let bare : Group → Group = λ g. record { name = g.name; members = [] } in
    let same : map bare c.args.self.now.group ≡ map bare c.set_members.new.self = sym (same_but_members c.args.self.now.group _ c.args.members) ∙ ap (map bare) (sym c.set_members.ensures) in
    subst (λ (groups : List Group). kept_in c.args.self.now.text ≡ Ok (record (memberless (parts c.args.self.now)) { group = groups })) same c.args.self.now.reads
