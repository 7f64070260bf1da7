use Rattle.std.proofs.Common.{ℕ, List, sym, subst}
use Rattle.std.specs.BTreeSet.{keys}
use Rattle.field_values.specs.Parts.{Parts}
use Rattle.fields.specs.SetupParts.{parts}
use Rattle.tracker_machine.specs.Machine.{Machine}
use Rattle.tracker_loading.specs.Making.{IsMaking}
use Rattle.tracker_loading.specs.contracts.making.Making.{the_view}
use Rattle.tracker_loading.proofs.Joined.{members_made}
use Rattle.tracker_loading.proofs.making.Making.regroup.Goals as goal

pub invariant_of-self : goal.invariant_of-self
invariant_of-self c =
    let m : Machine = the_view c.self.inside in
    let tally = c.self.inside.issues.tally in
    let ranks = c.self.inside.ranks.items in
    let filters = c.self.inside.filters.items in
    let taken = keys c.self.inside.taken in
    let group_at = c.self.inside.group_at in
    let made : List ℕ → Parts → Machine = λ text setup. record m { text = text; setup = setup } in
    subst (λ (text : List ℕ). IsMaking (made text (parts c.set_members.new.self)) tally ranks filters taken group_at) (sym c.set_members.ensures.text)
    (subst (λ (setup : Parts). IsMaking (made m.text setup) tally ranks filters taken group_at) (sym c.set_members.ensures.parts)
    (members_made m tally ranks filters taken group_at c.args.group c.in_ok-members.members c.self.invariant))
