use Rattle.std.proofs.Common.{length, subst, sym}
use Rattle.field_values.specs.GroupMembers.{HaveRising}
use Rattle.fields.proofs.Rising.{members_rise}
use Rattle.workflow.proofs.conditions.passes.Goals as goal

-- a setup keeps the members of each group in order
pub has_member-requires : goal.has_member-requires
has_member-requires c =
    let here = c.args.setup.now in
    subst HaveRising (sym c.as_slice.ensures) (members_rise (length here.users) here.group here.sound.members)
