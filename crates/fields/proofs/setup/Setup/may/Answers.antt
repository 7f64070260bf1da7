use Rattle.std.proofs.Common.{subst, sym, length}
use Rattle.field_values.specs.GroupMembers.{HaveRising}
use Rattle.fields.proofs.Rising.{members_rise}
use Rattle.fields.proofs.setup.Setup.may.Goals as goal

pub has_member_in-requires : goal.has_member_in-requires
has_member_in-requires c =
    let here = c.args.self.now in
    subst HaveRising (sym c.as_slice.ensures) (members_rise (length here.users) here.group here.sound.members)
