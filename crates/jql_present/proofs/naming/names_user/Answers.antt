use Rattle.std.proofs.Common.{List, sym, subst}
use Rattle.field_values.specs.declared.numbers.UserNo.{UserNo}
use Rattle.field_values.specs.GroupMembers.{AreRising}
use Rattle.jql_meaning.specs.Surroundings.{surroundings_of}
use Rattle.jql_present.proofs.Rising.{members-rise}
use Rattle.jql_present.proofs.naming.names_user.Goals as goal

-- a context keeps the users of each group in order
pub is_member-requires : goal.is_member-requires
is_member-requires c =
    let P : List UserNo → Type 0 = λ users. AreRising users in
    subst P (sym c.members_of.ensures) (members-rise (surroundings_of c.args.context.now) c.in-MembersOf.group c.args.context.now.in_order)
