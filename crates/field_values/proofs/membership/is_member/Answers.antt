use Rattle.std.proofs.Common.{rules, ◌∙◌}
use Rattle.std.proofs.lemmas.List.Sorted.{answers_always}
use Rattle.field_values.proofs.Rising.{found_is}
use Rattle.field_values.proofs.membership.is_member.Goals as goal

-- the closure gives a user's number
pub returns : goal.returns
returns c =
    let facts = c.binary_search_by_key.ensures in
    let by_key = facts.position (λ u. u.0) (answers_always _ _ _ (λ f a r g called. search rules)) in
    c.is_ok.ensures.value ∙ found_is c.args.members.now c.requires c.args.user.0 c.binary_search_by_key.result facts.bound by_key
