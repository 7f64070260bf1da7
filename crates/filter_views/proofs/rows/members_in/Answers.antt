use Rattle.std.proofs.Common.{◌≡◌, ◌∙◌, ◌<◌, ◌≤◌, ◌+◌, ◌^◌, ◌++◌, append-nil, sym, subst, length, vec_len, vec_capacity}
use Rattle.filter_views.specs.Fields.{holders_from}
use Rattle.filter_views.proofs.Lookups.{row_found, row_missing}
use Rattle.filter_views.proofs.rows.members_in.Goals as goal

pub add_members-requires-clause-few : goal.add_members-requires-clause-few
add_members-requires-clause-few c =
    let found = row_found c.args.rows.now c.args.filter.0 c.in-Ok.at c.requires.rising c.in-Ok.ensures.found c.index-rows-at.result in
    subst (λ r. length r.truths < 2 ^ 32) (found ∙ sym c.index-rows-at.is) c.requires.few

pub add_members-requires-clause-slots : goal.add_members-requires-clause-slots
add_members-requires-clause-slots c =
    let found = row_found c.args.rows.now c.args.filter.0 c.in-Ok.at c.requires.rising c.in-Ok.ensures.found c.index-rows-at.result in
    subst (λ r. vec_len c.args.room.now + length r.truths ≤ vec_capacity c.args.room.now) (found ∙ sym c.index-rows-at.is) c.requires.slots

pub returns-in-Ok : goal.returns-in-Ok
returns-in-Ok c =
    let found = row_found c.args.rows.now c.args.filter.0 c.in-Ok.at c.requires.rising c.in-Ok.ensures.found c.index-rows-at.result in
    subst (λ r. c.add_members.new.room.items ≡ c.args.room.now.items ++ holders_from 1 r.truths) (c.index-rows-at.is ∙ sym found) c.add_members.ensures

pub returns-in_default : goal.returns-in_default
returns-in_default c =
    let missing = row_missing c.args.rows.now c.args.filter.0 c.in_default.field-0 c.in_default.ensures.absent in
    subst (λ r. c.args.room.now.items ≡ c.args.room.now.items ++ holders_from 1 r.truths) (sym missing) (sym (append-nil c.args.room.now.items))
