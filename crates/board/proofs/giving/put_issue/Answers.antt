use Rattle.std.proofs.Common.{◌≡◌, List, length, vec_len, ap, sym, ◌∙◌}
use Rattle.std.specs.Prelude.{insert, remove}
use Rattle.std.specs.Vec.{with_items}
use Rattle.std.proofs.lemmas.List.{with_items_is}
use Rattle.field_values.specs.declared.numbers.IssueNo.{IssueNo}
use Rattle.board.specs.Table.{pairs_by}
use Rattle.board.proofs.Ranked.{new_fits, old_fits, new_one, old_one}
use Rattle.board.proofs.giving.put_issue.Goals as goal

pub turn-requires-clause-from : goal.turn-requires-clause-from
turn-requires-clause-from c =
    let t = c.args.ranks.now in
    let v = c.args.issues.now in
    let some = sym (rw c.deref-2.ensures.value at c.place_by.ensures) ∙ c.in-Some.is in
    let stands = old_one t v.items c.args.issue c.requires.order c.requires.table c.in-Some.from some in
    rw c.deref_mut.ensures.value stands.in_range

pub returns-in-Some-clause-issues : goal.returns-in-Some-clause-issues
returns-in-Some-clause-issues c =
    let t = c.args.ranks.now in
    let v = c.args.issues.now in
    let to = c.place_among_others-to.result in
    let some = sym (rw c.deref-2.ensures.value at c.place_by.ensures) ∙ c.in-Some.is in
    let stands = old_one t v.items c.args.issue c.requires.order c.requires.table c.in-Some.from some in
    let moved = rw c.deref_mut.ensures.value at c.turn.ensures in
    let len : length c.turn.new.issues ≡ vec_len v = c.turn.auto.issues ∙ c.deref_mut.ensures.len in
    let whole : (with_items v c.turn.new.issues).items ≡ c.turn.new.issues = with_items_is v c.turn.new.issues len in
    whole ∙ moved ∙ ap (insert (remove v.items c.in-Some.from) to) stands.there ∙ ap (λ xs. insert xs to c.args.issue) (sym stands.others)

-- a new issue
pub returns-in-Ok-clause-issues : goal.returns-in-Ok-clause-issues
returns-in-Ok-clause-issues c =
    let t = c.args.ranks.now in
    let v = c.args.issues.now in
    let none = sym (rw c.deref-2.ensures.value at c.place_by.ensures) ∙ c.in-None.is in
    c.in-Ok.ensures.items ∙ ap (λ (xs : List IssueNo). insert xs c.count_below-below.result c.args.issue) (sym (new_one t v.items c.args.issue c.requires.order c.requires.table none))

pub returns-in-Ok-clause-fits : goal.returns-in-Ok-clause-fits
returns-in-Ok-clause-fits c =
    let t = c.args.ranks.now in
    let v = c.args.issues.now in
    let none = sym (rw c.deref-2.ensures.value at c.place_by.ensures) ∙ c.in-None.is in
    let front = rw c.deref.ensures.value at c.count_below-below.ensures in
    new_fits (pairs_by t v.items) c.args.rank.now c.args.issue.0 c.count_below-below.result c.requires.order c.requires.free front none

pub returns-in-Some-clause-fits : goal.returns-in-Some-clause-fits
returns-in-Some-clause-fits c =
    let t = c.args.ranks.now in
    let v = c.args.issues.now in
    let some = sym (rw c.deref-2.ensures.value at c.place_by.ensures) ∙ c.in-Some.is in
    let front = rw c.deref.ensures.value at c.count_below-below.ensures in
    old_fits (pairs_by t v.items) c.args.rank.now c.args.issue.0 c.in-Some.from c.count_below-below.result c.place_among_others-to.result
    c.requires.order c.requires.free front some c.place_among_others-to.ensures
