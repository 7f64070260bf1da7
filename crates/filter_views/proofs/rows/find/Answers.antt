use Rattle.std.proofs.Common.{rules}
use Rattle.std.proofs.lemmas.List.Sorted.{answers_always}
use Rattle.filter_views.proofs.Search.{found, absent}
use Rattle.filter_views.proofs.rows.find.Goals as goal

-- the closure gives a row's number
pub returns-clause-found : goal.returns-clause-found
returns-clause-found c =
    let facts = c.binary_search_by_key.ensures in
    let by_key = facts.position (λ r. r.filter) (answers_always _ _ _ (λ f a r g called. search rules)) in
    found _ c.requires c.args.filter.0 _ facts.bound by_key

pub returns-clause-absent : goal.returns-clause-absent
returns-clause-absent c =
    let facts = c.binary_search_by_key.ensures in
    let by_key = facts.position (λ r. r.filter) (answers_always _ _ _ (λ f a r g called. search rules)) in
    absent _ c.requires c.args.filter.0 _ facts.bound by_key
