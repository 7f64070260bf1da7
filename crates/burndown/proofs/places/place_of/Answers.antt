use Rattle.std.proofs.Common.{rules}
use Rattle.std.proofs.lemmas.List.Sorted.{answers_always}
use Rattle.burndown.proofs.Search.{found, absent}
use Rattle.burndown.proofs.places.place_of.Goals as goal

-- the closure gives a sprint's number
pub returns-clause-found : goal.returns-clause-found
returns-clause-found c =
    let facts = c.binary_search_by_key.ensures in
    let by_key = facts.position (λ t. t.0.0) (answers_always _ _ _ (λ f a r g called. search rules)) in
    found _ c.requires c.args.sprint.0 _ facts.bound by_key

pub returns-clause-absent : goal.returns-clause-absent
returns-clause-absent c =
    let facts = c.binary_search_by_key.ensures in
    let by_key = facts.position (λ t. t.0.0) (answers_always _ _ _ (λ f a r g called. search rules)) in
    absent _ c.requires c.args.sprint.0 _ facts.bound by_key
