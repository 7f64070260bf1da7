use Rattle.std.proofs.Common.{rules}
use Rattle.std.proofs.lemmas.List.Sorted.{answers_always}
use Rattle.rising_numbers.proofs.Search.{found, absent}
use Rattle.rising_numbers.proofs.lookup.place_of.Goals as goal

-- the closure gives a thing's number
pub returns-clause-there : goal.returns-clause-there
returns-clause-there g c =
    let facts = c.binary_search_by_key.ensures in
    let by_key = facts.position g.T.Numbered.number (answers_always _ _ _ (λ f a r g called. search rules)) in
    found g.T.Numbered.number _ 1 c.requires c.args.no _ facts.bound by_key

pub returns-clause-absent : goal.returns-clause-absent
returns-clause-absent g c =
    let facts = c.binary_search_by_key.ensures in
    let by_key = facts.position g.T.Numbered.number (answers_always _ _ _ (λ f a r g called. search rules)) in
    absent g.T.Numbered.number _ 1 c.requires c.args.no _ facts.bound by_key
