use Rattle.std.proofs.Common.{◌≡◌, length, subst, rules, arith}
use Rattle.std.proofs.lemmas.Result.{IfOk-weaker}
use Rattle.board.specs.Order.{Ranking}
use Rattle.board.specs.Table.{ArePlacesIn}
use Rattle.board.proofs.Tabled.{numbers_once}
use Rattle.board.proofs.Viewed.{number_in_table, places_walked}
use Rattle.board.proofs.order.Order.places.Goals as goal

pub places_of-requires-clause-in_range : goal.places_of-requires-clause-in_range
places_of-requires-clause-in_range c =
    let t = c.self.inside.ranks.items in
    let is = c.self.inside.issues.items in
    let many : length t ≡ c.len.result = search rules in
    rw c.deref.ensures.value (λ k d lt. omega (arith, many, number_in_table t is c.self.invariant.order c.self.invariant.table k d lt))

pub places_of-requires-clause-once : goal.places_of-requires-clause-once
places_of-requires-clause-once c =
    let t = c.self.inside.ranks.items in
    let is = c.self.inside.issues.items in
    rw c.deref.ensures.value (numbers_once t is c.self.invariant.order c.self.invariant.table)

pub returns : goal.returns
returns c =
    let t = c.self.inside.ranks.items in
    let is = c.self.inside.issues.items in
    let walked = rw c.deref.ensures.value at c.places_of.ensures in
    IfOk-weaker c.places_of.result _ _
    (λ places filled. subst (λ (v : Ranking). ArePlacesIn v.pairs places.items) c.self.view_is (places_walked t is c.len.result places.items c.self.invariant.order filled))
    walked
