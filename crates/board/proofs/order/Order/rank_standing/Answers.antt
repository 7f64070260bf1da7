use Rattle.std.proofs.Common.{◌≡◌, Option, Some, true, false, refl, sym, subst}
use Rattle.std.specs.Prelude.{MatchOption}
use Rattle.std.specs.Option.{option_copied}
use Rattle.std.proofs.lemmas.Bool.{false≢true}
use Rattle.field_values.specs.declared.numbers.IssueNo.{IssueNo}
use Rattle.board.specs.Moved.{own_rank}
use Rattle.board.specs.Place.{stands_at, AreNamed}
use Rattle.board.proofs.Gaps.{rank_standing, stands_not}
use Rattle.board.proofs.order.Order.rank_standing.Goals as goal

pub returns-then-is_beside : goal.returns-then-is_beside
returns-then-is_beside c =
    let ps = c.args.self.now.pairs in
    let named = subst (λ (asked : Option IssueNo). AreNamed ps asked c.args.place) c.in-Some.is c.requires.named in
    let beside = rw (c.places_before.ensures, c.requires.above) at (c.if-is_beside.ensures.0 refl) in
    subst (λ (asked : Option IssueNo). MatchOption (option_copied c.rank_of.result) (stands_at ps asked c.args.place ≡ false) (λ rank. (stands_at ps asked c.args.place ≡ true) × (own_rank ps asked ≡ Some rank)))
    (sym c.in-Some.is) (rw c.rank_of.ensures (rank_standing ps c.in-Some.issue c.args.place c.issues.ensures.order named beside))

pub returns-else-is_beside : goal.returns-else-is_beside
returns-else-is_beside c =
    let ps = c.args.self.now.pairs in
    let named = subst (λ (asked : Option IssueNo). AreNamed ps asked c.args.place) c.in-Some.is c.requires.named in
    let apart = rw (c.places_before.ensures, c.requires.above) at c.if-is_beside.ensures.1 in
    subst (λ (asked : Option IssueNo). stands_at ps asked c.args.place ≡ false) (sym c.in-Some.is)
    (stands_not ps c.issues.ensures.order c.in-Some.issue named.issue_there c.args.place named (λ beside. false≢true (apart beside)))
