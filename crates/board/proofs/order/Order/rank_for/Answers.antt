use Rattle.std.proofs.Common.{ap}
use Rattle.board.proofs.Gaps.{beside_in_order, kept_rank, moved_rank, no_rank}
use Rattle.board.proofs.Computed.{rank_given_alone, answer_computed, refusal_computed}
use Rattle.board.proofs.order.Order.rank_for.Goals as goal

pub rank_between-requires-clause-in_order : goal.rank_between-requires-clause-in_order
rank_between-requires-clause-in_order c =
    let order = rw (ap (λ v. v.pairs) c.self.view_is) at c.self.invariant.order in
    rw (c.rank_above.ensures, c.rank_below.ensures) (beside_in_order c.args.self.now.pairs c.count_above-above.result order)

pub returns-in_ok-copy-in-Some-clause-rank : goal.returns-in_ok-copy-in-Some-clause-rank
returns-in_ok-copy-in-Some-clause-rank c =
    let stands = c.in-Some.ensures in
    rw c.in_ok-copy-in-Some.ensures.copy (kept_rank c.args.self.now.pairs c.args.issue c.args.place c.args.empty_bucket c.in-Some.own.now stands.0 stands.1)

pub returns-in-None-clause-rank : goal.returns-in-None-clause-rank
returns-in-None-clause-rank c =
    let order = rw (ap (λ v. v.pairs) c.self.view_is) at c.self.invariant.order in
    let chosen = rw (c.rank_above.ensures, c.rank_below.ensures, c.count_above-above.ensures) at c.rank_between.ensures.chosen in
    moved_rank c.args.self.now.pairs c.args.issue c.args.place c.args.empty_bucket order c.requires.named c.in-None.ensures c.rank_between.result chosen

pub returns-in-None-clause-fault : goal.returns-in-None-clause-fault
returns-in-None-clause-fault c =
    let order = rw (ap (λ v. v.pairs) c.self.view_is) at c.self.invariant.order in
    let explained = rw (c.rank_above.ensures, c.rank_below.ensures, c.count_above-above.ensures) at c.rank_between.ensures.fault in
    no_rank c.args.self.now.pairs c.args.issue c.args.place c.args.empty_bucket order c.requires.named c.in-None.ensures c.rank_between.result explained

pub returns-in_ok-copy-in-Some-clause-computed : goal.returns-in_ok-copy-in-Some-clause-computed
returns-in_ok-copy-in-Some-clause-computed c =
    let order = rw (ap (λ v. v.pairs) c.self.view_is) at c.self.invariant.order in
    rank_given_alone c.args.self.now.pairs c.args.issue c.args.place c.args.empty_bucket order c.requires.named c.requires.bucket
    c.in_ok-copy-in-Some.field-0 (returns-in_ok-copy-in-Some-clause-rank c)

pub returns-in-None-clause-computed : goal.returns-in-None-clause-computed
returns-in-None-clause-computed c =
    let order = rw (ap (λ v. v.pairs) c.self.view_is) at c.self.invariant.order in
    answer_computed c.args.self.now.pairs c.args.issue c.args.place c.args.empty_bucket order c.requires.named c.requires.bucket
    c.rank_between.result (returns-in-None-clause-rank c)

pub returns-in-None-clause-refused : goal.returns-in-None-clause-refused
returns-in-None-clause-refused c =
    let order = rw (ap (λ v. v.pairs) c.self.view_is) at c.self.invariant.order in
    refusal_computed c.args.self.now.pairs c.args.issue c.args.place c.args.empty_bucket order c.requires.named c.requires.bucket
    c.rank_between.result (returns-in-None-clause-fault c)
