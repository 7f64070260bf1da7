use Rattle.std.proofs.Common.{◌≡◌, ◌∙◌, ap, subst, rules}
use Rattle.std.proofs.lemmas.Cmp.{nat_cmp_total}
use Rattle.std.proofs.lemmas.Fn.{always_returns_same}
use Rattle.std.proofs.lemmas.List.{take_all}
use Rattle.std.proofs.lemmas.List.Sorted.{ranks_by}
use Rattle.std.specs.List.Sorted.{IsPermutation}
use Rattle.std.specs.Ordering.{is_lt, nat_cmp}
use Rattle.field_values.specs.declared.numbers.IssueNo.{IssueNo}
use Rattle.board.specs.Order.{places_before}
use Rattle.board.specs.Board.{members_in}
use Rattle.board.proofs.board.Board.rows.Goals as goal

pub returns-clause-ok : goal.returns-clause-ok
returns-clause-ok c =
    let ps = c.args.order.now.pairs in
    let all : c.loop-issue.room.items ≡ members_in ps c.args.members.now =
    c.loop-issue.invariant.members ∙ ap (members_in ps) (take_all c.loop-issue.issue-index c.args.members.now c.loop-issue-test.false) in
    record {
      same = subst (λ xs. IsPermutation xs c.sort_unstable_by.new.self.items) all c.sort_unstable_by.ensures.permutation;
      in_order = c.sort_unstable_by.ensures.sorted (λ a b. is_lt (nat_cmp (places_before ps a.0) (places_before ps b.0))) (ranks_by nat_cmp_total (λ (i : IssueNo). places_before ps i.0))
          (always_returns_same _ _ _ (λ a b g called. search rules));
    }
