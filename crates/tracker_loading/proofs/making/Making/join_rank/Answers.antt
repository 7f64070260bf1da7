use Rattle.std.proofs.Common.{◌≡◌, ◌≤◌, ◌+◌, ◌∷◌, ◌++◌, [], List, length, Bool, true, false, refl, ap, sym, subst, ◌∙◌, arith}
use Rattle.std.specs.Prelude.{if◌then◌else◌}
use Rattle.std.specs.BTreeSet.{keys}
use Rattle.std.proofs.lemmas.List.{length-map}
use Rattle.board.specs.Order.{Pair}
use Rattle.change_history.specs.History.{RoomyHistory}
use Rattle.rank_balancer.specs.Step.{after_move}
use Rattle.tracker_machine.specs.Machine.{Machine}
use Rattle.tracker_machine.specs.Effect.{with_new_rank}
use Rattle.tracker_ranks.specs.Loaded.{AllowsBucket}
use Rattle.tracker_rows.specs.Rules.{MayBeRank}
use Rattle.tracker_loading.specs.Making.{order_of}
use Rattle.tracker_loading.specs.Taken.{is_taken}
use Rattle.tracker_loading.specs.contracts.making.Making.{the_view}
use Rattle.tracker_loading.proofs.Joined.{rank_joined}
use Rattle.tracker_loading.proofs.Ranks.{is_free, isnt_free, order_of-push, next_of_ranks}
use Rattle.tracker_loading.proofs.Truths.{from_not_false, from_not_true}
use Rattle.tracker_loading.proofs.making.Making.join_rank.Goals as goal

pub returns-then-not-new-clause-bad : goal.returns-then-not-new-clause-bad
returns-then-not-new-clause-bad c =
    let m : Machine = the_view c.self.inside in
    let kept = c.self.inside.issues.kept in
    let ranks = c.self.inside.ranks.items in
    let issue = c.args.issue in
    let there : issue.0 ≤ length m.histories = omega (arith, c.len.ensures, length-map kept (λ (i : RoomyHistory). i.history)) in
    let next : issue.0 ≡ length m.order + 1 =
    subst (λ (o : Machine). issue.0 ≤ length o.histories → issue.0 ≡ length o.order + 1) (sym c.self.view_is) c.requires.next there in
    let taken : is_taken ranks c.args.rank ≡ true = from_not_false (is_taken ranks c.args.rank) (sym c.in_ok-new.ensures.new ∙ c.if-not-new.true) in
    λ is may.
    let here : MayBeRank m issue c.args.rank = subst (λ (o : Machine). MayBeRank o issue c.args.rank) (sym c.self.view_is) may in
    isnt_free ranks m.order issue c.args.rank c.self.invariant.permuted next c.requires.rank c.self.invariant.are_ranks taken here.free

pub invariant_of-self-2 : goal.invariant_of-self-2
invariant_of-self-2 c =
    let m : Machine = the_view c.self.inside in
    let kept = c.self.inside.issues.kept in
    let issue = c.args.issue in
    let there : issue.0 ≤ length m.histories = omega (arith, c.len.ensures, length-map kept (λ (i : RoomyHistory). i.history)) in
    let next : issue.0 ≡ length m.order + 1 =
    subst (λ (o : Machine). issue.0 ≤ length o.histories → issue.0 ≡ length o.order + 1) (sym c.self.view_is) c.requires.next there in
    rank_joined m c.self.inside.issues.tally c.self.inside.ranks.items c.add_rank.new.ranks.items c.self.inside.filters.items (keys c.self.inside.taken)
    (keys c.add_rank.new.taken) c.self.inside.group_at issue c.args.rank c.add_rank.result c.self.invariant refl next c.requires.rank
    c.add_rank.ensures.ranks c.add_rank.ensures.err c.add_rank.ensures.taken

pub returns-clause-good : goal.returns-clause-good
returns-clause-good c =
    let m : Machine = the_view c.self.inside in
    let kept = c.self.inside.issues.kept in
    let ranks = c.self.inside.ranks.items in
    let issue = c.args.issue in
    let rank = c.args.rank in
    let there : issue.0 ≤ length m.histories = omega (arith, c.len.ensures, length-map kept (λ (i : RoomyHistory). i.history)) in
    let next : issue.0 ≡ length m.order + 1 =
    subst (λ (o : Machine). issue.0 ≤ length o.histories → issue.0 ≡ length o.order + 1) (sym c.self.view_is) c.requires.next there in
    let free : is_taken ranks rank ≡ false = from_not_true (is_taken ranks rank) (sym c.in_ok-new.ensures.new ∙ c.if-not-new.false) in
    let items : c.add_rank.new.ranks.items ≡ ranks ++ rank ∷ [] =
    c.in_ok-new.ensures.ranks ∙ ap (λ (b : Bool). if b then ranks ++ rank ∷ [] else ranks) c.if-not-new.false in
    let moved : order_of c.add_rank.new.ranks.items ≡ after_move m.order (issue, rank) =
    ap order_of items ∙ order_of-push ranks issue rank (next_of_ranks ranks m.order issue c.self.invariant.permuted next) in
    let may : MayBeRank m issue rank = record {
      there = there;
      free = is_free ranks m.order issue rank c.self.invariant.permuted next free;
      allowed = subst (AllowsBucket c.self.inside.balance) c.bucket.ensures.bucket (c.allows.ensures.0 c.if-not-allows.false);
    } in
    λ is. (
      subst (λ (o : Machine). MayBeRank o issue rank) c.self.view_is may,
      ap (λ (ps : List Pair). record m { order = ps }) moved ∙ ap (λ (o : Machine). with_new_rank o issue rank) c.self.view_is,
    )
