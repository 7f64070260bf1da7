-- What holds of the ranks that have been read, as one more is read.
use Rattle.std.proofs.Common.{◌≡◌, ℕ, ◌+◌, ◌≤◌, ◌==◌, ◌⊎◌, inl, inr, true, false, nat_lt, List, [], ◌∷◌, length, refl, sym, subst, arith, ltb-true, eqb-true}
use Rattle.std.specs.Prelude.{◌↔◌, All}
use Rattle.std.specs.Ordering.{is_lt}
use Rattle.std.proofs.lemmas.Bool.{cases_Bool, cases_eq, cases_lt, and_parts}
use Rattle.std.proofs.lemmas.List.Elements.{All-cons, All-head, All-tail}
use Rattle.field_values.specs.declared.numbers.IssueNo.{IssueNo}
use Rattle.rank_strings.specs.Rank.{RankParts, IsRank, rank_cmp}
use Rattle.board.specs.Order.{Pair, IsIn, IsFreeFor, without, put_in, places_before}
use Rattle.board.proofs.Placing.{order_is_kept}
use Rattle.board.proofs.Put as Put
use Rattle.rank_balancer.specs.declared.balance.Balance.{Balance}
use Rattle.rank_balancer.specs.declared.balance.Balance.TheVariants.{Idle, Moving}
use Rattle.rank_balancer.specs.Balance.{Agrees, next_bucket}
use Rattle.rank_balancer.specs.Step.{after_move}
use Rattle.tracker_keeper.specs.Forms.{is_balance}
use Rattle.tracker_ranks.specs.Ranked.{IsOneOf, IsRanked}
use Rattle.tracker_ranks.specs.Loaded.{AllowsBucket}
use Rattle.tracker_ranks.proofs.Given.{gives_one_rank, in_from_rank, same_in}

-- ---- the balance

-- where no rank has been read, the balance agrees
pub none_ranked : (b : Balance) → is_balance b ≡ true → IsRanked [] b
none_ranked b is = record {
  order = record { ranks = λ k d lt. absurd (omega arith); rising = λ i j d less lt. absurd (omega arith); once = λ i j d less lt. absurd (omega arith) };
  numbered = λ issue. (λ there. absurd (omega (arith, there)), λ one. absurd (omega (arith, one)));
  agrees = agrees b is;
}
  where
    agrees : (b : Balance) → is_balance b ≡ true → Agrees [] b
    agrees (Idle bucket) is = (ltb-true bucket 3 is, λ k d lt. absurd (omega arith))
    agrees (Moving from to) is =
        let parts = and_parts (nat_lt from 3) (to == next_bucket from) is in
        (ltb-true from 3 parts.0, eqb-true to (next_bucket from) parts.1, λ k d lt. absurd (omega arith))

all_put_in : (Q : Pair → Type 0) (x : Pair) (ps : List Pair) → Q x → All Q ps → All Q (put_in x ps)
all_put_in Q x [] one all = All-cons Q x [] one all
all_put_in Q x (p ∷ ps) one all = by (cases_Bool (is_lt (rank_cmp x.0 p.0))) (all_put_in Q x ps one (All-tail Q p ps all))
  where
    by : (is_lt (rank_cmp x.0 p.0) ≡ true) ⊎ (is_lt (rank_cmp x.0 p.0) ≡ false) → All Q (put_in x ps) → All Q (put_in x (p ∷ ps))
    by (inl is) rest = rw is (All-cons Q x (p ∷ ps) one all)
    by (inr is) rest = rw is (All-cons Q p (put_in x ps) (All-head Q p ps all) rest)

all_without : (Q : Pair → Type 0) (issue : ℕ) (ps : List Pair) → All Q ps → All Q (without issue ps)
all_without Q issue [] all = all
all_without Q issue (p ∷ ps) all = by (cases_Bool (p.1.0 == issue)) (all_without Q issue ps (All-tail Q p ps all))
  where
    by : ((p.1.0 == issue) ≡ true) ⊎ ((p.1.0 == issue) ≡ false) → All Q (without issue ps) → All Q (without issue (p ∷ ps))
    by (inl is) rest = rw is rest
    by (inr is) rest = rw is (All-cons Q p (without issue ps) (All-head Q p ps all) rest)

moved_all : (Q : Pair → Type 0) (ps : List Pair) (issue : IssueNo) (rank : RankParts) → Q (rank, issue) → All Q ps → All Q (after_move ps (issue, rank))
moved_all Q ps issue rank one all = all_put_in Q (rank, issue) (without issue.0 ps) one (all_without Q issue.0 ps all)

agrees_more : (ps : List Pair) (b : Balance) (issue : IssueNo) (rank : RankParts) → Agrees ps b → AllowsBucket b rank.bucket → Agrees (after_move ps (issue, rank)) b
agrees_more ps (Idle bucket) issue rank agrees allowed = (agrees.0, moved_all (λ p. p.0.bucket ≡ bucket) ps issue rank allowed agrees.1)
agrees_more ps (Moving from to) issue rank agrees allowed =
    (agrees.0, agrees.1, moved_all (λ p. (p.0.bucket ≡ from) ⊎ (p.0.bucket ≡ to)) ps issue rank allowed agrees.2)

-- ---- one rank more

length-put : (x : Pair) (ps : List Pair) → length (put_in x ps) ≡ length ps + 1
length-put x [] = refl
length-put x (p ∷ ps) = by (cases_Bool (is_lt (rank_cmp x.0 p.0))) (length-put x ps)
  where
    by : (is_lt (rank_cmp x.0 p.0) ≡ true) ⊎ (is_lt (rank_cmp x.0 p.0) ≡ false) → length (put_in x ps) ≡ length ps + 1 → length (put_in x (p ∷ ps)) ≡ length (p ∷ ps) + 1
    by (inl is) rest = rw is (omega arith)
    by (inr is) rest = rw is (omega arith)

-- the next issue isn't ranked yet
next_not_in : (ps : List Pair) (b : Balance) (n : ℕ) → IsRanked ps b → n ≡ length ps + 1 → length ps ≤ places_before ps n
next_not_in ps b n ranked next = elim (cases_lt (places_before ps n) (length ps)) [
  | inl there ↦ let one = (ranked.numbered n).0 there in absurd (omega (arith, one.1, next))
  | inr past ↦ past
]

pub length-ranked : (ps : List Pair) (b : Balance) (issue : IssueNo) (rank : RankParts) → IsRanked ps b → issue.0 ≡ length ps + 1
    → length (after_move ps (issue, rank)) ≡ length ps + 1
length-ranked ps b issue rank ranked next =
    let fewer = (Put.others ps issue.0 ranked.order).not_there (next_not_in ps b issue.0 ranked next) in
    omega (arith, length-put (rank, issue) (without issue.0 ps), fewer)

pub rank_read : (ps : List Pair) (b : Balance) (issue : IssueNo) (rank : RankParts) → IsRanked ps b → issue.0 ≡ length ps + 1 → IsRank rank
    → IsFreeFor ps issue.0 rank → AllowsBucket b rank.bucket → IsRanked (after_move ps (issue, rank)) b
rank_read ps b issue rank ranked next is free allowed = record {
  order = order_is_kept ps issue rank ranked.order is free;
  numbered = numbered;
  agrees = agrees_more ps b issue rank ranked.agrees allowed;
}
  where
    after : List Pair
    after = after_move ps (issue, rank)

    longer : length after ≡ length ps + 1
    longer = length-ranked ps b issue rank ranked next

    numbered : (n : ℕ) → IsIn after n ↔ IsOneOf (length after) n
    numbered n = by (cases_eq issue.0 n)
      where
        fewer : n ≤ length after → (issue.0 ≡ n → ⊥) → n ≤ length ps
        fewer le differ = elim (cases_lt (length ps) n) [
          | inl more ↦ absurd (differ (omega (arith, le, more, next, longer)))
          | inr few ↦ few
        ]

        by : (issue.0 ≡ n) ⊎ (issue.0 ≡ n → ⊥) → IsIn after n ↔ IsOneOf (length after) n
        by (inl own) = (
          λ there. (omega (arith, own, next), omega (arith, own, next, longer)),
          λ one. subst (IsIn after) own (in_from_rank after issue.0 rank (gives_one_rank ps (issue, rank)).own),
        )
        by (inr other) =
            let same = (gives_one_rank ps (issue, rank)).others n other in (
              λ there. let one = (ranked.numbered n).0 (same_in after ps n same there) in (one.0, omega (arith, one.1, longer)),
              λ one. same_in ps after n (sym same) ((ranked.numbered n).1 (one.0, fewer one.1 other)),
            )
