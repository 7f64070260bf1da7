-- Ranks that are read one after the other.
use Rattle.std.proofs.Common.{◌≡◌, ◌≢◌, ℕ, suc, ◌+◌, ◌<◌, ◌||◌, Bool, true, false, inl, inr, ◌⊎◌, List, [], ◌∷◌, ◌++◌, length, refl, sym, ◌∙◌, ap, subst, arith}
use Rattle.std.specs.Prelude.{All, if◌then◌else◌}
use Rattle.std.specs.List.Sorted.{IsPermutation}
use Rattle.std.specs.declared.cmp.Ordering.{Ordering}
use Rattle.std.specs.declared.cmp.Ordering.TheVariants.{Less, Equal, Greater}
use Rattle.std.specs.Ordering.{is_lt, is_eq, ordering_reverse}
use Rattle.std.proofs.lemmas.Bool.{cases_Bool, false≢true}
use Rattle.std.proofs.lemmas.List.Elements.{All-nil, All-cons, All-head, All-tail}
use Rattle.std.proofs.lemmas.List.Sorted.{IsPermutation-refl, IsPermutation-sym, IsPermutation-cons, IsPermutation-trans, IsPermutation-middle, IsPermutation-push_more, length_permutation, All-permutation}
use Rattle.field_values.specs.declared.numbers.IssueNo.{IssueNo}
use Rattle.rank_strings.specs.Rank.{RankParts, IsRank, rank_cmp}
use Rattle.rank_strings.specs.Total.{rank_cmp-total}
use Rattle.rank_strings.proofs.Reading.{same_from_equal}
use Rattle.board.specs.Order.{Pair, IsFreeFor, without, put_in}
use Rattle.board.specs.Table.{nothing}
use Rattle.board.proofs.Given.{without-absent}
use Rattle.rank_balancer.specs.Step.{after_move}
use Rattle.tracker_ranks.specs.Loaded.{numbered_from}
use Rattle.tracker_ranks.proofs.Loading.{numbered, numbered_from-push, length-numbered_from, pair_numbered, apart_sorted, no_rank}
use Rattle.tracker_loading.specs.Taken.{is_taken, AreTaken}
use Rattle.tracker_loading.specs.Making.{placed, order_of}

-- ---- the order

placed-push : (order : List Pair) (n : ℕ) (ranks : List RankParts) (rank : RankParts)
    → placed order n (ranks ++ rank ∷ []) ≡ after_move (placed order n ranks) (numbered (n + length ranks), rank)
placed-push order n [] rank = let same : n ≡ n + 0 = omega arith in ap (λ k. after_move order (numbered k, rank)) same
placed-push order n (r ∷ ranks) rank =
    let same : suc n + length ranks ≡ n + suc (length ranks) = omega arith in
    let next : List Pair = after_move order (numbered n, r) in
    placed-push next (suc n) ranks rank ∙ ap (λ k. after_move (placed next (suc n) ranks) (numbered k, rank)) same

pub order_of-push : (ranks : List RankParts) (issue : IssueNo) (rank : RankParts) → issue.0 ≡ length ranks + 1
    → order_of (ranks ++ rank ∷ []) ≡ after_move (order_of ranks) (issue, rank)
order_of-push ranks issue rank next =
    let same : 1 + length ranks ≡ issue.0 = omega (arith, next) in
    placed-push [] 1 ranks rank ∙ ap (λ k. after_move (order_of ranks) (numbered k, rank)) same

-- ---- the same ranks

put_in-permutes : (x : Pair) (ps : List Pair) → IsPermutation (x ∷ ps) (put_in x ps)
put_in-permutes x [] = IsPermutation-refl (x ∷ [])
put_in-permutes x (p ∷ ps) = by (cases_Bool (is_lt (rank_cmp x.0 p.0))) (put_in-permutes x ps)
  where
    by : (is_lt (rank_cmp x.0 p.0) ≡ true) ⊎ (is_lt (rank_cmp x.0 p.0) ≡ false) → IsPermutation (x ∷ ps) (put_in x ps)
        → IsPermutation (x ∷ p ∷ ps) (put_in x (p ∷ ps))
    by (inl is) rest = rw is (IsPermutation-refl (x ∷ p ∷ ps))
    by (inr is) rest =
        let apart : IsPermutation (x ∷ p ∷ ps) (p ∷ x ∷ ps) =
        IsPermutation-sym (p ∷ x ∷ ps) (x ∷ p ∷ ps) (IsPermutation-middle (p ∷ []) x ps) in
        rw is (IsPermutation-trans (x ∷ p ∷ ps) (p ∷ x ∷ ps) (p ∷ put_in x ps) apart (IsPermutation-cons p (x ∷ ps) (put_in x ps) rest))

module _ (ranks : List RankParts) (order : List Pair) (issue : IssueNo) (permuted : IsPermutation (numbered_from 1 ranks) order) (next : issue.0 ≡ length order + 1) where
  as_many : length order ≡ length ranks
  as_many = length_permutation (numbered_from 1 ranks) order permuted ∙ length-numbered_from 1 ranks

  pub next_of_ranks : issue.0 ≡ length ranks + 1
  next_of_ranks = omega (arith, next, as_many)

  -- the next issue isn't ranked yet
  none_without : without issue.0 order ≡ order
  none_without =
      let within = (apart_sorted ranks order (length ranks) permuted (omega (arith, as_many))).within in
      without-absent order issue.0 (λ k lt same. let le = within k nothing lt in omega (arith, le, same, next, as_many))

  pub permuted_more : (rank : RankParts) → IsPermutation (numbered_from 1 (ranks ++ rank ∷ [])) (after_move order (issue, rank))
  permuted_more rank =
      let same : numbered (1 + length ranks) ≡ issue = let is : 1 + length ranks ≡ issue.0 = omega (arith, next_of_ranks) in ap numbered is in
      let x : Pair = (rank, issue) in
      subst (λ (ps : List Pair). IsPermutation ps (after_move order (issue, rank)))
      (sym (numbered_from-push 1 ranks rank ∙ ap (λ (i : IssueNo). numbered_from 1 ranks ++ (rank, i) ∷ []) same))
      (IsPermutation-push_more (numbered_from 1 ranks) order (after_move order (issue, rank)) x permuted
      (subst (λ (ps : List Pair). IsPermutation (x ∷ order) (put_in x ps)) (sym none_without) (put_in-permutes x order)))

-- ---- which ranks are taken

own_reverse : (o : Ordering) → o ≡ ordering_reverse o → is_eq o ≡ true
own_reverse Less is = cc
own_reverse Equal is = refl
own_reverse Greater is = cc

own_equal : (rank : RankParts) → is_eq (rank_cmp rank rank) ≡ true
own_equal rank = own_reverse (rank_cmp rank rank) (rank_cmp-total.antisymm rank rank)

reverse_equal : (o : Ordering) → is_eq (ordering_reverse o) ≡ is_eq o
reverse_equal Less = refl
reverse_equal Equal = refl
reverse_equal Greater = refl

flips : (one other : RankParts) → is_eq (rank_cmp one other) ≡ is_eq (rank_cmp other one)
flips one other = ap is_eq (rank_cmp-total.antisymm one other) ∙ reverse_equal (rank_cmp other one)

equal_of : (o : Ordering) → is_eq o ≡ true → o ≡ Equal
equal_of Less is = absurd (false≢true is)
equal_of Equal is = refl
equal_of Greater is = absurd (false≢true is)

or_none : (a b : Bool) → (a || b) ≡ false → (a ≡ false) × (b ≡ false)
or_none true b is = absurd (false≢true (sym is))
or_none false b is = (refl, is)

or_some : (a b : Bool) → (a || b) ≡ true → (a ≡ true) ⊎ (b ≡ true)
or_some true b is = inl refl
or_some false b is = inr is

pub none_is : (rank : RankParts) (ranks : List RankParts) → is_taken ranks rank ≡ false → All (λ r. r ≢ rank) ranks
none_is rank [] is = All-nil (λ r. r ≢ rank)
none_is rank (r ∷ ranks) is =
    let parts = or_none (is_eq (rank_cmp rank r)) (is_taken ranks rank) is in
    All-cons (λ r. r ≢ rank) r ranks
    (λ same. false≢true (sym parts.0 ∙ ap (λ x. is_eq (rank_cmp rank x)) same ∙ own_equal rank))
    (none_is rank ranks parts.1)

pub one_is : (rank : RankParts) (ranks : List RankParts) → IsRank rank → All IsRank ranks → is_taken ranks rank ≡ true → All (λ r. r ≢ rank) ranks → ⊥
one_is rank [] is are taken none = false≢true taken
one_is rank (r ∷ ranks) is are taken none = elim (or_some (is_eq (rank_cmp rank r)) (is_taken ranks rank) taken) [
  | inl here ↦ All-head (λ r. r ≢ rank) r ranks none
      (sym (same_from_equal rank r is (All-head IsRank r ranks are) (equal_of (rank_cmp rank r) here)))
  | inr behind ↦ one_is rank ranks is (All-tail IsRank r ranks are) behind (All-tail (λ r. r ≢ rank) r ranks none)
]

last_of : (a b : Bool) → (a || (b || false)) ≡ (if b then true else a)
last_of true true = refl
last_of true false = refl
last_of false true = refl
last_of false false = refl

taken_last : (ranks : List RankParts) (last rank : RankParts) → is_taken (ranks ++ last ∷ []) rank ≡ (if is_eq (rank_cmp last rank) then true else is_taken ranks rank)
taken_last [] last rank = last_of false (is_eq (rank_cmp rank last)) ∙ ap (λ b. if b then true else false) (flips rank last)
taken_last (r ∷ ranks) last rank =
    ap (λ b. is_eq (rank_cmp rank r) || b) (taken_last ranks last rank) ∙ by (is_eq (rank_cmp rank r)) (is_eq (rank_cmp last rank)) (is_taken ranks rank)
  where
    by : (a b c : Bool) → (a || (if b then true else c)) ≡ (if b then true else (a || c))
    by true true c = refl
    by true false c = refl
    by false b c = refl

pub taken_more : (ranks old new : List RankParts) (last : RankParts) → AreTaken ranks old
    → ((q : RankParts) → is_taken new q ≡ (if is_eq (rank_cmp last q) then true else is_taken old q)) → AreTaken (ranks ++ last ∷ []) new
taken_more ranks old new last are more rank =
    more rank ∙ ap (λ b. if is_eq (rank_cmp last rank) then true else b) (are rank) ∙ sym (taken_last ranks last rank)

-- ---- a rank that is free

module _ (ranks : List RankParts) (order : List Pair) (issue : IssueNo) (rank : RankParts) (permuted : IsPermutation (numbered_from 1 ranks) order)
    (next : issue.0 ≡ length order + 1) where
  same_order : without issue.0 order ≡ order
  same_order = none_without ranks order issue permuted next

  pub is_free : is_taken ranks rank ≡ false → IsFreeFor order issue.0 rank
  is_free none =
      let others = none_is rank ranks none in
      subst (λ (ps : List Pair). All (λ p. p.0 ≢ rank) ps) (sym same_order)
      (All-permutation (λ (p : Pair). p.0 ≢ rank) (numbered_from 1 ranks) order permuted
      (λ k d lt same.
      let in' : k < length ranks = omega (arith, lt, length-numbered_from 1 ranks) in
      others k no_rank in' (ap (λ (p : Pair). p.0) (sym (pair_numbered 1 ranks k d no_rank in')) ∙ same)))

  pub isnt_free : IsRank rank → All IsRank ranks → is_taken ranks rank ≡ true → IsFreeFor order issue.0 rank → ⊥
  isnt_free is are taken free =
      let all : All (λ (p : Pair). p.0 ≢ rank) (numbered_from 1 ranks) =
      All-permutation (λ (p : Pair). p.0 ≢ rank) order (numbered_from 1 ranks) (IsPermutation-sym (numbered_from 1 ranks) order permuted)
      (subst (λ (ps : List Pair). All (λ p. p.0 ≢ rank) ps) same_order free) in
      one_is rank ranks is are taken
      (λ k d lt same.
      all k nothing (omega (arith, lt, length-numbered_from 1 ranks)) (ap (λ (p : Pair). p.0) (pair_numbered 1 ranks k nothing d lt) ∙ same))
