-- A pair that goes to its place among the others.
use Rattle.std.proofs.Common.{◌≡◌, ◌≢◌, ℕ, zero, suc, ◌+◌, ◌-◌, ◌<◌, ◌≤◌, true, false, List, [], ◌∷◌, ◌⊎◌, length, get_or, refl, sym, ◌∙◌, ap, subst, inl, inr, arith}
use Rattle.std.specs.Prelude.{AllPairs, All, insert, remove}
use Rattle.std.specs.declared.cmp.Ordering.{Ordering}
use Rattle.std.specs.declared.cmp.Ordering.TheVariants.{Less, Equal, Greater}
use Rattle.std.specs.Ordering.{is_lt, ordering_reverse}
use Rattle.std.proofs.lemmas.Bool.{cases_eq, cases_lt}
use Rattle.std.proofs.lemmas.List.{get_or_past}
use Rattle.std.proofs.lemmas.List.Edits.{length-insert, length-remove, get_or-insert_below, get_or-insert_at, get_or-insert_above, get_or-remove_below, get_or-remove_above}
use Rattle.std.proofs.lemmas.List.Quantifiers.{all_pairs_remove}
use Rattle.rank_strings.specs.Rank.{RankParts, IsRank, IsBelow, rank_cmp}
use Rattle.rank_strings.specs.Total.{rank_cmp-total}
use Rattle.rank_strings.proofs.Reading.{same_from_equal}
use Rattle.board.specs.Order.{Pair, IsOrder, IsFreeFor, places_before, without, put_in}
use Rattle.board.specs.Table.{nothing, number_at}
use Rattle.board.specs.Search.{rank_at, IsFront, Fits, GoesTo}
use Rattle.board.proofs.Moves.{places_before-number_at, number_at-places_before}
use Rattle.board.proofs.Given.{without-at, without-absent}

-- a pair stands behind those below it and before those above it
pub put_in-at : (rest : List Pair) (to : ℕ) (x : Pair) → to ≤ length rest →
    ((k : ℕ) → k < to → rank_cmp (rank_at rest k) x.0 ≡ Less) →
    ((k : ℕ) → to ≤ k → k < length rest → rank_cmp x.0 (rank_at rest k) ≡ Less) →
    put_in x rest ≡ insert rest to x
put_in-at [] zero x le below above = refl
put_in-at [] (suc to) x le below above = absurd (omega arith)
put_in-at (p ∷ rest) zero x le below above =
    let lt : is_lt (rank_cmp x.0 p.0) ≡ true = ap is_lt (above 0 (omega arith) (omega arith)) in
    rw lt refl
put_in-at (p ∷ rest) (suc to) x le below above =
    let turned : rank_cmp x.0 p.0 ≡ Greater = rank_cmp-total.antisymm x.0 p.0 ∙ ap ordering_reverse (below 0 (omega arith)) in
    let ge : is_lt (rank_cmp x.0 p.0) ≡ false = ap is_lt turned in
    let tail = put_in-at rest to x (omega arith) (λ k lt. below (suc k) (omega arith)) (λ k low high. above (suc k) (omega arith) (omega arith)) in
    rw ge (ap (λ ys. p ∷ ys) tail)

-- a relation holds of all pairs where it holds of those of the others and of each with the new one
pub AllPairs-insert : {X : Type 0} (R : X → X → Type 0) (xs : List X) (n : ℕ) (x : X) → AllPairs R xs → n ≤ length xs →
    ((k : ℕ) (d : X) → k < n → R (get_or xs k d) x) → ((k : ℕ) (d : X) → n ≤ k → k < length xs → R x (get_or xs k d)) → AllPairs R (insert xs n x)
AllPairs-insert {X} R xs n x all le before behind = λ i j d less in_range. by i j d less in_range (cases_lt i n) (cases_eq i n) (cases_lt j n) (cases_eq j n)
  where
    low : (k : ℕ) (d : X) → k < n → get_or xs k d ≡ get_or (insert xs n x) k d
    low k d lt = sym (get_or-insert_below xs n x d k lt le)

    mid : (k : ℕ) (d : X) → k ≡ n → x ≡ get_or (insert xs n x) k d
    mid k d e = sym (ap (λ m. get_or (insert xs n x) m d) e ∙ get_or-insert_at xs n x d le)

    high : (k : ℕ) (d : X) → n < k → get_or xs (k - 1) d ≡ get_or (insert xs n x) k d
    high k d lt = let is : k - 1 + 1 ≡ k = omega arith in sym (ap (λ m. get_or (insert xs n x) m d) (sym is) ∙ get_or-insert_above xs n x d (k - 1) (omega arith) le)

    both : (a b c d : X) → a ≡ b → c ≡ d → R a c → R b d
    both a b c d e f h = subst (λ y. R y d) e (subst (λ y. R a y) f h)

    by : (i j : ℕ) (d : X) → i < j → j < length (insert xs n x) → (i < n) ⊎ (n ≤ i) → (i ≡ n) ⊎ (i ≡ n → ⊥) → (j < n) ⊎ (n ≤ j) → (j ≡ n) ⊎ (j ≡ n → ⊥) → R (get_or (insert xs n x) i d) (get_or (insert xs n x) j d)
    by i j d less in_range (inl a) e (inl b) f = both _ _ _ _ (low i d a) (low j d b) (all i j d less (omega arith))
    by i j d less in_range (inl a) e (inr b) (inl f) = both _ _ _ _ (low i d a) (mid j d f) (before i d a)
    by i j d less in_range (inl a) e (inr b) (inr f) = let m = length-insert xs n x le in both _ _ _ _ (low i d a) (high j d (omega arith)) (all i (j - 1) d (omega arith) (omega arith))
    by i j d less in_range (inr a) (inl e) (inl b) f = absurd (omega arith)
    by i j d less in_range (inr a) (inl e) (inr b) (inl f) = absurd (omega arith)
    by i j d less in_range (inr a) (inl e) (inr b) (inr f) = let m = length-insert xs n x le in both _ _ _ _ (mid i d e) (high j d (omega arith)) (behind (j - 1) d (omega arith) (omega arith))
    by i j d less in_range (inr a) (inr e) (inl b) f = absurd (omega arith)
    by i j d less in_range (inr a) (inr e) (inr b) (inl f) = absurd (omega arith)
    by i j d less in_range (inr a) (inr e) (inr b) (inr f) = let m = length-insert xs n x le in both _ _ _ _ (high i d (omega arith)) (high j d (omega arith)) (all (i - 1) (j - 1) d (omega arith) (omega arith))

-- the pairs of the others: the same ones before the issue's place, and the next ones from there on
pub record AreOthers (ps rest : List Pair) (place : ℕ) : Type 0 where
  pub before : (k : ℕ) → k < place → get_or rest k nothing ≡ get_or ps k nothing
  pub behind : (k : ℕ) → place ≤ k → get_or rest k nothing ≡ get_or ps (k + 1) nothing
  pub there : place < length ps → length rest + 1 ≡ length ps
  pub not_there : length ps ≤ place → length rest ≡ length ps
  pub in_order : IsOrder rest

pub others : (ps : List Pair) (issue : ℕ) → IsOrder ps → AreOthers ps (without issue ps) (places_before ps issue)
others ps issue order = by (cases_lt (places_before ps issue) (length ps))
  where
    by : (places_before ps issue < length ps) ⊎ (length ps ≤ places_before ps issue) → AreOthers ps (without issue ps) (places_before ps issue)
    by (inl lt) =
        let k = places_before ps issue in
        let here : number_at ps k ≡ issue = number_at-places_before ps issue lt in
        let is : remove ps k ≡ without issue ps = sym (without-at ps k order.once lt) ∙ ap (λ i. without i ps) here in
        let n = length-remove ps k lt in
        subst (λ rest. AreOthers ps rest k) is (record {
          before = λ j less. get_or-remove_below ps k nothing j less lt;
          behind = λ j le. get_or-remove_above ps k nothing j le lt;
          there = λ h. omega arith;
          not_there = λ h. omega arith;
          in_order = record {
            ranks = all_removed ps k order lt (length-remove ps k lt);
            rising = all_pairs_remove (λ p q. IsBelow p.0 q.0) ps k lt order.rising;
            once = all_pairs_remove (λ p q. p.1.0 ≢ q.1.0) ps k lt order.once;
          };
        })
      where
        all_removed : (ps : List Pair) (k : ℕ) → IsOrder ps → (lt : k < length ps) → length (remove ps k) + 1 ≡ length ps → All (λ p. IsRank p.0) (remove ps k)
        all_removed ps k order lt n j d in_range = from (cases_lt j k)
          where
            from : (j < k) ⊎ (k ≤ j) → IsRank (get_or (remove ps k) j d).0
            from (inl less) = subst (λ p. IsRank p.0) (sym (get_or-remove_below ps k d j less lt)) (order.ranks j d (omega arith))
            from (inr le) = subst (λ p. IsRank p.0) (sym (get_or-remove_above ps k d j le lt)) (order.ranks (j + 1) d (omega arith))
    by (inr ge) =
        let is : ps ≡ without issue ps = sym (without-absent ps issue (λ k lt same. let here = sym (places_before-number_at ps k order.once lt) ∙ ap (places_before ps) same in omega arith)) in
        subst (λ rest. AreOthers ps rest (places_before ps issue)) is (record {
          before = λ k lt. refl;
          behind = λ k le. get_or_past ps k nothing (omega arith) ∙ sym (get_or_past ps (k + 1) nothing (omega arith));
          there = λ h. omega arith;
          not_there = λ h. refl;
          in_order = order;
        })

-- a rank that is neither less nor the same is greater
pub above_from_not_below : (a r : RankParts) → IsRank a → IsRank r → rank_cmp a r ≢ Less → a ≢ r → rank_cmp r a ≡ Less
above_from_not_below a r is_a is_r not_below differ = rank_cmp-total.antisymm r a ∙ ap ordering_reverse (greater (rank_cmp a r) not_below (λ e. differ (same_from_equal a r is_a is_r e)))
  where
    greater : (o : Ordering) → o ≢ Less → o ≢ Equal → o ≡ Greater
    greater Less a b = absurd (a refl)
    greater Equal a b = absurd (b refl)
    greater Greater a b = refl

-- the place that a rank has among the others
module _ (ps : List Pair) (rank : RankParts) (issue : ℕ) (place below to : ℕ)
    (order : IsOrder ps) (free : IsFreeFor ps issue rank) (front : IsFront ps rank below)
    (place_is : place ≡ places_before ps issue) (goes : GoesTo place below to) where
  abbrev rest : List Pair
  rest = without issue ps

  o : AreOthers ps rest place
  o = subst (λ k. AreOthers ps rest k) (sym place_is) (others ps issue order)

  to_in : to ≤ length rest
  to_in = by (cases_lt place (length ps)) (cases_lt place below)
    where
      by : (place < length ps) ⊎ (length ps ≤ place) → (place < below) ⊎ (below ≤ place) → to ≤ length rest
      by (inl h) (inl l) = let n = o.there h in let t = goes.later l in let b = front.in_range in omega (arith, n, t, b)
      by (inl h) (inr l) = let n = o.there h in let t = goes.earlier l in let b = front.in_range in omega (arith, n, t, b)
      by (inr h) (inl l) = let b = front.in_range in absurd (omega (arith, b))
      by (inr h) (inr l) = let n = o.not_there h in let t = goes.earlier l in let b = front.in_range in omega (arith, n, t, b)

  below_to : (k : ℕ) → k < to → rank_cmp (rank_at rest k) rank ≡ Less
  below_to k lt = by (cases_lt k place) (cases_lt place below)
    where
      by : (k < place) ⊎ (place ≤ k) → (place < below) ⊎ (below ≤ place) → rank_cmp (rank_at rest k) rank ≡ Less
      by (inl h) (inl l) = let t = goes.later l in ap (λ p. rank_cmp p.0 rank) (o.before k h) ∙ front.below k (omega (arith, t))
      by (inl h) (inr l) = let t = goes.earlier l in ap (λ p. rank_cmp p.0 rank) (o.before k h) ∙ front.below k (omega (arith, t))
      by (inr h) (inl l) = let t = goes.later l in ap (λ p. rank_cmp p.0 rank) (o.behind k h) ∙ front.below (k + 1) (omega (arith, t))
      by (inr h) (inr l) = let t = goes.earlier l in absurd (omega (arith, t))

  above_to : (k : ℕ) → to ≤ k → k < length rest → rank_cmp rank (rank_at rest k) ≡ Less
  above_to k le lt = above_from_not_below (rank_at rest k) rank (o.in_order.ranks k nothing lt) front.is_rank (not_below (cases_lt k place) (cases_lt place below) (cases_lt place (length ps))) (free k nothing lt)
    where
      not_below : (k < place) ⊎ (place ≤ k) → (place < below) ⊎ (below ≤ place) → (place < length ps) ⊎ (length ps ≤ place) → rank_cmp (rank_at rest k) rank ≢ Less
      not_below (inl h) (inl l) m = let t = goes.later l in absurd (omega (arith, t))
      not_below (inl h) (inr l) (inl m) = let t = goes.earlier l in let n = o.there m in λ e. front.not_below k (omega (arith, t)) (omega (arith, n)) (sym (ap (λ p. rank_cmp p.0 rank) (o.before k h)) ∙ e)
      not_below (inl h) (inr l) (inr m) = let t = goes.earlier l in let n = o.not_there m in λ e. front.not_below k (omega (arith, t)) (omega (arith, n)) (sym (ap (λ p. rank_cmp p.0 rank) (o.before k h)) ∙ e)
      not_below (inr h) (inl l) (inl m) = let t = goes.later l in let n = o.there m in λ e. front.not_below (k + 1) (omega (arith, t)) (omega (arith, n)) (sym (ap (λ p. rank_cmp p.0 rank) (o.behind k h)) ∙ e)
      not_below (inr h) (inr l) (inl m) = let t = goes.earlier l in let n = o.there m in λ e. front.not_below (k + 1) (omega (arith, t)) (omega (arith, n)) (sym (ap (λ p. rank_cmp p.0 rank) (o.behind k h)) ∙ e)
      not_below (inr h) l (inr m) = let n = o.not_there m in absurd (omega (arith, n))

  pub fits_there : Fits rest rank to
  fits_there = record { in_range = to_in; below = below_to; above = above_to }
