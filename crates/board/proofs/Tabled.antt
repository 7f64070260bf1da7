-- Issues in order beside the ranks that a table has for them.
use Rattle.std.proofs.Common.{◌≡◌, ◌≢◌, ℕ, zero, suc, ◌<◌, ◌≤◌, ◌==◌, true, false, Bool, List, [], ◌∷◌, ◌++◌, length, get_or, set, Option, Some, None, ◌⊎◌, inl, inr, refl, sym, ◌∙◌, ap, arith}
use Rattle.std.specs.Prelude.{insert, remove, map, option_map, slice_get}
use Rattle.std.specs.declared.cmp.Ordering.TheVariants.{Less, Equal}
use Rattle.std.specs.Ordering.{is_lt}
use Rattle.std.specs.List.Sorted.{IsPartitionedBy, IsPartitionPoint}
use Rattle.std.proofs.lemmas.Bool.{cases_eq, cases_lt}
use Rattle.std.proofs.lemmas.Bool.Decides.{nat_tests}
use Rattle.std.proofs.lemmas.Cmp.{tied_itself}
use Rattle.std.proofs.lemmas.List.{length-map, get_or-map, get_or-set_same, get_or-set_other}
use Rattle.std.proofs.lemmas.Option.{slice_get-get_or, slice_get_past}
use Rattle.field_values.specs.declared.numbers.IssueNo.{IssueNo}
use Rattle.rank_strings.specs.Rank.{RankParts, IsRank, rank_cmp}
use Rattle.rank_strings.specs.Total.{rank_cmp-total}
use Rattle.board.specs.Order.{Pair, IsOrder, places_before, place_in, rank_in, without, put_in}
use Rattle.board.specs.Issues.{other_issues}
use Rattle.board.specs.Table.{nothing, number_at, rank_or_nothing, pair_by, pairs_by, IsTableOf}
use Rattle.board.specs.Search.{rank_at, is_below, IsFront}
use Rattle.board.proofs.Moves.{places_before-number_at}
use Rattle.board.proofs.Parted.{parted, less_from_lt, not_less_from_lt}

abbrev pub number_in : List IssueNo → ℕ → ℕ
number_in is k = let i = get_or is k nothing.1 in i.0

-- an entry of nothing more changes no entry
pub get_or-push_default : {X : Type 0} (xs : List X) (d : X) (i : ℕ) → get_or (xs ++ d ∷ []) i d ≡ get_or xs i d
get_or-push_default [] d zero = refl
get_or-push_default [] d (suc i) = refl
get_or-push_default (x ∷ xs) d zero = refl
get_or-push_default (x ∷ xs) d (suc i) = get_or-push_default xs d i

-- a pair's rank by its issue
pub rank_in-at : (ps : List Pair) (k : ℕ) → IsOrder ps → k < length ps → rank_in ps (number_at ps k) ≡ Some (rank_at ps k)
rank_in-at ps k order lt =
    ap (λ j. option_map (λ (p : Pair). p.0) (slice_get ps j)) (places_before-number_at ps k order.once lt)
    ∙ ap (option_map (λ (p : Pair). p.0)) (slice_get-get_or ps k nothing lt)

-- an issue that has a rank stands at the end of the front below it
pub place-front : (ps : List Pair) (issue : ℕ) (rank : RankParts) (n : ℕ) → IsOrder ps → rank_in ps issue ≡ Some rank → IsFront ps rank n → Some n ≡ place_in ps issue
place-front ps issue rank n order has front = by (cases_lt (places_before ps issue) (length ps))
  where
    by : (places_before ps issue < length ps) ⊎ (length ps ≤ places_before ps issue) → Some n ≡ place_in ps issue
    by (inr ge) =
        let none : rank_in ps issue ≡ None = ap (option_map (λ (p : Pair). p.0)) (slice_get_past ps (places_before ps issue) ge) in
        absurd (cc)
    by (inl lt) = there (cases_lt n (places_before ps issue)) (cases_lt (places_before ps issue) n)
      where
        own : rank_at ps (places_before ps issue) ≡ rank
        own = let got : Some (rank_at ps (places_before ps issue)) ≡ Some rank = sym (ap (option_map (λ (p : Pair). p.0)) (slice_get-get_or ps (places_before ps issue) nothing lt)) ∙ has in cc

        there : (n < places_before ps issue) ⊎ (places_before ps issue ≤ n) → (places_before ps issue < n) ⊎ (n ≤ places_before ps issue) → Some n ≡ place_in ps issue
        there (inl a) b =
            let less = order.rising n (places_before ps issue) nothing a lt in
            absurd (front.not_below n (omega arith) (omega arith) (sym (ap (rank_cmp (rank_at ps n)) own) ∙ less))
        there (inr a) (inl b) =
            let less : rank_cmp rank rank ≡ Less = sym (ap (λ r. rank_cmp r rank) own) ∙ front.below (places_before ps issue) b in
            let itself : rank_cmp rank rank ≡ Equal = tied_itself rank_cmp-total rank in
            let no : Equal ≡ Less = sym itself ∙ less in absurd (cc)
        there (inr a) (inr b) =
            let e : n ≡ places_before ps issue = omega arith in
            ap Some e ∙ sym (grind (arith, nat_tests))

pub place-none : (ps : List Pair) (issue : ℕ) → rank_in ps issue ≡ None → None ≡ place_in ps issue
place-none ps issue none = by (cases_lt (places_before ps issue) (length ps))
  where
    by : (places_before ps issue < length ps) ⊎ (length ps ≤ places_before ps issue) → None ≡ place_in ps issue
    by (inl lt) =
        let some : rank_in ps issue ≡ Some (rank_at ps (places_before ps issue)) = ap (option_map (λ (p : Pair). p.0)) (slice_get-get_or ps (places_before ps issue) nothing lt) in
        absurd (cc)
    by (inr le) = grind (arith, nat_tests)

module _ (ranks : List (Option RankParts)) where
  pub length-pairs : (is : List IssueNo) → length (pairs_by ranks is) ≡ length is
  length-pairs is = length-map is (pair_by ranks)

  pub issues-pairs : (is : List IssueNo) → is ≡ map (λ (p : Pair). p.1) (pairs_by ranks is)
  issues-pairs [] = refl
  issues-pairs (i ∷ is) = ap (λ (xs : List IssueNo). i ∷ xs) (issues-pairs is)

  pub issue-pairs : (is : List IssueNo) (k : ℕ) → slice_get is k ≡ option_map (λ (p : Pair). p.1) (slice_get (pairs_by ranks is) k)
  issue-pairs [] k = refl
  issue-pairs (i ∷ is) zero = refl
  issue-pairs (i ∷ is) (suc k) = issue-pairs is k

  pub number-pairs : (is : List IssueNo) (k : ℕ) (d : IssueNo) → k < length is → number_at (pairs_by ranks is) k ≡ (get_or is k d).0
  number-pairs is k d lt = ap (λ (p : Pair). p.1.0) (get_or-map (pair_by ranks) is k d nothing lt)

  pub without-pairs : (issue : ℕ) (is : List IssueNo) → without issue (pairs_by ranks is) ≡ pairs_by ranks (other_issues issue is)
  without-pairs issue [] = refl
  without-pairs issue (i ∷ is) = by (i.0 == issue) refl (without-pairs issue is)
    where
      by : (b : Bool) → (i.0 == issue) ≡ b → without issue (pairs_by ranks is) ≡ pairs_by ranks (other_issues issue is) → without issue (pairs_by ranks (i ∷ is)) ≡ pairs_by ranks (other_issues issue (i ∷ is))
      by true e rest = rw e rest
      by false e rest = rw e (ap (λ (ps : List Pair). pair_by ranks i ∷ ps) rest)

  module _ (is : List IssueNo) (order : IsOrder (pairs_by ranks is)) (table : IsTableOf (pairs_by ranks is) ranks) where
    pub ranked : (k : ℕ) (d : IssueNo) → k < length is → get_or ranks (get_or is k d).0 None ≡ Some (rank_at (pairs_by ranks is) k)
    ranked k d lt =
        let n = length-pairs is in
        table (get_or is k d).0 ∙ ap (rank_in (pairs_by ranks is)) (sym (number-pairs is k d lt)) ∙ rank_in-at (pairs_by ranks is) k order (omega arith)

    -- issues whose ranks are below r stand before the others
    pub parted_issues : (r : RankParts) → IsPartitionedBy (λ i. is_below (get_or ranks i.0 None) r) is
    parted_issues r i j d le in_range below =
        let n = length-pairs is in
        ap (λ o. is_below o r) (ranked i d (omega arith))
        ∙ parted (pairs_by ranks is) order r i j nothing le (omega arith) (sym (ap (λ o. is_below o r) (ranked j d in_range)) ∙ below)

    pub front_issues : (r : RankParts) (n : ℕ) → IsRank r → n ≤ length is → IsPartitionPoint (λ i. is_below (get_or ranks i.0 None) r ≡ true) (λ i. is_below (get_or ranks i.0 None) r ≡ false) is n → IsFront (pairs_by ranks is) r n
    front_issues r n is_rank in_range point =
        let m = length-pairs is in
        record {
          is_rank = is_rank;
          in_range = omega arith;
          below = λ k lt. less_from_lt (rank_cmp (rank_at (pairs_by ranks is) k) r) (sym (ap (λ o. is_below o r) (ranked k nothing.1 (omega arith))) ∙ point.0 k nothing.1 (omega arith) lt);
          not_below = λ k le lt. not_less_from_lt (rank_cmp (rank_at (pairs_by ranks is) k) r) (sym (ap (λ o. is_below o r) (ranked k nothing.1 (omega arith))) ∙ point.1 k nothing.1 le (omega arith));
        }

    pub numbers_once : (i j : ℕ) (d : IssueNo) → i < j → j < length is → (get_or is i d).0 ≢ (get_or is j d).0
    numbers_once i j d less lt same =
        let n = length-pairs is in
        order.once i j nothing less (omega arith) (number-pairs is i d (omega arith) ∙ same ∙ sym (number-pairs is j d lt))

-- the issues but one
pub others-absent : (issue : ℕ) (is : List IssueNo) → ((k : ℕ) → k < length is → number_in is k ≢ issue) → other_issues issue is ≡ is
others-absent issue [] absent = refl
others-absent issue (i ∷ is) absent =
    let rest = others-absent issue is (λ k lt. absent (suc k) (omega arith)) in
    let other = absent 0 (omega arith) in
    grind (arith, nat_tests)

pub others-at : (is : List IssueNo) (k issue : ℕ) → ((i j : ℕ) (d : IssueNo) → i < j → j < length is → (get_or is i d).0 ≢ (get_or is j d).0) → k < length is → number_in is k ≡ issue → other_issues issue is ≡ remove is k
others-at [] k issue once lt here = absurd (omega arith)
others-at (i ∷ is) zero issue once lt here =
    let rest = others-absent issue is (λ k in_range same. once 0 (suc k) nothing.1 (omega arith) (omega arith) (here ∙ sym same)) in
    grind (arith, nat_tests)
others-at (i ∷ is) (suc k) issue once lt here =
    let other : i.0 ≢ issue = λ e. once 0 (suc k) nothing.1 (omega arith) lt (e ∙ sym here) in
    let rest = others-at is k issue (λ a b d less in_range. once (suc a) (suc b) d (omega arith) (omega arith)) (omega arith) here in
    grind (arith, nat_tests)

pub others-differ : (is : List IssueNo) (issue : ℕ) (k : ℕ) → k < length (other_issues issue is) → number_in (other_issues issue is) k ≢ issue
others-differ [] issue k lt = absurd (omega arith)
others-differ (i ∷ is) issue k lt = by (i.0 == issue) refl k lt (others-differ is issue)
  where
    by : (b : Bool) → (i.0 == issue) ≡ b → (k : ℕ) → k < length (other_issues issue (i ∷ is)) → ((k : ℕ) → k < length (other_issues issue is) → number_in (other_issues issue is) k ≢ issue) → number_in (other_issues issue (i ∷ is)) k ≢ issue
    by true e k lt rest = rw e (rest k (let shorter = rw e at lt in shorter))
    by false e zero lt rest = rw e (let other : i.0 ≢ issue = grind (arith, nat_tests) in other)
    by false e (suc k) lt rest = rw e (let shorter = rw e at lt in rest k (omega arith))

-- ranks by issue after a change
pub rank_in-same : (p : Pair) (ps : List Pair) (issue : ℕ) → (p.1.0 == issue) ≡ true → rank_in (p ∷ ps) issue ≡ Some p.0
rank_in-same p ps issue e = rw e refl

pub rank_in-other : (p : Pair) (ps : List Pair) (issue : ℕ) → (p.1.0 == issue) ≡ false → rank_in (p ∷ ps) issue ≡ rank_in ps issue
rank_in-other p ps issue e = rw e refl

pub rank_in-without : (ps : List Pair) (issue other : ℕ) → other ≢ issue → rank_in (without issue ps) other ≡ rank_in ps other
rank_in-without [] issue other differ = refl
rank_in-without (p ∷ ps) issue other differ = by (p.1.0 == issue) refl (p.1.0 == other) refl (rank_in-without ps issue other differ)
  where
    by : (b : Bool) → (p.1.0 == issue) ≡ b → (c : Bool) → (p.1.0 == other) ≡ c → rank_in (without issue ps) other ≡ rank_in ps other → rank_in (without issue (p ∷ ps)) other ≡ rank_in (p ∷ ps) other
    by true e true f rest = absurd (grind (arith, nat_tests))
    by true e false f rest = rw (e, f) rest
    by false e true f rest = rw (e, f) refl
    by false e false f rest = rw (e, f) rest

pub rank_in-put : (x : Pair) (ps : List Pair) (other : ℕ) → (x.1.0 == other) ≡ false → rank_in (put_in x ps) other ≡ rank_in ps other
rank_in-put x [] other differ = rank_in-other x [] other differ
rank_in-put x (p ∷ ps) other differ = by (is_lt (rank_cmp x.0 p.0)) refl (p.1.0 == other) refl (rank_in-put x ps other differ)
  where
    by : (b : Bool) → is_lt (rank_cmp x.0 p.0) ≡ b → (c : Bool) → (p.1.0 == other) ≡ c → rank_in (put_in x ps) other ≡ rank_in ps other → rank_in (put_in x (p ∷ ps)) other ≡ rank_in (p ∷ ps) other
    by true e c f rest = rw e (rank_in-other x (p ∷ ps) other differ)
    by false e true f rest = rw (e, f) refl
    by false e false f rest = rw (e, f) rest

pub rank_in-put_one : (x : Pair) (ps : List Pair) → ((k : ℕ) → k < length ps → number_at ps k ≢ x.1.0) → rank_in (put_in x ps) x.1.0 ≡ Some x.0
rank_in-put_one x [] absent = rank_in-same x [] x.1.0 (grind (arith, nat_tests))
rank_in-put_one x (p ∷ ps) absent = by (is_lt (rank_cmp x.0 p.0)) refl (rank_in-put_one x ps (λ k lt. absent (suc k) (omega arith)))
  where
    itself : (x.1.0 == x.1.0) ≡ true
    itself = grind (arith, nat_tests)

    other : (p.1.0 == x.1.0) ≡ false
    other = let differ = absent 0 (omega arith) in grind (arith, nat_tests)

    by : (b : Bool) → is_lt (rank_cmp x.0 p.0) ≡ b → rank_in (put_in x ps) x.1.0 ≡ Some x.0 → rank_in (put_in x (p ∷ ps)) x.1.0 ≡ Some x.0
    by true e rest = rw e (rank_in-same x (p ∷ ps) x.1.0 itself)
    by false e rest = rw (e, other) rest

-- the issue gets its rank
module _ (ranks : List (Option RankParts)) (issue : IssueNo) (rank : RankParts) (in_table : issue.0 < length ranks) where
  abbrev given : List (Option RankParts)
  given = set ranks issue.0 (Some rank)

  own : pair_by given issue ≡ (rank, issue)
  own = ap (λ o. (rank_or_nothing o, issue)) (get_or-set_same ranks issue.0 (Some rank) None in_table)

  other : (i : IssueNo) → i.0 ≢ issue.0 → pair_by given i ≡ pair_by ranks i
  other i differ = ap (λ o. (rank_or_nothing o, i)) (get_or-set_other ranks issue.0 i.0 (Some rank) None differ)

  others_stay : (is : List IssueNo) → ((k : ℕ) → k < length is → number_in is k ≢ issue.0) → pairs_by given is ≡ pairs_by ranks is
  others_stay [] differ = refl
  others_stay (i ∷ is) differ =
      ap (λ (p : Pair). p ∷ pairs_by given is) (other i (differ 0 (omega arith)))
      ∙ ap (λ (ps : List Pair). pair_by ranks i ∷ ps) (others_stay is (λ k lt. differ (suc k) (omega arith)))

  pub pairs-insert : (is : List IssueNo) (to : ℕ) → to ≤ length is → ((k : ℕ) → k < length is → number_in is k ≢ issue.0) → pairs_by given (insert is to issue) ≡ insert (pairs_by ranks is) to (rank, issue)
  pairs-insert is zero le differ =
      ap (λ (p : Pair). p ∷ pairs_by given is) own ∙ ap (λ (ps : List Pair). (rank, issue) ∷ ps) (others_stay is differ)
  pairs-insert [] (suc to) le differ = absurd (omega arith)
  pairs-insert (i ∷ is) (suc to) le differ =
      ap (λ (p : Pair). p ∷ pairs_by given (insert is to issue)) (other i (differ 0 (omega arith)))
      ∙ ap (λ (ps : List Pair). pair_by ranks i ∷ ps) (pairs-insert is to (omega arith) (λ k lt. differ (suc k) (omega arith)))

  pub table_after : (ps : List Pair) → IsTableOf ps ranks → ((k : ℕ) → k < length (without issue.0 ps) → number_at (without issue.0 ps) k ≢ issue.0) → IsTableOf (put_in (rank, issue) (without issue.0 ps)) given
  table_after ps table differ n = by (cases_eq n issue.0)
    where
      by : (n ≡ issue.0) ⊎ (n ≡ issue.0 → ⊥) → get_or given n None ≡ rank_in (put_in (rank, issue) (without issue.0 ps)) n
      by (inl e) =
          ap (λ k. get_or given k None) e ∙ get_or-set_same ranks issue.0 (Some rank) None in_table
          ∙ sym (ap (rank_in (put_in (rank, issue) (without issue.0 ps))) e ∙ rank_in-put_one (rank, issue) (without issue.0 ps) differ)
      by (inr e) =
          let not_it : (issue.0 == n) ≡ false = grind (arith, nat_tests) in
          get_or-set_other ranks issue.0 n (Some rank) None e ∙ table n
          ∙ sym (rank_in-put (rank, issue) (without issue.0 ps) n not_it ∙ rank_in-without ps issue.0 n e)
