-- Places go by the list of issues alone, and a move takes its issue out of the list and puts it in again.
use Rattle.std.proofs.Common.{◌≡◌, ℕ, zero, suc, ◌+◌, ◌==◌, true, false, inl, inr, List, [], ◌∷◌, ◌⊎◌, length, Option, Some, None, refl, sym, ◌∙◌, ap, arith, if◌then◌else◌}
use Rattle.std.specs.Prelude.{insert, option_map, slice_get, nat_lt, IfSome}
use Rattle.std.proofs.lemmas.Bool.{cases_Bool}
use Rattle.std.proofs.lemmas.List.{length-map}
use Rattle.std.proofs.lemmas.Option.{slice_get-map}
use Rattle.field_values.specs.declared.numbers.IssueNo.{IssueNo}
use Rattle.board.specs.declared.place.Place.{Place}
use Rattle.board.specs.declared.place.Place.TheVariants.{Before, After, Last}
use Rattle.board.specs.Order.{Pair, IsIn, places_before, place_in, pair_before, beside, without}
use Rattle.board.specs.Place.{above_place, gap, stands_at, named_by, AreNamed}
use Rattle.board.specs.Issues.{issues_in, issues_before, other_issues, issues_above, HaveSamePlaces}
use Rattle.board.specs.Laws.{PlacesGoByIssues, IssuesAreMoved}
use Rattle.board.proofs.Placing.{others_asked, ranks_put_there}

issue_of : Pair → IssueNo
issue_of p = p.1

places_before-issues : (ps : List Pair) (issue : ℕ) → places_before ps issue ≡ issues_before (issues_in ps) issue
places_before-issues [] issue = refl
places_before-issues (p ∷ ps) issue = ap (λ n. if p.1.0 == issue then 0 else suc n) (places_before-issues ps issue)

pub without-issues : (issue : ℕ) (ps : List Pair) → issues_in (without issue ps) ≡ other_issues issue (issues_in ps)
without-issues issue [] = refl
without-issues issue (p ∷ ps) = by (cases_Bool (p.1.0 == issue)) (without-issues issue ps)
  where
    by : ((p.1.0 == issue) ≡ true) ⊎ ((p.1.0 == issue) ≡ false) → issues_in (without issue ps) ≡ other_issues issue (issues_in ps) →
        issues_in (without issue (p ∷ ps)) ≡ other_issues issue (issues_in (p ∷ ps))
    by (inl is) rest = rw is rest
    by (inr is) rest = rw is (ap (λ (xs : List IssueNo). p.1 ∷ xs) rest)

above_place-issues : (ps : List Pair) (place : Place) → above_place ps place ≡ issues_above (issues_in ps) place
above_place-issues ps (Before other) = places_before-issues ps other.0
above_place-issues ps (After other) = ap (λ n. n + 1) (places_before-issues ps other.0)
above_place-issues ps Last = sym (length-map ps (λ p. p.1))

map-insert : (xs : List Pair) (k : ℕ) (x : Pair) → issues_in (insert xs k x) ≡ insert (issues_in xs) k x.1
map-insert [] zero x = refl
map-insert [] (suc k) x = refl
map-insert (y ∷ ys) zero x = refl
map-insert (y ∷ ys) (suc k) x = ap (λ (is : List IssueNo). y.1 ∷ is) (map-insert ys k x)

pub issues_are_moved : IssuesAreMoved
issues_are_moved ps issue asked place empty rank order is_rank named asked_for is =
    let puts = ranks_put_there ps issue asked place empty rank order is_rank named asked_for is in
    let left = others_asked ps asked issue order asked_for in
    let at : gap ps asked place ≡ issues_above (other_issues issue.0 (issues_in ps)) place =
    ap (λ xs. above_place xs place) left ∙ above_place-issues (without issue.0 ps) place ∙ ap (λ is. issues_above is place) (without-issues issue.0 ps) in
    ap issues_in puts.there ∙ map-insert (without issue.0 ps) (gap ps asked place) (rank, issue)
    ∙ ap (λ k. insert (issues_in (without issue.0 ps)) k issue) at
    ∙ ap (λ is. insert is (issues_above (other_issues issue.0 (issues_in ps)) place) issue) (without-issues issue.0 ps)

module _ (ps qs : List Pair) (same : issues_in ps ≡ issues_in qs) where
  same_count : length ps ≡ length qs
  same_count = sym (length-map ps (λ p. p.1)) ∙ ap length same ∙ length-map qs (λ p. p.1)

  same_before : (issue : ℕ) → places_before ps issue ≡ places_before qs issue
  same_before issue = places_before-issues ps issue ∙ ap (λ is. issues_before is issue) same ∙ sym (places_before-issues qs issue)

  same_place : (issue : ℕ) → place_in ps issue ≡ place_in qs issue
  same_place issue =
      let F : ℕ → ℕ → Option ℕ = λ before n. if nat_lt before n then Some before else None in
      ap (λ before. F before (length ps)) (same_before issue) ∙ ap (F (places_before qs issue)) same_count

  same_get : (k : ℕ) → option_map (λ (p : Pair). p.1) (slice_get ps k) ≡ option_map (λ (p : Pair). p.1) (slice_get qs k)
  same_get k = sym (slice_get-map (λ p. p.1) ps k) ∙ ap (λ is. slice_get is k) same ∙ slice_get-map (λ p. p.1) qs k

  same_pair_before : (place : ℕ) → option_map (λ (p : Pair). p.1) (pair_before ps place) ≡ option_map (λ (p : Pair). p.1) (pair_before qs place)
  same_pair_before zero = refl
  same_pair_before (suc place) = same_get place

  same_beside : (place : Option ℕ) → beside ps place ≡ beside qs place
  same_beside None = refl
  same_beside (Some place) = λ i. (same_pair_before place i, same_get (place + 1) i)

  same_above : (place : Place) → above_place ps place ≡ above_place qs place
  same_above place = above_place-issues ps place ∙ ap (λ is. issues_above is place) same ∙ sym (above_place-issues qs place)

  same_above_others : (issue : ℕ) (place : Place) → above_place (without issue ps) place ≡ above_place (without issue qs) place
  same_above_others issue place =
      above_place-issues (without issue ps) place
      ∙ ap (λ is. issues_above is place) (without-issues issue ps ∙ ap (other_issues issue) same ∙ sym (without-issues issue qs))
      ∙ sym (above_place-issues (without issue qs) place)

  same_gap : (asked : Option IssueNo) (place : Place) → gap ps asked place ≡ gap qs asked place
  same_gap None place = same_above place
  same_gap (Some issue) place = same_above_others issue.0 place

  same_stands : (asked : Option IssueNo) (place : Place) → stands_at ps asked place ≡ stands_at qs asked place
  same_stands None place = refl
  same_stands (Some issue) place =
      ap (λ n. n == gap ps (Some issue) place) (same_before issue.0) ∙ ap (λ n. places_before qs issue.0 == n) (same_gap (Some issue) place)

  same_there : (issue : Option IssueNo) → IfSome issue (λ i. IsIn ps i.0) → IfSome issue (λ i. IsIn qs i.0)
  same_there None there = tt
  same_there (Some issue) there = let a = same_before issue.0 in let b = same_count in omega (arith, a, b, there)

  same_named : (asked : Option IssueNo) (place : Place) → AreNamed ps asked place → AreNamed qs asked place
  same_named asked place named =
      record { issue_there = same_there asked named.issue_there; other_there = same_there (named_by place) named.other_there; differ = named.differ }

  same_places : HaveSamePlaces ps qs
  same_places = record {
    count = same_count;
    before = same_before;
    places = same_place;
    neighbours = same_beside;
    gaps = same_gap;
    stands = same_stands;
    named = same_named;
  }

pub places_go_by_issues : PlacesGoByIssues
places_go_by_issues = same_places
