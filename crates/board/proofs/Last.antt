-- A rank above all others goes behind them.
use Rattle.std.proofs.Common.{◌≡◌, ◌≢◌, List, [], ◌∷◌, ◌++◌, length, refl, sym, ◌∙◌, ap, subst, arith}
use Rattle.std.specs.Prelude.{All, insert}
use Rattle.std.proofs.lemmas.Option.{slice_get_past}
use Rattle.field_values.specs.declared.numbers.IssueNo.{IssueNo}
use Rattle.rank_strings.specs.Rank.{RankParts}
use Rattle.board.specs.Order.{Pair, IsOrder, IsIn, places_before, without, put_in}
use Rattle.board.specs.Table.{nothing}
use Rattle.board.specs.Laws.{GoesBehindAll, RankAboveAllGoesLast, RankAboveTheLastGoesLast}
use Rattle.board.proofs.Moves.{places_before-number_at}
use Rattle.board.proofs.Given.{without-absent}
use Rattle.board.specs.Search.{Fits}
use Rattle.board.proofs.Placing.{put_in-fits, free_where_fits, fits_between}

insert-last : (xs : List Pair) (x : Pair) → insert xs (length xs) x ≡ xs ++ x ∷ []
insert-last [] x = refl
insert-last (y ∷ ys) x = ap (λ (zs : List Pair). y ∷ zs) (insert-last ys x)

goes_last : (ps : List Pair) (issue : IssueNo) (rank : RankParts) → IsOrder ps → ¬ IsIn ps issue.0 → Fits ps rank (length ps) → GoesBehindAll ps issue rank
goes_last ps issue rank order absent fits =
    let left : without issue.0 ps ≡ ps = without-absent ps issue.0 (λ k lt same.
    absent (let here = sym (places_before-number_at ps k order.once lt) ∙ ap (places_before ps) same in omega arith)) in (
      subst (λ xs. All (λ p. p.0 ≢ rank) xs) (sym left) (free_where_fits ps rank (length ps) fits),
      ap (put_in (rank, issue)) left ∙ put_in-fits ps (rank, issue) (length ps) fits ∙ insert-last ps (rank, issue),
    )

pub rank_above_all_goes_last : RankAboveAllGoesLast
rank_above_all_goes_last ps issue rank order absent above =
    goes_last ps issue rank order absent
    (record { in_range = omega arith; below = λ k lt. above k nothing lt; above = λ k le lt. absurd (omega arith) })

pub rank_above_the_last_goes_last : RankAboveTheLastGoesLast
rank_above_the_last_goes_last ps issue rank order absent above =
    goes_last ps issue rank order absent
    (fits_between ps (length ps) rank order (omega arith) above (rw (slice_get_past ps (length ps) (omega arith)) tt))
