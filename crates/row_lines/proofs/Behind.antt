-- A row behind the last of some that rise stands behind them all.
use Rattle.std.proofs.Common.{◌≡◌, ℕ, zero, suc, ◌==◌, false, ◌-◌, ◌<◌, ◌≤◌, ◌⊎◌, inl, inr, List, length, sym, subst, ◌∙◌, arith, All, AllPairs}
use Rattle.std.specs.Prelude.{slice_index_or, ◌↔◌}
use Rattle.std.proofs.lemmas.Bool.{cases_lt}
use Rattle.std.proofs.lemmas.List.{get_or_default}
use Rattle.tracker_keeper.specs.declared.row.Row.{Row}
use Rattle.tracker_keeper.specs.Rows.{IsBelow}

below_both : (one middle other : Row) → IsBelow one middle → IsBelow middle other → IsBelow one other
below_both one middle other (inl less) (inl more) = inl (omega (arith, less, more))
below_both one middle other (inl less) (inr same) = inl (omega (arith, less, same.0))
below_both one middle other (inr same) (inl more) = inl (omega (arith, same.0, more))
below_both one middle other (inr same) (inr also) = inr (omega (arith, same.0, also.0), omega (arith, same.1, also.1))

last_same : (rows : List Row) (last d : Row) → 0 < length rows → last ≡ slice_index_or rows (length rows - 1) last → last ≡ slice_index_or rows (length rows - 1) d
last_same rows last d some is = is ∙ get_or_default rows (length rows - 1) last d (omega (arith, some))

pub behind_all : (rows : List Row) (last row : Row) → 0 < length rows → last ≡ slice_index_or rows (length rows - 1) last → AllPairs IsBelow rows → IsBelow last row
    → All (λ before. IsBelow before row) rows
behind_all rows last row some is rising below k d within = by (cases_lt k (length rows - 1))
  where
    at_last : IsBelow (slice_index_or rows (length rows - 1) d) row
    at_last = subst (λ r. IsBelow r row) (last_same rows last d some is) below

    by : (k < length rows - 1) ⊎ (length rows - 1 ≤ k) → IsBelow (slice_index_or rows k d) row
    by (inl early) = below_both (slice_index_or rows k d) (slice_index_or rows (length rows - 1) d) row (rising k (length rows - 1) d early (omega (arith, some))) at_last
    by (inr late) =
        let same : length rows - 1 ≡ k = omega (arith, within, late) in
        subst (λ n. IsBelow (slice_index_or rows n d) row) same at_last

pub behind_last : (rows : List Row) (last row : Row) → 0 < length rows → last ≡ slice_index_or rows (length rows - 1) last → All (λ before. IsBelow before row) rows → IsBelow last row
behind_last rows last row some is all = subst (λ r. IsBelow r row) (sym is) (all (length rows - 1) last (omega (arith, some)))

pub some_length : (n : ℕ) → (n == 0) ≡ false → 0 < n
some_length zero e = absurd (cc e)
some_length (suc n) e = omega arith
