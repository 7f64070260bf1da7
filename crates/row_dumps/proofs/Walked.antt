-- Rows that are walked over one by one.
use Rattle.std.proofs.Common.{◌≡◌, ℕ, ◌+◌, ◌<◌, ◌≤◌, ◌⊎◌, inl, inr, List, length, subst, ◌∙◌, arith}
use Rattle.std.specs.Prelude.{slice_index_or}
use Rattle.std.proofs.lemmas.Bool.{cases_lt}
use Rattle.std.proofs.lemmas.List.{get_or_default}
use Rattle.tracker_keeper.specs.declared.row.Row.{Row}
use Rattle.row_dumps.specs.Dump.{HasForm}

-- so many of the first have their form
abbrev pub AreFormed : List Row → ℕ → Type 0
AreFormed rows n = (k : ℕ) (d : Row) → k < n → HasForm (slice_index_or rows k d)

pub one_more : (rows : List Row) (n : ℕ) (row : Row) → n < length rows → row ≡ slice_index_or rows n row → HasForm row → AreFormed rows n → AreFormed rows (n + 1)
one_more rows n row more is form formed k d less = by (cases_lt k n)
  where
    by : (k < n) ⊎ (n ≤ k) → HasForm (slice_index_or rows k d)
    by (inl early) = formed k d early
    by (inr late) =
        let same : n ≡ k = omega (arith, less, late) in
        subst (λ j. HasForm (slice_index_or rows j d)) same (subst HasForm (is ∙ get_or_default rows n row d more) form)
