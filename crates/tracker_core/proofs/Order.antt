-- Rows of which none stands before the one ahead of it are in order.
use Rattle.std.proofs.Common.{◌≡◌, ℕ, ◌+◌, ◌-◌, ◌<◌, ◌≤◌, ◌⊎◌, inl, inr, List, subst, ◌∙◌, arith, length}
use Rattle.std.specs.Prelude.{slice_index_or}
use Rattle.std.proofs.lemmas.Bool.{cases_lt}
use Rattle.std.proofs.lemmas.List.{get_or_default}
use Rattle.tracker_keeper.specs.declared.row.Row.{Row}
use Rattle.tracker_keeper.specs.Rows.{IsBelow}
use Rattle.tracker_rows.specs.Listed.{InOrder}

-- not behind: by kind, and then by number
abbrev IsAtMost : Row → Row → Type 0
IsAtMost one other = (one.kind < other.kind) ⊎ ((one.kind ≡ other.kind) × (one.no ≤ other.no))

at_most : (one other : Row) → (IsBelow other one → ⊥) → IsAtMost one other
at_most one other apart = by (cases_lt one.kind other.kind) (cases_lt other.kind one.kind) (cases_lt other.no one.no)
  where
    by : (one.kind < other.kind) ⊎ (other.kind ≤ one.kind) → (other.kind < one.kind) ⊎ (one.kind ≤ other.kind) → (other.no < one.no) ⊎ (one.no ≤ other.no)
        → IsAtMost one other
    by (inl less) kinds numbers = inl less
    by (inr le) (inl more) numbers = absurd (apart (inl more))
    by (inr le) (inr ge) (inl less) = absurd (apart (inr (omega (arith, le, ge), less)))
    by (inr le) (inr ge) (inr most) = inr (omega (arith, le, ge), most)

not_behind : (one other : Row) → IsAtMost one other → IsBelow other one → ⊥
not_behind one other (inl less) (inl more) = omega (arith, less, more)
not_behind one other (inl less) (inr same) = omega (arith, less, same.0)
not_behind one other (inr most) (inl more) = omega (arith, most.0, more)
not_behind one other (inr most) (inr same) = omega (arith, most.1, same.1)

on : (one middle other : Row) → IsAtMost one middle → IsAtMost middle other → IsAtMost one other
on one middle other (inl less) (inl more) = inl (omega (arith, less, more))
on one middle other (inl less) (inr same) = inl (omega (arith, less, same.0))
on one middle other (inr same) (inl more) = inl (omega (arith, same.0, more))
on one middle other (inr same) (inr also) = inr (omega (arith, same.0, also.0), omega (arith, same.1, also.1))

-- so many of them are in order
abbrev pub AreInOrder : List Row → ℕ → Type 0
AreInOrder rows n = (i j : ℕ) (d : Row) → i < j → j < n → IsBelow (slice_index_or rows j d) (slice_index_or rows i d) → ⊥

pub one_more : (rows : List Row) (n : ℕ) (last before : Row) → 1 ≤ n → n < length rows → AreInOrder rows n → last ≡ slice_index_or rows n last → before ≡ slice_index_or rows (n - 1) before
    → (IsBelow last before → ⊥) → AreInOrder rows (n + 1)
one_more rows n last before some more ordered last_is before_is apart i j d less within = by (cases_lt j n) (cases_lt i (n - 1))
  where
    next : IsBelow (slice_index_or rows n d) (slice_index_or rows (n - 1) d) → ⊥
    next =
        subst (λ r. IsBelow r (slice_index_or rows (n - 1) d) → ⊥) (last_is ∙ get_or_default rows n last d more)
        (subst (λ r. IsBelow last r → ⊥) (before_is ∙ get_or_default rows (n - 1) before d (omega (arith, some, more))) apart)

    by : (j < n) ⊎ (n ≤ j) → (i < n - 1) ⊎ (n - 1 ≤ i) → IsBelow (slice_index_or rows j d) (slice_index_or rows i d) → ⊥
    by (inl early) at = ordered i j d less early
    by (inr late) (inl early) =
        let j_is : n ≡ j = omega (arith, within, late) in
        subst (λ k. IsBelow (slice_index_or rows k d) (slice_index_or rows i d) → ⊥) j_is
        (not_behind (slice_index_or rows i d) (slice_index_or rows n d)
        (on (slice_index_or rows i d) (slice_index_or rows (n - 1) d) (slice_index_or rows n d)
        (at_most (slice_index_or rows i d) (slice_index_or rows (n - 1) d) (ordered i (n - 1) d early (omega (arith, some))))
        (at_most (slice_index_or rows (n - 1) d) (slice_index_or rows n d) next)))
    by (inr late) (inr at) =
        let j_is : n ≡ j = omega (arith, within, late) in
        let i_is : n - 1 ≡ i = omega (arith, at, less, j_is) in
        subst (λ k. IsBelow (slice_index_or rows k d) (slice_index_or rows i d) → ⊥) j_is
        (subst (λ k. IsBelow (slice_index_or rows n d) (slice_index_or rows k d) → ⊥) i_is next)

-- a row that stands before the one ahead of it is out of order
pub none_in_order : (rows : List Row) (n : ℕ) (last before : Row) → 1 ≤ n → n < length rows → last ≡ slice_index_or rows n last → before ≡ slice_index_or rows (n - 1) before
    → IsBelow last before → InOrder rows → ⊥
none_in_order rows n last before some more last_is before_is below ordered =
    ordered (n - 1) n last (omega (arith, some)) more
    (subst (λ r. IsBelow r (slice_index_or rows (n - 1) last)) last_is
    (subst (λ r. IsBelow last r) (before_is ∙ get_or_default rows (n - 1) before last (omega (arith, some, more))) below))
