-- What is kept stays as it is when room is made.
use Rattle.std.proofs.Common.{◌≡◌, ℕ, ◌+◌, ◌<◌, ◌≤◌, ◌⊎◌, inl, inr, List, [], ◌∷◌, length, get_or, Option, None, refl, sym, ◌∙◌, ap, subst, arith}
use Rattle.std.specs.Prelude.{slice_index}
use Rattle.std.proofs.lemmas.Bool.{cases_lt}
use Rattle.field_values.specs.declared.numbers.IssueNo.{IssueNo}
use Rattle.rank_strings.specs.Rank.{RankParts}
use Rattle.board.specs.Order.{Pair, IsOrder, rank_in}
use Rattle.board.specs.Table.{rank_or_nothing, pair_by, pairs_by, IsKept}
use Rattle.board.specs.Lengths.{times_long}

-- tables that have the same ranks give the same pairs
pub same_pairs : (old new : List (Option RankParts)) → ((issue : ℕ) → get_or new issue None ≡ get_or old issue None) → (is : List IssueNo) → pairs_by new is ≡ pairs_by old is
same_pairs old new same [] = refl
same_pairs old new same (i ∷ is) =
    ap (λ o. (rank_or_nothing o, i) ∷ pairs_by new is) (same i.0)
    ∙ ap (λ (ps : List Pair). pair_by old i ∷ ps) (same_pairs old new same is)

-- a table that grows has room for each of its numbers in the list, and a count for each length
pub kept_with_room : (is : List IssueNo) (old new : List (Option RankParts)) (counts more : List ℕ) (slots room : ℕ) → IsKept is old counts slots
    → ((issue : ℕ) → get_or new issue None ≡ get_or old issue None) → ((bytes : ℕ) → slice_index more bytes ≡ slice_index counts bytes)
    → length old ≤ length new → length counts ≤ length more → slots ≤ room
    → (length old < length new → 255 ≤ length more) → (length old < length new → length new ≤ room + 1) → IsKept is new more room
kept_with_room is old new counts more slots room kept same same_counts ranks_le counts_le slots_le lengths enough =
    let pairs = same_pairs old new same is in
    record {
      order = subst IsOrder (sym pairs) kept.order;
      table = λ n. same n ∙ kept.table n ∙ ap (λ ps. rank_in ps n) (sym pairs);
      counted = λ n. same_counts n ∙ kept.counted n ∙ ap (λ ps. times_long ps n) (sym pairs);
      all_lengths = each_length (cases_lt (length old) (length new));
      enough = each_number (cases_lt (length old) (length new));
    }
  where
    each_length : (length old < length new) ⊎ (length new ≤ length old) → 0 < length new → 255 ≤ length more
    each_length (inl grows) some = lengths grows
    each_length (inr stays) some = let all = kept.all_lengths (omega arith) in omega arith

    each_number : (length old < length new) ⊎ (length new ≤ length old) → length new ≤ room + 1
    each_number (inl grows) = enough grows
    each_number (inr stays) = let all = kept.enough in omega arith
