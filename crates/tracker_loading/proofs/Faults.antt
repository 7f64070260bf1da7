-- From what has been read so far to what is told: the next row, the first bad one, or all of them.
use Rattle.std.proofs.Common.{◌≡◌, ℕ, suc, ◌+◌, ◌<◌, ◌≤◌, inl, inr, nat_lt, Bool, true, List, ◌∷◌, length, take, drop, Some, None, IfSome, All, refl, sym, ap, ◌∙◌, subst, arith}
use Rattle.std.specs.List.Sorted.{IsPermutation}
use Rattle.std.proofs.lemmas.Bool.{lt-ltb, le-ltb}
use Rattle.std.proofs.lemmas.List.{take_all, drop_all, take-append-drop}
use Rattle.std.proofs.lemmas.List.Elements.{All-nil}
use Rattle.std.proofs.lemmas.List.Sorted.{length_permutation}
use Rattle.board.specs.Order.{Pair}
use Rattle.rank_strings.specs.Rank.{RankParts}
use Rattle.tracker_ranks.specs.Loaded.{numbered_from}
use Rattle.tracker_ranks.proofs.Loading.{length-numbered_from}
use Rattle.tracker_keeper.specs.declared.row.Row.{Row}
use Rattle.tracker_keeper.specs.declared.part.Format.{Format}
use Rattle.tracker_keeper.specs.declared.part.Part.{Part}
use Rattle.tracker_machine.specs.Machine.{Machine}
use Rattle.tracker_rows.specs.Listed.{InOrder, IsAhead}
use Rattle.tracker_rows.specs.Gathered.{Gathered, with_part, rank_due, due}
use Rattle.tracker_rows.specs.Gathered.Gathered.{Nothing, Stands}
use Rattle.tracker_rows.specs.Loading.{IsInTime, IsGood, AreRead, Loads, IsFirstBad}
use Rattle.tracker_rows.proofs.Verdicts.{good_rows_lead_on}
use Rattle.tracker_loading.specs.Reading.{StandsAt, IsReadTo}
use Rattle.tracker_loading.proofs.Order.{apart_at, take_on, ahead_of_all}

-- before the first row nothing was read
pub read_none : (rows : List Row) → InOrder rows → IsReadTo rows 0 Nothing
read_none rows ordered = record { ordered = ordered; read = refl }

-- ---- the next row is good

pub leads_on : (rows : List Row) (place : ℕ) (g : Gathered) (row : Row) (p : Part) → IsReadTo rows place g → StandsAt rows place row → IsInTime g row
    → IsGood rows g row p → IsReadTo rows (place + 1) (with_part g p)
leads_on rows place g row p is there timely good = record {
  ordered = is.ordered;
  read = subst (λ list. AreRead rows Nothing list (with_part g p)) (sym (take_on rows place row there))
      (good_rows_lead_on rows (take place rows) g row p is.read timely good);
}

-- ---- or bad

pub bad_first : (rows : List Row) (place : ℕ) (g : Gathered) (row : Row) → IsReadTo rows place g → StandsAt rows place row → IsInTime g row
    → ((p : Part) → ¬ IsGood rows g row p) → IsFirstBad rows row.kind row.no
bad_first rows place g row is there timely bad = record {
  ordered = is.ordered;
  front = take place rows;
  left = row ∷ drop (suc place) rows;
  apart = apart_at rows place row there;
  gathered = g;
  read = is.read;
  next = inr (record { kind_is = refl; number_is = refl; in_time = timely; bad = bad });
}

-- ---- or a row is missing

pub missing : (rows : List Row) (place : ℕ) (g : Gathered) (kind number : ℕ) → IsReadTo rows place g → due g ≡ Some (kind, number)
    → All (IsAhead kind number) (drop place rows) → IsFirstBad rows kind number
missing rows place g kind number is wanted behind = record {
  ordered = is.ordered;
  front = take place rows;
  left = drop place rows;
  apart = sym (take-append-drop place rows);
  gathered = g;
  read = is.read;
  next = inl (record { due_is = wanted; behind = behind });
}

-- before the row at the place
pub missing_before : (rows : List Row) (place : ℕ) (g : Gathered) (row : Row) (kind number : ℕ) → IsReadTo rows place g → StandsAt rows place row
    → due g ≡ Some (kind, number) → IsAhead kind number row → IsFirstBad rows kind number
missing_before rows place g row kind number is there wanted ahead =
    missing rows place g kind number is wanted (ahead_of_all rows place row kind number is.ordered there ahead)

-- or at the end
pub missing_last : (rows : List Row) (place : ℕ) (g : Gathered) (kind number : ℕ) → IsReadTo rows place g → length rows ≤ place
    → due g ≡ Some (kind, number) → IsFirstBad rows kind number
missing_last rows place g kind number is past wanted =
    missing rows place g kind number is wanted (subst (All (IsAhead kind number)) (sym (drop_all place rows past)) (All-nil (IsAhead kind number)))

-- a row that isn't behind the one that is wanted is in time
pub in_time_if : (g : Gathered) (row : Row) (kind number : ℕ) → due g ≡ Some (kind, number) → ¬ IsAhead kind number row → IsInTime g row
in_time_if g row kind number wanted not_ahead = subst (λ o. IfSome o (λ w. ¬ IsAhead w.0 w.1 row)) (sym wanted) not_ahead

-- so is any, where none is wanted
pub in_time_always : (g : Gathered) (row : Row) → due g ≡ None → IsInTime g row
in_time_always g row none = subst (λ o. IfSome o (λ w. ¬ IsAhead w.0 w.1 row)) (sym none) tt

-- ---- the rank that is wanted

pub rank_wanted : (m : Machine) (ranked issues : ℕ) → length m.order ≡ ranked → length m.histories ≡ issues → ranked < issues
    → Some (5, ranked + 1) ≡ rank_due (nat_lt (length m.order) (length m.histories)) (length m.order)
rank_wanted m ranked issues order histories less =
    sym (ap (λ (b : Bool). rank_due b (length m.order)) (lt-ltb (length m.order) (length m.histories) (omega (arith, order, histories, less)))
    ∙ ap (λ (n : ℕ). rank_due true n) order)

pub no_rank_wanted : (m : Machine) (ranked issues : ℕ) → length m.order ≡ ranked → length m.histories ≡ issues → issues ≤ ranked
    → None ≡ rank_due (nat_lt (length m.order) (length m.histories)) (length m.order)
no_rank_wanted m ranked issues order histories le =
    sym (ap (λ (b : Bool). rank_due b (length m.order)) (le-ltb (length m.order) (length m.histories) (omega (arith, order, histories, le))))

-- as many are ranked as there are ranks by the issues' numbers
pub as_many_ranked : (ranks : List RankParts) (order : List Pair) → IsPermutation (numbered_from 1 ranks) order → length order ≡ length ranks
as_many_ranked ranks order permuted = length_permutation (numbered_from 1 ranks) order permuted ∙ length-numbered_from 1 ranks

-- ---- or all are read

pub all_read : (rows : List Row) (place : ℕ) (format : Format) (told : ℕ) (m : Machine) → IsReadTo rows place (Stands format told m) → length rows ≤ place
    → due (Stands format told m) ≡ None → Loads format rows m
all_read rows place format told m is past none = record {
  ordered = is.ordered;
  told = told;
  read = subst (λ list. AreRead rows Nothing list (Stands format told m)) (take_all place rows past) is.read;
  whole = none;
}
