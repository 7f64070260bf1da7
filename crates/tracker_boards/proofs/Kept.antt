-- What boards keep true of themselves, call by call.
use Rattle.std.proofs.Common.{◌≡◌, ℕ, ◌<◌, ◌==◌, None, List, length, not, arith}
use Rattle.board.specs.declared.board.Board.{Board}
use Rattle.rising_numbers.specs.ByNumber.{by_number, put_by_number, without_number}
use Rattle.rising_numbers.proofs.ByNumber.{rise_put, rise_without}
use Rattle.rising_numbers.proofs.Lengths.{length_put_free, length_without}
use Rattle.rising_numbers.proofs.Kept.{rise_filter, length_filter}
use Rattle.tracker_limits.specs.Limits.{most_boards}
use Rattle.tracker_boards.specs.Boards.{number, AreBoards, without_boards_of}

pub boards_put : (b : Board) (bs : List Board) → 0 < b.no.0 → by_number number b.no.0 bs ≡ None → length bs < most_boards → AreBoards bs → AreBoards (put_by_number number b bs)
boards_put b bs positive free few kept = record {
  rising = rise_put number 1 b bs (omega (arith, positive)) kept.rising;
  few = let more = length_put_free number b bs free in omega (arith, more, few);
}

pub boards_without : (n : ℕ) (bs : List Board) → AreBoards bs → AreBoards (without_number number n bs)
boards_without n bs kept = record {
  rising = rise_without number 1 n bs kept.rising;
  few = let less = length_without number n bs in omega (arith, less, kept.few);
}

pub boards_of_others : (filter_no : ℕ) (bs : List Board) → AreBoards bs → AreBoards (without_boards_of filter_no bs)
boards_of_others filter_no bs kept = record {
  rising = rise_filter number (λ b. not (b.filter.0 == filter_no)) 1 bs kept.rising;
  few = let less = length_filter number (λ (b : Board). not (b.filter.0 == filter_no)) bs in omega (arith, less, kept.few);
}
