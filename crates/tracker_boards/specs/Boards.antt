-- The boards of a tracker.
use Rattle.std.specs.Prelude.{ℕ, ◌<◌, ◌≤◌, ◌==◌, not, List, length, filter}
use Rattle.board.specs.declared.board.Board.{Board}
use Rattle.rising_numbers.specs.ByNumber.{RiseFrom}
use Rattle.tracker_limits.specs.Limits.{most_boards}

-- the boards by number, and how many may stand without more memory
pub record BoardList : Type 0 where
  pub boards : List Board
  pub room : ℕ

abbrev pub number : Board → ℕ
number b = b.no.0

-- numbers rise from 1 on, and there are not too many
pub record AreBoards (bs : List Board) : Type 0 where
  pub rising : RiseFrom number 1 bs
  pub few : length bs ≤ most_boards

-- there is room for one board more
abbrev pub HasBoardRoom : BoardList → Type 0
HasBoardRoom b = length b.boards < b.room

-- the boards without those of a filter
abbrev pub without_boards_of : ℕ → List Board → List Board
without_boards_of filter_no bs = filter (λ b. not (b.filter.0 == filter_no)) bs
