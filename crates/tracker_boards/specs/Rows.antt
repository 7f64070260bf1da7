-- Worked values, computed from the definitions: numbers that are given again, and boards that go with their filter.
use Rattle.std.specs.Prelude.{ℕ, ◌≡◌, List, [], ◌∷◌, Some, None, codes, refl}
use Rattle.board.specs.declared.board.Board.{Board}
use Rattle.rising_numbers.specs.ByNumber.{by_number, put_by_number, without_number, free_from}
use Rattle.tracker_boards.specs.Boards.{number, without_boards_of}

abbrev board_of : ℕ → List ℕ → ℕ → Board
board_of n name filter_no =
    record { no = record { 0 = n }; name = name; filter = record { 0 = filter_no } }

abbrev first : List Board
first = board_of 1 (codes "a") 7 ∷ board_of 2 (codes "b") 9 ∷ board_of 3 (codes "c") 7 ∷ []

-- the fourth board comes behind the third
pub next_number : free_from number 1 first ≡ 4
next_number = refl

-- the boards of filter 7 go with it, and the lesser of their numbers is given again
pub others_stay : without_boards_of 7 first ≡ board_of 2 (codes "b") 9 ∷ []
others_stay = refl

pub number_again : free_from number 1 (without_boards_of 7 first) ≡ 1
number_again = refl

pub in_front : put_by_number number (board_of 1 (codes "d") 9) (without_boards_of 7 first)
    ≡ board_of 1 (codes "d") 9 ∷ board_of 2 (codes "b") 9 ∷ []
in_front = refl

-- by its number it is found, until it goes
pub found : by_number number 2 first ≡ Some (board_of 2 (codes "b") 9)
found = refl

pub gone : by_number number 2 (without_number number 2 first) ≡ None
gone = refl
