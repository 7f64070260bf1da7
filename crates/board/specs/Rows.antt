-- Worked values, computed from the definitions.
use Rattle.std.specs.Prelude.{ℕ, ◌≡◌, List, [], ◌∷◌, true, false, Some, None, Ok, refl}
use Rattle.field_values.specs.declared.numbers.IssueNo.{IssueNo}
use Rattle.rank_strings.specs.Rank.{RankParts}
use Rattle.board.specs.declared.place.Place.TheVariants.{Before, After, Last}
use Rattle.board.specs.Order.{Pair, place_in, without, put_in}
use Rattle.board.specs.Place.{gap, stands_at, bucket_between}
use Rattle.board.specs.Issues.{issues_moved}
use Rattle.board.specs.Moved.{rank_given, moved}
use Rattle.board.specs.Board.{board_rows}
use Rattle.rank_strings.specs.Choice.{chosen_between}

abbrev issue : ℕ → IssueNo
issue n = record { 0 = n }

-- a rank of these last two digits, in bucket 0
abbrev rank : ℕ → ℕ → RankParts
rank a b = record { bucket = 0; front = 18 ∷ 0 ∷ 0 ∷ 0 ∷ a ∷ b ∷ []; further = [] }

abbrev three : List Pair
three = (rank 0 1, issue 1) ∷ (rank 0 5, issue 2) ∷ (rank 0 9, issue 3) ∷ []

-- the bucket of two neighbours in different ones
pub zero_and_one : bucket_between 0 1 ≡ 1
zero_and_one = refl

pub one_and_two : bucket_between 1 2 ≡ 2
one_and_two = refl

pub zero_and_two : bucket_between 0 2 ≡ 0
zero_and_two = refl

-- the first one moves behind the second, and then stands before the third
pub moved_behind : put_in (rank 0 7, issue 1) (without 1 three)
    ≡ (rank 0 5, issue 2) ∷ (rank 0 7, issue 1) ∷ (rank 0 9, issue 3) ∷ []
moved_behind = refl

pub stands_behind : stands_at (put_in (rank 0 7, issue 1) (without 1 three)) (Some (issue 1))
    (Before (issue 3)) ≡ true
stands_behind = refl

pub stood_elsewhere : stands_at three (Some (issue 1)) (After (issue 2)) ≡ false
stood_elsewhere = refl

pub a_new_one_stands_nowhere : stands_at three None Last ≡ false
a_new_one_stands_nowhere = refl

pub last_is_behind_the_others : gap three (Some (issue 1)) Last ≡ 2
last_is_behind_the_others = refl

pub not_there : place_in three 9 ≡ None
not_there = refl

-- the first one moves behind the second, to the rank halfway to the third
pub computed_behind : moved three (Some (issue 1)) (issue 1) (After (issue 2)) 0
    ≡ Ok ((rank 0 5, issue 2) ∷ (rank 0 7, issue 1) ∷ (rank 0 9, issue 3) ∷ [])
unfolding rank_given chosen_between
computed_behind = refl

-- the third one stands behind the second
pub computed_there : rank_given three (Some (issue 3)) (After (issue 2)) 0 ≡ Ok (rank 0 9)
unfolding rank_given
computed_there = refl

-- a new one goes last, 8,192 behind the third
pub computed_last : rank_given three None Last 0
    ≡ Ok (record { bucket = 0; front = 18 ∷ 0 ∷ 0 ∷ 6 ∷ 11 ∷ 29 ∷ []; further = [] })
unfolding rank_given chosen_between
computed_last = refl

-- and where there is none yet, in the bucket that is given
pub computed_first : rank_given [] None Last 2
    ≡ Ok (record { bucket = 2; front = 18 ∷ 0 ∷ 0 ∷ 0 ∷ 0 ∷ 0 ∷ []; further = [] })
unfolding rank_given chosen_between
computed_first = refl

pub issues_behind : issues_moved (issue 1) (After (issue 2)) (issue 1 ∷ issue 2 ∷ issue 3 ∷ [])
    ≡ issue 2 ∷ issue 1 ∷ issue 3 ∷ []
issues_behind = refl

pub rows_are_in_order : board_rows three (issue 3 ∷ issue 9 ∷ issue 1 ∷ []) ≡ issue 1 ∷ issue 3 ∷ []
rows_are_in_order = refl
