-- Saved filters and boards: what they are, and what holds of all of them.
use Rattle.std.specs.Prelude.{◌≡◌, ◌≢◌, ◌<◌, ◌≤◌, ◌^◌, ◌==◌, ◌&&◌, ℕ, Bool, not, true, List, [], ◌∷◌, filter, length, Option, Some, None, IfSome, Result, Ok, Err, if◌then◌else◌}
use Rattle.std.specs.List.{All}
use Rattle.std.specs.Str.{bytes_eq}
use Rattle.rising_numbers.specs.ByNumber.{RiseFrom, by_number}
use Rattle.field_values.specs.declared.numbers.FilterNo.{FilterNo}
use Rattle.field_values.specs.declared.numbers.UserNo.{UserNo}
use Rattle.field_values.specs.Parts.{Parts}
use Rattle.field_forms.specs.Names.{is_title}
use Rattle.tracker_limits.specs.Limits.{most_boards, most_filters}
use Rattle.board.specs.declared.board.Board.{Board}
use Rattle.tracker_calls.specs.declared.cause.Cause.{Cause}
use Rattle.tracker_machine.specs.Query.{Query, asked}

-- a saved filter, with its text as it was given
pub record SavedFilter : Type 0 where
  pub no : FilterNo
  pub owner : UserNo
  pub name : List ℕ
  pub text : List ℕ

abbrev pub filter_number : SavedFilter → ℕ
filter_number f = f.no.0

abbrev pub board_number : Board → ℕ
board_number b = b.no.0

-- ---- names

-- the filter is this user's, by this name
abbrev pub is_named : UserNo → List ℕ → SavedFilter → Bool
is_named owner name f = f.owner.0 == owner.0 && bytes_eq f.name name

-- the user's filter of a name, if there is one
abbrev pub filter_named : UserNo → List ℕ → List SavedFilter → Option SavedFilter
filter_named owner name [] = None
filter_named owner name (f ∷ fs) =
    if is_named owner name f then Some f else filter_named owner name fs

-- no user has two filters of one name
abbrev pub HaveOwnNames : List SavedFilter → Type 0
HaveOwnNames [] = Unit {0}
HaveOwnNames (f ∷ fs) = (filter_named f.owner f.name fs ≡ None) × HaveOwnNames fs

-- ---- what is asked for

-- what a text asks for that is read and bound; what is saved always is
abbrev pub query_in : Result Query Cause → Query
query_in (Ok query) = query
query_in (Err r) = record { condition = None; keys = [] }

-- what the filter asks for when its owner asks it
abbrev pub saved_query : Parts → SavedFilter → Query
saved_query setup f = query_in (asked setup f.owner.0 f.text)

-- ---- boards

abbrev pub is_board_of : FilterNo → Board → Bool
is_board_of filter_no b = b.filter.0 == filter_no.0

-- the boards that aren't of this filter
abbrev pub without_boards_of : FilterNo → List Board → List Board
without_boards_of filter_no boards = filter (λ b. not (is_board_of filter_no b)) boards

-- ---- what holds of them

-- a filter is a user's, has a name of its form, and is read and bound for its owner
pub record IsFilter (setup : Parts) (f : SavedFilter) : Type 0 where
  pub small : f.no.0 < 2 ^ 32
  pub owned : f.owner.0 < length setup.users
  pub named : is_title f.name ≡ true
  pub query : Query
  pub asks : asked setup f.owner.0 f.text ≡ Ok query

-- a board has a name of its form and is of a filter that is there
pub record IsBoard (filters : List SavedFilter) (b : Board) : Type 0 where
  pub small : b.no.0 < 2 ^ 32
  pub named : is_title b.name ≡ true
  pub there : by_number filter_number b.filter.0 filters ≢ None

-- the filters and boards of a tracker: the numbers of each rise from 1 on, no user has two filters of one name, and there are
-- not too many
pub record AreSaved (setup : Parts) (filters : List SavedFilter)
    (boards : List Board) : Type 0 where
  pub rising : RiseFrom filter_number 1 filters
  pub names : HaveOwnNames filters
  pub few : length filters ≤ most_filters
  pub each : All (IsFilter setup) filters
  pub rising_boards : RiseFrom board_number 1 boards
  pub few_boards : length boards ≤ most_boards
  pub each_board : All (IsBoard filters) boards

-- ---- what may come

-- the filter may come, or take the place of the one of its number: no other one of its owner has its name, and where it comes
-- there are not too many
pub record MaySave (setup : Parts) (filters : List SavedFilter) (f : SavedFilter) : Type 0 where
  pub positive : 1 ≤ f.no.0
  pub filter : IsFilter setup f
  pub alone : IfSome (filter_named f.owner f.name filters) (λ g. g.no.0 ≡ f.no.0)
  pub few : by_number filter_number f.no.0 filters ≡ None → length filters < most_filters

-- the board may come: its number is free, and there are not too many
pub record MayMake (filters : List SavedFilter) (boards : List Board) (b : Board) : Type 0 where
  pub positive : 1 ≤ b.no.0
  pub board : IsBoard filters b
  pub free : by_number board_number b.no.0 boards ≡ None
  pub few : length boards < most_boards
