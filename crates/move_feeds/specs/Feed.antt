-- A subscription: what a filter lists for a user, and which moves were put out of it and not yet acknowledged.
use Rattle.std.specs.Prelude.{ℕ, ◌≤◌, ◌<◌, ◌+◌, ◌-◌, ◌^◌, ◌==◌, ◌&&◌, Bool, true, false, List, [], ◌++◌, length, drop, take, filter, nat_lt, if◌then◌else◌}
use Rattle.field_values.specs.declared.numbers.FilterNo.{FilterNo}
use Rattle.field_values.specs.declared.numbers.UserNo.{UserNo}
use Rattle.move_feeds.specs.declared.moves.Change.{Change}
use Rattle.move_feeds.specs.declared.moves.Move.{Move}
use Rattle.move_feeds.specs.Changes.{changes, numbered}

-- so many moves wait at most
abbrev pub most_waiting : ℕ
most_waiting = 100_000

pub record Feed : Type 0 where
  pub no : ℕ
  -- whose it is, and of which filter
  pub user : UserNo
  pub filter : FilterNo
  -- of each issue, by its number from 1, whether the filter listed it for the user at the last event
  pub listed : List Bool
  -- how many moves are acknowledged, and what the others tell, the oldest first
  pub acked : ℕ
  pub waiting : List Change
  -- too many waited: nothing more is put out
  pub lapsed : Bool

-- moves are numbered from 1
abbrev pub moves : Feed → List Move
moves f = numbered (f.acked + 1) f.waiting

-- the number of the last one that was put out
abbrev pub last : Feed → ℕ
last f = f.acked + length f.waiting

-- the subscription has this number, and is this user's
abbrev pub is_of : ℕ → ℕ → Feed → Bool
is_of number user f = (f.no == number) && (f.user.0 == user)

-- ---- what is put out

-- where too many wait they are dropped
abbrev pub unless_too_many : Feed → Feed
unless_too_many f =
    if nat_lt most_waiting (length f.waiting)
    then record f { acked = last f; waiting = []; lapsed = true }
    else f

-- the filter lists these now
abbrev pub with_listed : List Bool → Feed → Feed
with_listed now f =
    unless_too_many (record f { listed = now; waiting = f.waiting ++ changes f.listed now })

-- what an event puts out, after which the filter lists these; nothing once it has lapsed
abbrev pub after_event : List Bool → Feed → Feed
after_event now f = if f.lapsed then f else with_listed now f

abbrev pub blank : ℕ → UserNo → FilterNo → Feed
blank number user filter_no =
    record {
      no = number;
      user = user;
      filter = filter_no;
      listed = [];
      acked = 0;
      waiting = [];
      lapsed = false;
    }

-- a subscription begins with an entry for each issue that the filter lists
abbrev pub begun : ℕ → UserNo → FilterNo → List Bool → Feed
begun number user filter_no now = with_listed now (blank number user filter_no)

-- ---- what is told, and what is acknowledged

-- the moves that wait and have a greater number, so many at most
abbrev pub told : ℕ → ℕ → Feed → List Move
told from count f = take count (filter (λ m. nat_lt from m.number) (moves f))

-- the moves up to this number are dropped
abbrev pub acknowledged : ℕ → Feed → Feed
acknowledged upto f =
    record f { acked = f.acked + (upto - f.acked); waiting = drop (upto - f.acked) f.waiting }

-- ---- what holds of each

-- not too many wait, and there is a number for each move, and for each issue
pub record IsFeed (f : Feed) : Type 0 where
  pub few : length f.waiting ≤ most_waiting
  pub numbers : last f < 2 ^ 63 + 2 ^ 34
  pub issues : length f.listed < 2 ^ 32
