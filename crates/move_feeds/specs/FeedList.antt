-- All subscriptions, and what is asked of them.
use Rattle.std.specs.Prelude.{ℕ, ◌≡◌, ◌≤◌, ◌+◌, ◌-◌, ◌==◌, ◌&&◌, ◌||◌, Bool, true, false, not, List, [], ◌∷◌, ◌++◌, length, map, find, filter, nat_lt, nat_le, Option, Some, None, Result, Ok, Err, if◌then◌else◌}
use Rattle.field_values.specs.declared.numbers.FilterNo.{FilterNo}
use Rattle.field_values.specs.declared.numbers.UserNo.{UserNo}
use Rattle.move_feeds.specs.declared.feeds.FeedFault.{FeedFault}
use Rattle.move_feeds.specs.declared.feeds.FeedFault.TheVariants as fault
use Rattle.std.specs.List.{All}
use Rattle.move_feeds.specs.Feed.{Feed, IsFeed, is_of, last, after_event, begun, acknowledged}

-- so many are there at most
abbrev pub most_feeds : ℕ
most_feeds = 100

-- the subscriptions by number, and how many were made: numbers aren't used again
pub record FeedList : Type 0 where
  pub feeds : List Feed
  pub made : ℕ

abbrev pub no_feeds : FeedList
no_feeds = record { feeds = []; made = 0 }

-- for others it isn't there
abbrev pub feed_of : ℕ → ℕ → FeedList → Option Feed
feed_of number user fs = find (is_of number user) fs.feeds

-- ---- what is done

abbrev pub subscribed : UserNo → FilterNo → List Bool → FeedList → FeedList
subscribed user filter_no now fs =
    record {
      feeds = fs.feeds ++ begun (fs.made + 1) user filter_no now ∷ [];
      made = fs.made + 1;
    }

-- after an event, behind which a filter lists these for a user
abbrev pub after_lists : (ℕ → ℕ → List Bool) → FeedList → FeedList
after_lists lists fs =
    record fs { feeds = map (λ f. after_event (lists f.user.0 f.filter.0) f) fs.feeds }

-- the first subscription of which this holds becomes what that makes of it
abbrev pub changed_first : (Feed → Bool) → (Feed → Feed) → List Feed → List Feed
changed_first is change [] = []
changed_first is change (f ∷ fs) =
    if is f then change f ∷ fs else f ∷ changed_first is change fs

abbrev pub with_acknowledged : ℕ → ℕ → ℕ → FeedList → FeedList
with_acknowledged number user upto fs =
    record fs { feeds = changed_first (is_of number user) (acknowledged upto) fs.feeds }

-- the first one of which this holds goes
abbrev pub without_first : (Feed → Bool) → List Feed → List Feed
without_first is [] = []
without_first is (f ∷ fs) = if is f then fs else f ∷ without_first is fs

abbrev pub without_feed : ℕ → ℕ → FeedList → FeedList
without_feed number user fs = record fs { feeds = without_first (is_of number user) fs.feeds }

-- ---- the first cause for which it isn't done

-- another subscription finds no room
abbrev pub full_fault : FeedList → Option FeedFault
full_fault fs = if nat_le most_feeds (length fs.feeds) then Some fault.Full else None

abbrev pub lapse_fault : Feed → Option FeedFault
lapse_fault f = if f.lapsed then Some (fault.Lapsed (last f)) else None

-- nothing is told of one that has lapsed, or that isn't there
abbrev pub moves_fault : Option Feed → Option FeedFault
moves_fault None = Some fault.NotThere
moves_fault (Some f) = lapse_fault f

-- nor acknowledged beyond the last move
abbrev pub ack_fault : ℕ → Option Feed → Option FeedFault
ack_fault upto None = Some fault.NotThere
ack_fault upto (Some f) =
    if f.lapsed then Some (fault.Lapsed (last f))
    else if nat_lt (last f) upto then Some (fault.Beyond (last f))
    else None

abbrev pub there_fault : Option Feed → Option FeedFault
there_fault None = Some fault.NotThere
there_fault (Some f) = None

-- it is refused for the cause that is due, or for want of memory
abbrev pub IsFault : Option FeedFault → FeedFault → Type 0
IsFault due fault.Memory = Unit {0}
IsFault due f = due ≡ Some f

-- ---- what holds of all of them

pub record AreFeeds (fs : FeedList) : Type 0 where
  pub each : All IsFeed fs.feeds
  pub few : length fs.feeds ≤ most_feeds
