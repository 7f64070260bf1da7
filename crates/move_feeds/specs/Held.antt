-- A subscription with what was made ready for the next event.
use Rattle.std.specs.Prelude.{ℕ, ◌≡◌, ◌≤◌, ◌<◌, ◌+◌, ◌^◌, ◌==◌, Bool, true, false, List, length, map, Option, Some, None, if◌then◌else◌}
use Rattle.std.specs.List.{All}
use Rattle.field_values.specs.declared.numbers.FilterNo.{FilterNo}
use Rattle.move_feeds.specs.Changes.{changes}
use Rattle.move_feeds.specs.Feed.{Feed, IsFeed, after_event, last}

-- a subscription; what its filter lists behind the event; and for how many changes and for how many issues more there is room
pub record HeldFeed : Type 0 where
  pub feed : Feed
  pub next : List Bool
  pub room : ℕ
  pub bits : ℕ

-- what the filter is to list is at hand, with room and with numbers for what that puts out
pub record HasNext (now : List Bool) (h : HeldFeed) : Type 0 where
  pub next : h.next ≡ now
  pub few : length now < 2 ^ 32
  pub room : length (changes h.feed.listed now) ≤ h.room
  pub numbers : last h.feed < 2 ^ 63

-- the same, unless it has lapsed
abbrev pub IsReady : List Bool → HeldFeed → Type 0
IsReady now h = h.feed.lapsed ≡ false → HasNext now h

-- there is room and a number for one change, and room for one issue more
pub record HasRoomForOne (h : HeldFeed) : Type 0 where
  pub room : 0 < h.room
  pub bits : 0 < h.bits
  pub few : length h.feed.listed + 1 < 2 ^ 32
  pub numbers : last h.feed < 2 ^ 63

-- ---- all of them

abbrev pub feeds_of : List HeldFeed → List Feed
feeds_of hs = map (λ h. h.feed) hs

-- the subscription is of this filter, where only that one's list may have changed
abbrev pub is_concerned : Option FilterNo → Feed → Bool
is_concerned None f = true
is_concerned (Some number) f = f.filter.0 == number.0

-- each one that is concerned is ready for its list
abbrev pub AreReady : Option FilterNo → (ℕ → ℕ → List Bool) → List HeldFeed → Type 0
AreReady only lists hs =
    All (λ h. is_concerned only h.feed ≡ true
    → IsReady (lists h.feed.user.0 h.feed.filter.0) h) hs

-- each one that is concerned has taken the event in
abbrev pub taken_in : Option FilterNo → (ℕ → ℕ → List Bool) → Feed → Feed
taken_in only lists f =
    if is_concerned only f then after_event (lists f.user.0 f.filter.0) f else f

abbrev pub HaveRoomForOne : List HeldFeed → Type 0
HaveRoomForOne hs = All HasRoomForOne hs
