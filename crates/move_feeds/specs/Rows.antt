-- Worked values, computed from the definitions: an issue that comes in and goes out, what is acknowledged of it, and whose it is.
use Rattle.std.specs.Prelude.{ℕ, ◌≡◌, Bool, true, false, List, [], ◌∷◌, length, Option, Some, None, option_map, refl}
use Rattle.field_values.specs.declared.numbers.FilterNo.{FilterNo}
use Rattle.field_values.specs.declared.numbers.UserNo.{UserNo}
use Rattle.move_feeds.specs.declared.feeds.FeedFault.TheVariants as fault
use Rattle.move_feeds.specs.declared.moves.Move.{Move}
use Rattle.move_feeds.specs.Feed.{Feed, last, told}
use Rattle.move_feeds.specs.FeedList.{FeedList, ack_fault, after_lists, feed_of, moves_fault, no_feeds, subscribed, there_fault, with_acknowledged, without_feed}

abbrev anna : UserNo
anna = record { 0 = 0 }

abbrev mine : FilterNo
mine = record { 0 = 1 }

-- every filter lists these for everybody
abbrev listing : List Bool → ℕ → ℕ → List Bool
listing now user filter_no = now

abbrev entered : ℕ → ℕ → Move
entered number issue = record { number = number; issue = record { 0 = issue }; entered = true }

abbrev left : ℕ → ℕ → Move
left number issue = record { number = number; issue = record { 0 = issue }; entered = false }

-- there is an issue, which the filter doesn't list; then it does, and then it doesn't
abbrev begin : FeedList
begin = subscribed anna mine (false ∷ []) no_feeds

abbrev started : FeedList
started = after_lists (listing (true ∷ [])) begin

abbrev edited : FeedList
edited = after_lists (listing (false ∷ [])) started

pub nothing_at_first : option_map (told 0 1_000) (feed_of 1 0 begin) ≡ Some []
nothing_at_first = refl

pub it_comes_in : option_map (told 0 1_000) (feed_of 1 0 started) ≡ Some (entered 1 1 ∷ [])
it_comes_in = refl

pub it_goes_out : option_map (told 0 1_000) (feed_of 1 0 edited)
    ≡ Some (entered 1 1 ∷ left 2 1 ∷ [])
it_goes_out = refl

-- from 1 on the second move is told
pub from_the_first : option_map (told 1 1_000) (feed_of 1 0 edited) ≡ Some (left 2 1 ∷ [])
from_the_first = refl

-- the first one is acknowledged
pub one_is_kept : option_map (told 0 1_000) (feed_of 1 0 (with_acknowledged 1 0 1 edited))
    ≡ Some (left 2 1 ∷ [])
one_is_kept = refl

-- and nothing beyond the second
pub none_beyond : ack_fault 9 (feed_of 1 0 edited) ≡ Some (fault.Beyond 2)
none_beyond = refl

-- for others it isn't there, nor is it once it has ended
pub not_for_bo : moves_fault (feed_of 1 1 edited) ≡ Some fault.NotThere
not_for_bo = refl

pub ended : there_fault (feed_of 1 0 (without_feed 1 0 edited)) ≡ Some fault.NotThere
ended = refl

-- its number isn't given again
pub another_number : (subscribed anna mine [] (without_feed 1 0 edited)).made ≡ 2
another_number = refl

-- a subscription begins with an entry for each issue that is listed, by number
pub entries_at_first : option_map (told 0 1_000) (feed_of 1 0 (subscribed anna mine
    (true ∷ false ∷ true ∷ []) no_feeds))
    ≡ Some (entered 1 1 ∷ entered 2 3 ∷ [])
entries_at_first = refl

-- what goes out is told before what comes in
pub out_before_in : option_map (told 2 1_000) (feed_of 1 0 (after_lists
    (listing (false ∷ true ∷ true ∷ true ∷ [])) (subscribed anna mine
    (true ∷ false ∷ true ∷ []) no_feeds)))
    ≡ Some (left 3 1 ∷ entered 4 2 ∷ entered 5 4 ∷ [])
out_before_in = refl
