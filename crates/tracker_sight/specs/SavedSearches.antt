-- What a filter tells is what a search with its text tells the filter's owner, at the same moment.
use Rattle.std.specs.Prelude.{◌≡◌, ℕ, List, filter, Some}
use Rattle.field_values.specs.declared.numbers.FilterNo.{FilterNo}
use Rattle.tracker_calls.specs.declared.call.Call.TheVariants as call
use Rattle.tracker_calls.specs.declared.call.Part.{Part}
use Rattle.tracker_calls.specs.declared.reply.Answer.TheVariants as answer
use Rattle.tracker_calls.specs.declared.reply.Reply.{Reply}
use Rattle.tracker_calls.specs.declared.reply.Reply.TheVariants as reply
use Rattle.tracker_machine.specs.Machine.{Machine}
use Rattle.tracker_machine.specs.Tracker.{IsTracker}
use Rattle.tracker_machine.specs.Saved.{SavedFilter}
use Rattle.tracker_machine.specs.Filters.{filter_numbered, shown}
use Rattle.tracker_machine.specs.Step.{reply_of, user_of}
use Rattle.tracker_sight.specs.Sight.{sees}

-- the reply to a search, as one to the call `filter`
abbrev pub as_filtered : Reply → Reply
as_filtered (reply.Ok (answer.Search issues total)) = reply.Ok (answer.Filter issues total)
as_filtered r = r

-- the owner is told by the filter what he is told by a search with its text
abbrev pub FiltersAreSearches : Type 0
FiltersAreSearches =
    (m : Machine) (owner : List ℕ) (filter_no : FilterNo) (part : Part) (f : SavedFilter)
    → IsTracker m → filter_numbered m filter_no ≡ Some f → user_of m owner ≡ f.owner.0
    → reply_of m owner (call.Filter filter_no part)
    ≡ as_filtered (reply_of m owner (call.Search f.text part))

-- and any other caller finds of these issues those that he may browse
abbrev pub OthersFindOfTheOwners : Type 0
OthersFindOfTheOwners =
    (m : Machine) (caller : ℕ) (f : SavedFilter)
    → shown m caller f ≡ filter (sees m.setup caller) (shown m f.owner.0 f)
