-- What is seen of a whole head.
use Rattle.std.specs.Prelude.{◌≡◌, ℕ, List, None}
use Rattle.httparse.specs.declared.spans.HeaderSpan.{HeaderSpan}
use Rattle.httparse.specs.declared.spans.RequestSpans.{RequestSpans}
use Rattle.tracker_http.specs.Fields.{body_len}
use Rattle.tracker_http.specs.HeadEnd.{IsWholeHead}
use Rattle.tracker_http.specs.HeadFaults.{fault_of}
use Rattle.tracker_http.specs.Requests.{IsRefused}
use Rattle.tracker_http.specs.Spans.{head_at, IsReadAt}
use Rattle.tracker_http.specs.declared.see.HeadSeen.{HeadSeen}
use Rattle.tracker_http.specs.declared.see.HeadSeen.TheVariants as seen

-- a whole head isn't refused, and its body has that length
pub record IsTaken (bytes : List ℕ) (room : List HeaderSpan) (spans : RequestSpans)
    (size : ℕ) : Type 0 where
  pub whole : IsWholeHead bytes
  pub read : IsReadAt bytes room spans
  pub taken : fault_of (head_at bytes room spans) ≡ None
  pub size_is : size ≡ body_len (head_at bytes room spans).fields

abbrev pub SeesHead : List ℕ → List HeaderSpan → HeadSeen → Type 0
SeesHead bytes room (seen.Refused refusal is_head) = IsRefused bytes refusal is_head
SeesHead bytes room (seen.Taken spans size) = IsTaken bytes room spans size
