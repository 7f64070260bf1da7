-- What the spans of a head that was read cover.
use Rattle.std.specs.Prelude.{◌≡◌, ◌≤◌, ℕ, List, [], length, map, take, All, Option, Some, None}
use Rattle.httparse.specs.Grammar.{RequestHead, ReadsRequest}
use Rattle.httparse.specs.Spans.{span_bytes, header_bytes, IsWithin, IsHeaderWithin}
use Rattle.httparse.specs.declared.spans.HeaderSpan.{HeaderSpan}
use Rattle.httparse.specs.declared.spans.RequestSpans.{RequestSpans}
use Rattle.tracker_http.specs.Fields.{Fields}
use Rattle.tracker_http.specs.HeadFaults.{Head, head_of}

-- the names and values that these spans cover
abbrev pub fields_at : List ℕ → List HeaderSpan → Fields
fields_at bytes spans = map (header_bytes bytes) spans

-- what the spans say
abbrev pub head_at : List ℕ → List HeaderSpan → RequestSpans → Head
head_at bytes room spans = record {
  method = span_bytes bytes spans.method;
  target = span_bytes bytes spans.path;
  minor = spans.version;
  fields = fields_at bytes (take spans.headers room);
}

-- all spans lie in the head
pub record SpansAreWithin (bytes : List ℕ) (room : List HeaderSpan)
    (spans : RequestSpans) : Type 0 where
  pub method : IsWithin (length bytes) spans.method
  pub path : IsWithin (length bytes) spans.path
  pub count : spans.headers ≤ length room
  pub fields : All (IsHeaderWithin (length bytes)) (take spans.headers room)

-- the bytes are a request head, and the spans say what it says
pub record IsReadAt (bytes : List ℕ) (room : List HeaderSpan) (spans : RequestSpans) : Type 0 where
  pub head : RequestHead
  pub reads : ReadsRequest bytes head []
  pub same : head_at bytes room spans ≡ head_of head
  pub within : SpansAreWithin bytes room spans

-- the bytes are no request head
abbrev pub IsNoHead : List ℕ → Type 0
IsNoHead bytes = (h : RequestHead) → ¬ (ReadsRequest bytes h [])

abbrev pub Looks : List ℕ → List HeaderSpan → Option RequestSpans → Type 0
Looks bytes room None = IsNoHead bytes
Looks bytes room (Some spans) = IsReadAt bytes room spans
