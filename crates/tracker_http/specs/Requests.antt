-- The requests of a stream of bytes, and what ends them.
use Rattle.std.specs.Prelude.{◌≡◌, ◌<◌, ◌⊎◌, ℕ, List, [], ◌++◌, length, Bool, false, Option, Some, None}
use Rattle.std.specs.Io.KnownBytes.{Consumes, IsAtEnd}
use Rattle.httparse.specs.Grammar.{RequestHead, ReadsRequest}
use Rattle.tracker_http.specs.Fields.{x_user, value_named, body_len, closes}
use Rattle.tracker_http.specs.HeadEnd.{head_len, IsWholeHead}
use Rattle.tracker_http.specs.HeadFaults.{Head, head_of, fault_of, is_head_method, refused}
use Rattle.tracker_http.specs.Routes.{path_of, path_verb}
use Rattle.tracker_http.specs.Spans.{IsNoHead}
use Rattle.tracker_http.specs.declared.head_fault.HeadFault.{HeadFault}
use Rattle.tracker_http.specs.declared.request.Request.{Request}
use Rattle.tracker_http.specs.declared.request.Next.{Next}
use Rattle.tracker_http.specs.declared.request.Next.TheVariants as next

-- a head that isn't refused says this of its request
pub record Says (head : Head) (r : Request) : Type 0 where
  pub taken : fault_of head ≡ None
  pub verb : path_verb (path_of head.target) ≡ Some r.verb
  pub target : r.target ≡ head.target
  pub user : r.user ≡ value_named x_user head.fields
  pub close : r.close ≡ closes head.minor head.fields

-- the bytes are a whole head and the body of the length that it tells
pub record IsRequest (bytes : List ℕ) (r : Request) : Type 0 where
  pub text : List ℕ
  pub cut : bytes ≡ text ++ r.body
  pub whole : IsWholeHead text
  pub head : RequestHead
  pub reads : ReadsRequest text head []
  pub says : Says (head_of head) r
  pub size : length r.body ≡ body_len (head_of head).fields

-- so many bytes hold no whole head
pub record IsTooLong (bytes : List ℕ) (refusal : HeadFault) (is_head : Bool) : Type 0 where
  pub refusal_is : refusal ≡ refused 431 None
  pub is_head_is : is_head ≡ false
  pub len : length bytes ≡ 8192
  pub none : head_len bytes ≡ None

-- a whole head isn't one of the grammar
pub record IsNotGrammar (bytes : List ℕ) (refusal : HeadFault) (is_head : Bool) : Type 0 where
  pub refusal_is : refusal ≡ refused 400 None
  pub is_head_is : is_head ≡ false
  pub whole : IsWholeHead bytes
  pub none : IsNoHead bytes

-- a head is refused for what it says
pub record IsFaulty (bytes : List ℕ) (refusal : HeadFault) (is_head : Bool) : Type 0 where
  pub whole : IsWholeHead bytes
  pub head : RequestHead
  pub reads : ReadsRequest bytes head []
  pub fault : fault_of (head_of head) ≡ Some refusal
  pub is_head_is : is_head ≡ is_head_method head.method

-- why the bytes are refused
abbrev pub IsRefused : List ℕ → HeadFault → Bool → Type 0
IsRefused bytes refusal is_head =
    IsTooLong bytes refusal is_head
    ⊎ (IsNotGrammar bytes refusal is_head ⊎ IsFaulty bytes refusal is_head)

-- not empty, and too few bytes for a whole head or for one to be missed
pub record LacksHead (bytes : List ℕ) : Type 0 where
  pub some : 0 < length bytes
  pub short : length bytes < 8192
  pub none : head_len bytes ≡ None

-- a whole head that isn't refused, and a part of its body
pub record LacksBody (bytes : List ℕ) : Type 0 where
  pub text : List ℕ
  pub body : List ℕ
  pub cut : bytes ≡ text ++ body
  pub whole : IsWholeHead text
  pub head : RequestHead
  pub reads : ReadsRequest text head []
  pub taken : fault_of (head_of head) ≡ None
  pub short : length body < body_len (head_of head).fields

-- the bytes end inside a request
abbrev pub IsCut : List ℕ → Type 0
IsCut bytes = LacksHead bytes ⊎ LacksBody bytes

-- what stands next among the bytes that are left, and what is left after it
abbrev pub TakesNext : Option (List ℕ) → Option (List ℕ) → Next → Type 0
TakesNext old new (next.Request r) = (bytes : List ℕ) × IsRequest bytes r × Consumes old new bytes
TakesNext old new next.End = Consumes old new [] × IsAtEnd new
TakesNext old new next.Cut = (bytes : List ℕ) × IsCut bytes × Consumes old new bytes × IsAtEnd new
TakesNext old new (next.Refused status allow is_head) =
    (bytes : List ℕ) × IsRefused bytes (refused status allow) is_head × Consumes old new bytes
TakesNext old new next.ReadFault = Consumes old new []
TakesNext old new next.Memory = Consumes old new []
