-- The bytes of a response.
use Rattle.std.specs.Prelude.{ℕ, ◌==◌, List, [], ◌∷◌, ◌++◌, length, codes, decimal, unwrap_or, Bool, true, false, IsTrue, Option, Some, None}
use Rattle.std.specs.List.{list_any}
use Rattle.http.specs.StatusCode.{reason_phrase}
use Rattle.tracker_http.specs.declared.verb.Verb.{Verb}
use Rattle.tracker_http.specs.declared.verb.Verb.TheVariants.{Get, Post}

-- the statuses of the replies to calls and of the requests that are refused
abbrev pub statuses : List ℕ
statuses = 200 ∷ 400 ∷ 403 ∷ 404 ∷ 405 ∷ 409 ∷ 413 ∷ 422 ∷ 431 ∷ 501 ∷ 503 ∷ 507 ∷ []

abbrev pub is_status : ℕ → Bool
is_status status = list_any (λ s. s == status) statuses

-- the status is one of a response
abbrev pub IsStatus : ℕ → Type 0
IsStatus status = IsTrue (is_status status)

-- the end of each line
abbrev pub crlf : List ℕ
crlf = 13 ∷ 10 ∷ []

-- the reason that stands behind a status
abbrev pub reason : ℕ → List ℕ
reason status = unwrap_or (reason_phrase status) []

-- the version, the status and its reason
unfoldable pub status_line : ℕ → List ℕ
status_line status = codes "HTTP/1.1 " ++ decimal status ++ codes " " ++ reason status ++ crlf

-- each body is JSON
unfoldable pub type_line : List ℕ
type_line = codes "Content-Type: application/json" ++ crlf

-- how many bytes the body has, left out where there is no body
abbrev pub length_line : Option (List ℕ) → List ℕ
length_line None = []
length_line (Some body) = codes "Content-Length: " ++ decimal (length body) ++ crlf

-- the name of a method
abbrev pub verb_name : Verb → List ℕ
verb_name Get = codes "GET"
verb_name Post = codes "POST"

-- the one method that a path has, where another one was asked for
abbrev pub allow_line : Option Verb → List ℕ
allow_line None = []
allow_line (Some verb) = codes "Allow: " ++ verb_name verb ++ crlf

-- whether the connection closes after this response
abbrev pub close_line : Bool → List ℕ
close_line false = []
close_line true = codes "Connection: close" ++ crlf

abbrev pub body_bytes : Option (List ℕ) → List ℕ
body_bytes None = []
body_bytes (Some body) = body

-- the lines that each response has
unfoldable pub start : ℕ → List ℕ
start status = status_line status ++ type_line

-- the lines that depend on the response
unfoldable pub fields : Option (List ℕ) → Bool → Option Verb → List ℕ
fields body close allow = length_line body ++ allow_line allow ++ close_line close

-- the empty line, and the body
unfoldable pub after_head : Option (List ℕ) → List ℕ
after_head body = crlf ++ body_bytes body

-- a response
unfoldable pub response : ℕ → Option (List ℕ) → Bool → Option Verb → List ℕ
response status body close allow = start status ++ fields body close allow ++ after_head body

-- the body of the response to a request that is refused
abbrev pub refused_body : ℕ → List ℕ
refused_body status = codes "{\"http\":" ++ decimal status ++ codes "}"
