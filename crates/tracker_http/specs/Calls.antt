-- Which call a request asks for.
use Rattle.std.specs.Prelude.{ℕ, ◌+◌, List, [], ◌∷◌, length, drop, codes, Result, Ok, Err, Option, Some, None, option_and_then, if◌then◌else◌}
use Rattle.std.specs.Str.{is_utf8}
use Rattle.call_lines.specs.Asked.{Asked, need, no_other}
use Rattle.call_lines.specs.Body.{body_of}
use Rattle.tracker_calls.specs.declared.call.Call.{Call}
use Rattle.tracker_calls.specs.declared.call.Call.TheVariants as call
use Rattle.tracker_calls.specs.declared.call.Part.{Part}
use Rattle.tracker_calls.specs.declared.cause.Cause.TheVariants.{Form}
use Rattle.tracker_http.specs.Numbers.{number_within}
use Rattle.tracker_http.specs.Query.{pairs_of, text_in, first_unknown, part_in}
use Rattle.tracker_http.specs.Routes.{before, path_of, route_of}
use Rattle.tracker_http.specs.declared.got.ListOf.{ListOf}
use Rattle.tracker_http.specs.declared.got.ListOf.TheVariants as lists
use Rattle.tracker_http.specs.declared.query.Pair.{Pair}
use Rattle.tracker_http.specs.declared.request.Request.{Request}
use Rattle.tracker_http.specs.declared.route.Route.{Route}
use Rattle.tracker_http.specs.declared.route.Route.TheVariants as route
use Rattle.tracker_http.specs.declared.verb.Verb.{Verb}
use Rattle.tracker_http.specs.declared.verb.Verb.TheVariants.{Get, Post}

-- a text, where the bytes are UTF-8
abbrev pub utf8_text : List ℕ → Option (List ℕ)
utf8_text bytes = if is_utf8 bytes then Some bytes else None

-- who asks; where the field is absent or no text, nobody does
abbrev pub user_of : Request → Option (List ℕ)
user_of r = option_and_then utf8_text r.user

-- a query text begins behind the first question mark of the target
abbrev pub query_of : List ℕ → List ℕ
query_of target = drop (length (path_of target) + 1) target

-- ---- what a path names, as it stands

abbrev pub name_in : List ℕ → List ℕ → List ℕ
name_in front path = before 47 (drop (length front) path)

-- an issue; the target of a request that was read is UTF-8
abbrev pub issue_in : List ℕ → Option (List ℕ)
issue_in path = utf8_text (name_in (codes "/issues/") path)

-- the number of a saved filter, a board or a sprint
abbrev pub number_in : List ℕ → List ℕ → Option ℕ
number_in front path = number_within 0 4_294_967_295 (name_in front path)

-- ---- the calls of paths that are got, by their members in the order of a line: what the path names, what the query text
-- gives, and the first name in byte order that is none of the call's

abbrev pub show_of : List ℕ → List Pair → List ℕ → Asked
show_of path pairs user =
    need (issue_in path) (codes "issue") (λ issue.
    no_other (first_unknown [] pairs) (Ok (user, call.Show issue)))

-- what a query text gives of a part
abbrev pub part_names : List (List ℕ)
part_names = codes "from" ∷ codes "count" ∷ []

-- the call with the part, or the refusal of the member that is at fault
abbrev pub with_part : Result Part (List ℕ) → (Part → Asked) → Asked
with_part (Ok part) next = next part
with_part (Err name) next = Err (Form name)

abbrev pub history_of : List ℕ → List Pair → List ℕ → Asked
history_of path pairs user =
    need (issue_in path) (codes "issue") (λ issue.
    with_part (part_in 50 part_names pairs) (λ part. Ok (user, call.History issue part)))

abbrev pub search_of : List Pair → List ℕ → Asked
search_of pairs user =
    need (text_in (codes "jql") pairs) (codes "jql") (λ jql.
    with_part (part_in 1000 (codes "jql" ∷ part_names) pairs) (λ part.
    Ok (user, call.Search jql part)))

-- of a filter and a board the issues, of a sprint the changes of what it has left: by the number in the path

abbrev pub front_of : ListOf → List ℕ
front_of lists.Filter = codes "/filters/"
front_of lists.Board = codes "/boards/"
front_of lists.Sprint = codes "/sprints/"

abbrev pub member_of : ListOf → List ℕ
member_of lists.Filter = codes "filter"
member_of lists.Board = codes "board"
member_of lists.Sprint = codes "sprint"

abbrev pub list_call : ListOf → ℕ → Part → Call
list_call lists.Filter number part = call.Filter (record { 0 = number }) part
list_call lists.Board number part = call.Board (record { 0 = number }) part
list_call lists.Sprint number part = call.Burndown (record { 0 = number }) part

abbrev pub list_of : ListOf → List ℕ → List Pair → List ℕ → Asked
list_of what path pairs user =
    need (number_in (front_of what) path) (member_of what) (λ number.
    with_part (part_in 1000 part_names pairs) (λ part. Ok (user, list_call what number part)))

-- ---- requests

-- the call of a path; there is none of the path of posted calls
abbrev pub got : Route → List ℕ → List Pair → List ℕ → Asked
got route.Calls path pairs user = Err (Form (codes "line"))
got route.Issue path pairs user = show_of path pairs user
got route.History path pairs user = history_of path pairs user
got route.Search path pairs user = search_of pairs user
got route.Filter path pairs user = list_of lists.Filter path pairs user
got route.Board path pairs user = list_of lists.Board path pairs user
got route.Burndown path pairs user = list_of lists.Sprint path pairs user

abbrev pub path_call : Option Route → List ℕ → List Pair → List ℕ → Asked
path_call None path pairs user = Err (Form (codes "line"))
path_call (Some route) path pairs user = got route path pairs user

abbrev pub asked_by_verb : Verb → Request → Asked
asked_by_verb Post r = body_of r.body (user_of r)
asked_by_verb Get r =
    need (user_of r) (codes "user")
    (path_call (route_of (path_of r.target)) (path_of r.target) (pairs_of (query_of r.target)))

-- Who asks for which call, or the first fault in the order of a line: the field of the user stands in the place of a line's member
-- `user`. So of a posted body one that is no JSON object is told before a user that is absent, and a call's name and members
-- behind it. A query text behind the path of posted calls is left aside, and so is a body of what is got.
unfoldable pub asked_of : Request → Asked
asked_of r = asked_by_verb r.verb r
