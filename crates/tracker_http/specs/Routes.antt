-- The paths that are served, and the method of each.
use Rattle.std.specs.Prelude.{ℕ, ◌==◌, List, [], ◌∷◌, length, drop, codes, Bool, ◌&&◌, nat_lt, nat_le, take, Option, Some, None, option_map, if◌then◌else◌}
use Rattle.std.specs.Str.{bytes_eq}
use Rattle.tracker_http.specs.declared.verb.Verb.{Verb}
use Rattle.tracker_http.specs.declared.verb.Verb.TheVariants.{Get, Post}
use Rattle.tracker_http.specs.declared.route.Route.{Route}
use Rattle.tracker_http.specs.declared.route.Route.TheVariants.{Calls, Issue, History, Search, Filter, Board, Burndown}

-- the bytes before the first such byte
abbrev pub before : ℕ → List ℕ → List ℕ
before mark [] = []
before mark (byte ∷ bytes) = if byte == mark then [] else byte ∷ before mark bytes

-- a path goes to the first question mark of the target, and is taken as it stands
abbrev pub path_of : List ℕ → List ℕ
path_of target = before 63 target

-- the path begins like that
abbrev pub begins_with : List ℕ → List ℕ → Bool
begins_with front path =
    nat_le (length front) (length path) && bytes_eq (take (length front) path) front

-- a name of at least one byte without a slash, and then the back
abbrev pub is_name_then : List ℕ → List ℕ → Bool
is_name_then back rest =
    nat_lt 0 (length (before 47 rest)) && bytes_eq (drop (length (before 47 rest)) rest) back

-- the front, a name, and the back
unfoldable pub is_under : List ℕ → List ℕ → List ℕ → Bool
is_under front back path = begins_with front path && is_name_then back (drop (length front) path)

-- the path is that text
unfoldable pub is_path : List ℕ → List ℕ → Bool
is_path text path = bytes_eq path text

-- the route of a path
unfoldable pub route_of : List ℕ → Option Route
route_of path =
    if is_path (codes "/calls") path then Some Calls
    else (if is_path (codes "/search") path then Some Search
    else (if is_under (codes "/issues/") [] path then Some Issue
    else (if is_under (codes "/issues/") (codes "/history") path then Some History
    else (if is_under (codes "/filters/") [] path then Some Filter
    else (if is_under (codes "/boards/") [] path then Some Board
    else (if is_under (codes "/sprints/") (codes "/burndown") path then Some Burndown
    else None))))))

-- calls are posted, and all else is got
abbrev pub verb_of : Route → Verb
verb_of Calls = Post
verb_of Issue = Get
verb_of History = Get
verb_of Search = Get
verb_of Filter = Get
verb_of Board = Get
verb_of Burndown = Get

-- the method of a path that is served
abbrev pub path_verb : List ℕ → Option Verb
path_verb path = option_map verb_of (route_of path)
