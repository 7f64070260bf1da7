-- Requests and the calls that they ask for.
use Rattle.std.proofs.Common.{◌≡◌, ℕ, List, [], ◌∷◌, codes, Option, Some, None, Ok, Err, false, refl}
use Rattle.std.specs.Str.{is_utf8, chars}
use Rattle.std.specs.Str.Lossy.{utf8_lossy, utf8_valid_len, utf8_error_len}
use Rattle.form_urlencoded.proofs.OnLiterals.{form_urlencoded_on_literals}
use Rattle.call_lines.specs.Body.{body_of}
use Rattle.tracker_calls.specs.declared.call.Call.TheVariants.{Show, History, Search, Filter, Board, Burndown}
use Rattle.tracker_calls.specs.declared.cause.Cause.TheVariants.{Form}
use Rattle.tracker_http.specs.Calls.{asked_of}
use Rattle.tracker_http.specs.Routes.{is_path, is_under, route_of}
use Rattle.tracker_http.specs.declared.request.Request.{Request}
use Rattle.tracker_http.specs.declared.verb.Verb.TheVariants.{Get, Post}

abbrev get : List ℕ → Option (List ℕ) → Request
get target user = record { verb = Get; target = target; user = user; body = []; close = false }

abbrev post : List ℕ → Option (List ℕ) → Request
post body user = record { verb = Post; target = codes "/calls?x=1"; user = user; body = body; close = false }

-- what computes on a literal
unfoldable on_literals : Unit {0}
unfolding is_utf8 chars lib.Utf8.encode utf8_lossy utf8_valid_len utf8_error_len form_urlencoded_on_literals is_path is_under route_of asked_of
on_literals = tt

-- a path is taken as it stands
pub a_show : asked_of (get (codes "/issues/OPS%2D9?") (Some (codes "anna"))) ≡ Ok (codes "anna", Show (codes "OPS%2D9"))
unfolding on_literals
a_show = refl

pub a_history : asked_of (get (codes "/issues/OPS-9/history?count=07") (Some (codes "bo"))) ≡ Ok (codes "bo", History (codes "OPS-9") (record { from = 0; count = 7 }))
unfolding on_literals
a_history = refl

-- names and values of a query text are decoded
pub a_search : asked_of (get (codes "/search?%66rom=2&jql=a+%3d+b") (Some (codes "cy"))) ≡ Ok (codes "cy", Search (codes "a = b") (record { from = 2; count = 1000 }))
unfolding on_literals
a_search = refl

pub a_filter : asked_of (get (codes "/filters/0004294967295") (Some (codes "cy"))) ≡ Ok (codes "cy", Filter (record { 0 = 4294967295 }) (record { from = 0; count = 1000 }))
unfolding on_literals
a_filter = refl

pub a_board : asked_of (get (codes "/boards/0?count=20") (Some (codes "cy"))) ≡ Ok (codes "cy", Board (record { 0 = 0 }) (record { from = 0; count = 20 }))
unfolding on_literals
a_board = refl

pub a_burndown : asked_of (get (codes "/sprints/12/burndown") (Some (codes "cy"))) ≡ Ok (codes "cy", Burndown (record { 0 = 12 }) (record { from = 0; count = 1000 }))
unfolding on_literals
a_burndown = refl

pub a_number_too_large : asked_of (get (codes "/filters/4294967296?from=a") (Some (codes "cy"))) ≡ Err (Form (codes "filter"))
unfolding on_literals
a_number_too_large = refl

pub a_number_with_a_sign : asked_of (get (codes "/search?jql=x&from=+1") (Some (codes "cy"))) ≡ Err (Form (codes "from"))
unfolding on_literals
a_number_with_a_sign = refl

-- one that stands twice, like one of the wrong kind
pub a_repeated_member : asked_of (get (codes "/search?a=1&jql=x&count=1&count=1") (Some (codes "cy"))) ≡ Err (Form (codes "count"))
unfolding on_literals
a_repeated_member = refl

-- a query text gives no member that the path names, and no user
pub a_second_issue : asked_of (get (codes "/issues/OPS-9?user=cy&issue=OPS-9") (Some (codes "cy"))) ≡ Err (Form (codes "issue"))
unfolding on_literals
a_second_issue = refl

-- nobody asks; who asks is no text
pub a_show_for_nobody : asked_of (get (codes "/issues/OPS-9?x") None) ≡ Err (Form (codes "user"))
unfolding on_literals
a_show_for_nobody = refl

pub a_show_for_no_text : asked_of (get (codes "/issues/OPS-9") (Some (195 ∷ []))) ≡ Err (Form (codes "user"))
unfolding on_literals
a_show_for_no_text = refl

-- of what is posted the query text is left aside
pub a_posted_call : (body : List ℕ) → asked_of (post body (Some (codes "anna"))) ≡ body_of body (Some (codes "anna"))
unfolding is_utf8 chars lib.Utf8.encode asked_of
a_posted_call body = refl
