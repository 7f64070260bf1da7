-- What a line about a subscription asks for.
use Rattle.std.specs.Prelude.{◌≡◌, ℕ, nat_le, ◌&&◌, Bool, true, false, not, List, [], ◌∷◌, codes, find, Result, Ok, Err, Option, Some, None, option_and_then, if◌then◌else◌}
use Rattle.std.specs.Option.{is_some}
use Rattle.std.specs.Str.{bytes_eq}
use Rattle.serde_json.specs.Data.{Data, Members}
use Rattle.serde_json.specs.Find.{get, as_number, as_object, as_u64}
use Rattle.json_texts.specs.JsonMembers.{text_at}
use Rattle.call_lines.specs.Asked.{data_of, is_among, names_of, need, no_other, number_at}
use Rattle.tracker_calls.specs.declared.cause.Cause.{Cause}
use Rattle.tracker_calls.specs.declared.reply.Refusal.{Refusal}
use Rattle.tracker_calls.specs.declared.reply.Refusal.TheVariants as refusal
use Rattle.watch_lines.specs.declared.watch.Watch.{Watch}
use Rattle.watch_lines.specs.declared.watch.Watch.TheVariants as watch
use Rattle.watch_lines.specs.declared.watch.WatchKind.{WatchKind}
use Rattle.watch_lines.specs.declared.watch.WatchKind.TheVariants as kind

abbrev pub kind_named : List ℕ → Option WatchKind
kind_named name =
    if bytes_eq name (codes "subscribe") then Some kind.Subscribe else
    (if bytes_eq name (codes "feed") then Some kind.Feed else
    (if bytes_eq name (codes "ack") then Some kind.Ack else
    (if bytes_eq name (codes "unsubscribe") then Some kind.Unsubscribe else None)))

abbrev pub watch_members : WatchKind → List (List ℕ)
watch_members kind.Subscribe = codes "filter" ∷ codes "user" ∷ codes "watch" ∷ []
watch_members kind.Feed =
    codes "count" ∷ codes "from" ∷ codes "subscription" ∷ codes "user" ∷ codes "watch" ∷ []
watch_members kind.Ack =
    codes "subscription" ∷ codes "upto" ∷ codes "user" ∷ codes "watch" ∷ []
watch_members kind.Unsubscribe = codes "subscription" ∷ codes "user" ∷ codes "watch" ∷ []

-- the first name in byte order that is no member of such a line
abbrev pub first_other : WatchKind → List (List ℕ) → Option (List ℕ)
first_other kind names = find (λ name. not (is_among name (watch_members kind))) names

-- the number of a move: a whole number that each reader of JSON tells exactly
abbrev pub most_number : ℕ
most_number = 9_007_199_254_740_991

-- a whole number between bounds
abbrev pub whole_in : ℕ → ℕ → Data → Option ℕ
whole_in least most d =
    option_and_then (λ n. if nat_le least n && nat_le n most then Some n else None)
    (option_and_then as_u64 (as_number d))

-- the same of a member that may be absent, and then is that number
abbrev pub whole_or : ℕ → ℕ → ℕ → Option Data → Option ℕ
whole_or absent least most None = Some absent
whole_or absent least most (Some d) = whole_in least most d

abbrev pub from_of : Data → Option ℕ
from_of d = whole_or 0 0 most_number (get (codes "from") d)

abbrev pub count_of : Data → Option ℕ
count_of d = whole_or 1_000 1 1_000 (get (codes "count") d)

abbrev pub upto_of : Data → Option ℕ
upto_of d = option_and_then (whole_in 0 most_number) (get (codes "upto") d)

-- ---- the members of each, in the order in which a fault is told

abbrev pub asked_by : WatchKind → Data → Members → Result Watch Cause
asked_by kind.Subscribe d members =
    need (number_at (codes "filter") d) (codes "filter") (λ filter_no.
    no_other (first_other kind.Subscribe (names_of members))
    (Ok (watch.Subscribe (record { 0 = filter_no }))))
asked_by kind.Feed d members =
    need (number_at (codes "subscription") d) (codes "subscription") (λ subscription.
    need (from_of d) (codes "from") (λ from.
    need (count_of d) (codes "count") (λ count.
    no_other (first_other kind.Feed (names_of members))
    (Ok (watch.Feed subscription from count)))))
asked_by kind.Ack d members =
    need (number_at (codes "subscription") d) (codes "subscription") (λ subscription.
    need (upto_of d) (codes "upto") (λ upto.
    no_other (first_other kind.Ack (names_of members)) (Ok (watch.Ack subscription upto))))
asked_by kind.Unsubscribe d members =
    need (number_at (codes "subscription") d) (codes "subscription") (λ subscription.
    no_other (first_other kind.Unsubscribe (names_of members))
    (Ok (watch.Unsubscribe subscription)))

abbrev pub AskedWatch : Type 0
AskedWatch = Result (List ℕ × Watch) Cause

abbrev pub with_user : List ℕ → Result Watch Cause → AskedWatch
with_user user (Ok w) = Ok (user, w)
with_user user (Err c) = Err c

-- who asks for what, or the first fault: the user, then the word, then its members
abbrev pub watch_of : Data → Members → AskedWatch
watch_of d members =
    need (text_at (codes "user") d) (codes "user") (λ user.
    need (option_and_then kind_named (text_at (codes "watch") d)) (codes "watch")
    (λ kind. with_user user (asked_by kind d members)))

-- the object has `watch`, and no `call`
abbrev pub is_watch : Data → Bool
is_watch d = is_some (get (codes "watch") d) && not (is_some (get (codes "call") d))

abbrev pub watch_in : Data → Members → Option AskedWatch
watch_in d members = if is_watch d then Some (watch_of d members) else None

-- what the line asks for about a subscription, if it is such a line
unfoldable pub watch_line : List ℕ → Option AskedWatch
watch_line bytes =
    option_and_then (λ d. option_and_then (watch_in d) (as_object d)) (data_of bytes)

-- this is expected; want of memory may be answered in place of anything
abbrev pub AsksWatch : Result (Option (List ℕ × Watch)) Refusal → Option AskedWatch → Type 0
AsksWatch (Ok None) expected = expected ≡ None
AsksWatch (Ok (Some asked)) expected = expected ≡ Some (Ok asked)
AsksWatch (Err (refusal.Cause c)) expected = expected ≡ Some (Err c)
AsksWatch (Err refusal.Keeper) expected = ⊥
AsksWatch (Err refusal.Memory) expected = Unit {0}
