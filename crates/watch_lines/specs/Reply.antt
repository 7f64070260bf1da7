-- The replies to lines about subscriptions, and their text: compact JSON.
use Rattle.std.specs.Prelude.{ℕ, Bool, List, [], ◌∷◌, codes, decimal, map, if◌then◌else◌}
use Rattle.serde_json.specs.Data.{Data, array, item, member, no_items, no_members, object, string}
use Rattle.serde_json.specs.View.{items_of}
use Rattle.serde_json.specs.Written.{compact_text}
use Rattle.json_texts.specs.JsonData.{natural}
use Rattle.reply_texts.specs.Reply.{reply_data as plain_data}
use Rattle.watch_lines.specs.declared.reply.ToldMove.{ToldMove}
use Rattle.watch_lines.specs.declared.reply.WatchAnswer.{WatchAnswer}
use Rattle.watch_lines.specs.declared.reply.WatchAnswer.TheVariants as answer
use Rattle.watch_lines.specs.declared.reply.WatchRefusal.{WatchRefusal}
use Rattle.watch_lines.specs.declared.reply.WatchRefusal.TheVariants as refusal
use Rattle.watch_lines.specs.declared.reply.WatchReply.{WatchReply}
use Rattle.watch_lines.specs.declared.reply.WatchReply.TheVariants as reply

abbrev pub direction : Bool → List ℕ
direction entered = if entered then codes "enter" else codes "exit"

-- its number, its direction, and the issue's key
abbrev pub move_data : ToldMove → Data
move_data m = array (item (natural m.number) (item (string (direction m.entered))
    (item (string m.issue) no_items)))

abbrev pub subscription_data : ℕ → Data
subscription_data subscription =
    object (member (codes "subscription") (natural subscription) no_members)

abbrev pub feed_data : List ToldMove → ℕ → Data
feed_data moves total = object
    (member (codes "moves") (array (items_of (map move_data moves)))
    (member (codes "total") (natural total) no_members))

abbrev pub kept_data : ℕ → Data
kept_data kept = object (member (codes "kept") (natural kept) no_members)

-- the members under `ok`
abbrev pub answer_data : WatchAnswer → Data
answer_data (answer.Subscribe subscription) = subscription_data subscription
answer_data (answer.Feed moves total) = feed_data moves total
answer_data (answer.Ack kept) = kept_data kept
answer_data (answer.Unsubscribe subscription) = subscription_data subscription

abbrev pub unknown_data : ℕ → Data
unknown_data subscription =
    object (member (codes "kind") (string (codes "subscription"))
    (member (codes "name") (string (decimal subscription))
    (member (codes "no") (natural 2) no_members)))

abbrev pub full_data : Data
full_data =
    object (member (codes "limit") (string (codes "subscriptions"))
    (member (codes "no") (natural 10) (member (codes "number") (natural 100) no_members)))

-- refusals that tell the number of the last move
abbrev pub last_data : ℕ → ℕ → Data
last_data last refusal_number =
    object (member (codes "last") (natural last)
    (member (codes "no") (natural refusal_number) no_members))

-- the members under `refused`
abbrev pub refused_data : WatchRefusal → Data
refused_data (refusal.NotThere subscription) = unknown_data subscription
refused_data refusal.Full = full_data
refused_data (refusal.Lapsed last) = last_data last 16
refused_data (refusal.Beyond last) = last_data last 17

abbrev pub reply_data : WatchReply → Data
reply_data (reply.Ok a) = object (member (codes "ok") (answer_data a) no_members)
reply_data (reply.Refused r) = object (member (codes "refused") (refused_data r) no_members)
reply_data (reply.Plain r) = plain_data r

unfoldable pub watch_text : WatchReply → List ℕ
watch_text r = compact_text (reply_data r)
