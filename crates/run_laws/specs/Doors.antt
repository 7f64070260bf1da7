-- The same over the doors: a body that is posted over HTTP has the reply of its line under `exec`, after the same tick.
use Rattle.std.specs.Prelude.{◌≡◌, ℕ, List, Bool, true, false, Option, Some, None, Ok}
use Rattle.call_lines.specs.Asked.{line_of}
use Rattle.reply_texts.specs.Reply.{reply_text}
use Rattle.tracker_calls.specs.declared.call.Call.{Call}
use Rattle.tracker_calls.specs.declared.call.Call.TheVariants as call
use Rattle.tracker_calls.specs.declared.reply.Refusal.TheVariants as refusal
use Rattle.tracker_calls.specs.declared.reply.Reply.{Reply}
use Rattle.tracker_calls.specs.declared.reply.Reply.TheVariants as reply
use Rattle.tracker_machine.specs.Machine.{Machine}
use Rattle.tracker_machine.specs.Step.{IsStep}
use Rattle.tracker_runs.specs.Run.{asked_reply, asked_next}
use Rattle.tracker_sight.specs.Bodies.{IsLineOf, asks_to_tick}
use Rattle.tracker_http.specs.Calls.{user_of, asked_of}
use Rattle.tracker_http.specs.Response.{response}
use Rattle.tracker_http.specs.Statuses.{status_of}
use Rattle.tracker_http.specs.declared.request.Request.{Request}
use Rattle.tracker_http.specs.declared.verb.Verb.TheVariants.{Post}
use Rattle.tracker_server.specs.Events.{Lead}
use Rattle.tracker_server.specs.Exchanges.{Exchange, IsMade, lets_through, response_to}
use Rattle.tracker_server.specs.Served.{makes_event}

-- ---- what is asked for

-- the request posts the body of a line, and the line's user stands in its field
pub record IsPostOf (line user : List ℕ) (r : Request) : Type 0 where
  pub verb : r.verb ≡ Post
  pub user_is : user_of r ≡ Some user
  pub body : IsLineOf line r.body user
  pub ticks : asks_to_tick body.members ≡ false

-- it asks for what the line asks for: the same call of the same user, or the same fault
abbrev pub PostsAskAsLines : Type 0
PostsAskAsLines =
    (line user : List ℕ) (r : Request) → IsPostOf line user r → asked_of r ≡ line_of line

-- ---- what is answered

-- the tracker's own reply: neither want of memory nor a keeper's fault
abbrev pub IsOwn : Reply → Type 0
IsOwn (reply.Ok a) = Unit {0}
IsOwn (reply.Refused (refusal.Cause c)) = Unit {0}
IsOwn (reply.Refused refusal.Keeper) = ⊥
IsOwn (reply.Refused refusal.Memory) = ⊥

-- under `exec`, the reply to a line behind one that ticks, and the tracker after both
abbrev pub reply_behind : Machine → List ℕ → List ℕ → Reply
reply_behind m tick line = asked_reply (asked_next m (line_of tick)) (line_of line)

abbrev pub tracker_behind : Machine → List ℕ → List ℕ → Machine
tracker_behind m tick line = asked_next (asked_next m (line_of tick)) (line_of line)

-- an exchange made a call of the tracker, behind its tick to the clock's moment, which let it through
pub record IsExchangeOf (m last : Machine) (user : List ℕ) (c : Call) (moment : ℕ)
    (x : Exchange) : Type 0 where
  pub worker : ℕ
  pub ahead : Option (List ℕ)
  pub later : Option (List ℕ)
  pub made : IsMade worker user c ahead later x.entered x.reply
  pub moment_is : made.moment ≡ moment
  pub through : lets_through made.ticked ≡ true
  pub leads : Lead (makes_event IsStep) m x.entered last
  pub own_tick : IsOwn made.ticked
  pub own : IsOwn x.reply

-- The response has the bytes that the line's reply has, and the tracker is the same afterwards, where the line comes behind a tick to
-- the same moment by the same user.
pub record RepliesAlike (m last : Machine) (tick line : List ℕ) (x : Exchange) : Type 0 where
  pub reply_is : x.reply ≡ reply_behind m tick line
  pub bytes : (close : Bool) → response_to x.reply close
      ≡ response (status_of x.reply) (Some (reply_text (reply_behind m tick line))) close None
  pub tracker : last ≡ tracker_behind m tick line

abbrev pub DoorsReplyAlike : Type 0
DoorsReplyAlike =
    (m last : Machine) (user tick line : List ℕ) (c : Call) (moment : ℕ) (x : Exchange)
    → IsPostOf line user x.request → asked_of x.request ≡ Ok (user, c)
    → IsExchangeOf m last user c moment x → line_of tick ≡ Ok (user, call.Tick moment)
    → RepliesAlike m last tick line x
