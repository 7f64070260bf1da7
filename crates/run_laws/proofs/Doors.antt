-- A posted body has the reply of its line.
use Rattle.std.proofs.Common.{◌≡◌, ◌++◌, ℕ, Bool, true, false, List, [], ◌∷◌, Option, Some, None, Ok, inl, inr, refl, sym, ◌∙◌, ap, subst}
use Rattle.call_lines.specs.Asked.{Asked, line_of}
use Rattle.call_lines.specs.Body.{body_of}
use Rattle.reply_texts.specs.Reply.{reply_text}
use Rattle.tracker_calls.specs.declared.call.Call.{Call}
use Rattle.tracker_calls.specs.declared.call.Call.TheVariants as call
use Rattle.tracker_calls.specs.declared.cause.Cause.{Cause}
use Rattle.tracker_calls.specs.declared.reply.Refusal.TheVariants as refusal
use Rattle.tracker_calls.specs.declared.reply.Reply.{Reply}
use Rattle.tracker_calls.specs.declared.reply.Reply.TheVariants as reply
use Rattle.tracker_machine.specs.Machine.{Machine}
use Rattle.tracker_machine.specs.Meaning.{Meaning, reply_to, next_after, Performs}
use Rattle.tracker_machine.specs.Step.{meaning, reply_of, next_of, IsStep}
use Rattle.tracker_runs.specs.Run.{asked_reply, asked_next}
use Rattle.tracker_http.specs.Calls.{user_of, asked_by_verb, asked_of}
use Rattle.tracker_http.specs.Response.{response}
use Rattle.tracker_http.specs.Statuses.{status_of}
use Rattle.tracker_http.specs.declared.request.Request.{Request}
use Rattle.tracker_http.specs.declared.verb.Verb.{Verb}
use Rattle.tracker_server.specs.Events.{Lead, event, IsEntered}
use Rattle.tracker_server.specs.Exchanges.{Exchange, IsMade, Follows, lets_through, response_to}
use Rattle.tracker_server.specs.Served.{makes_event}
use Rattle.tracker_server.specs.declared.event.Event.{Event}
use Rattle.tracker_sight.specs.Bodies.{IsLineOf}
use Rattle.tracker_sight.proofs.Bodies.{bodies_ask_as_lines}
use Rattle.run_laws.specs.Doors.{IsPostOf, PostsAskAsLines, IsOwn, reply_behind, tracker_behind, IsExchangeOf, RepliesAlike, DoorsReplyAlike}

-- ---- what is asked for

pub posts_ask_as_lines : PostsAskAsLines
unfolding asked_of
posts_ask_as_lines line user r post =
    ap (λ (v : Verb). asked_by_verb v r) post.verb
    ∙ ap (body_of r.body) post.user_is
    ∙ bodies_ask_as_lines line r.body user post.body post.ticks

-- ---- a step

-- a step with the tracker's own reply is the one that the call means
record Stepped (m new : Machine) (caller : List ℕ) (c : Call) (r : Reply) : Type 0 where
  reply_is : r ≡ reply_of m caller c
  new_is : new ≡ next_of m caller c

performed : (due : Meaning) (m new : Machine) (r : Reply) → IsOwn r → Performs due m r new → (r ≡ reply_to due) × (new ≡ next_after due m)
performed due m new (reply.Ok a) own does = (sym does.0, does.1)
performed due m new (reply.Refused (refusal.Cause c)) own does = (ap reply_to (sym does.0), does.1 ∙ ap (λ (d : Meaning). next_after d m) (sym does.0))
performed due m new (reply.Refused refusal.Keeper) own does = absurd own
performed due m new (reply.Refused refusal.Memory) own does = absurd own

stepped : (m new : Machine) (caller : List ℕ) (c : Call) (r : Reply) → IsOwn r → IsStep m caller c r new → Stepped m new caller c r
unfolding IsStep reply_of next_of
stepped m new caller c r own step = let is = performed (meaning m caller c) m new r own step in record { reply_is = is.0; new_is = is.1 }

-- an event with the tracker's own reply is entered
entered_own : (entered : List Event) (e : Event) → IsOwn e.reply → IsEntered entered e → entered ≡ e ∷ []
entered_own entered e own (inl is) = is
entered_own entered e own (inr lacks) = absurd (subst IsOwn lacks.1 own)

followed : (ticked : Reply) (entered : List Event) (made : Reply → Event) (r : Reply) (b : Bool) → b ≡ true → Follows b ticked entered made r → IsEntered entered (made r)
followed ticked entered made r true is follows = follows
followed ticked entered made r false is follows = cc

-- ---- an exchange

module _ (m last : Machine) (user : List ℕ) (c : Call) (moment : ℕ) (x : Exchange) (is : IsExchangeOf m last user c moment x) where
  events : x.entered ≡ event is.worker user (call.Tick is.made.moment) is.made.ticked ∷ event is.worker user c x.reply ∷ []
  events =
      is.made.entered_is
      ∙ ap (λ es. es ++ is.made.made) (entered_own is.made.tick (event is.worker user (call.Tick is.made.moment) is.made.ticked) is.own_tick is.made.is_tick)
      ∙ ap (λ es. event is.worker user (call.Tick is.made.moment) is.made.ticked ∷ es)
      (entered_own is.made.made (event is.worker user c x.reply) is.own
      (followed is.made.ticked is.made.made (event is.worker user c) x.reply (lets_through is.made.ticked) is.through is.made.is_made))

  leads : Lead (makes_event IsStep) m (event is.worker user (call.Tick is.made.moment) is.made.ticked ∷ event is.worker user c x.reply ∷ []) last
  leads = subst (λ es. Lead (makes_event IsStep) m es last) events is.leads

  alike : (tick line : List ℕ) → line_of tick ≡ Ok (user, call.Tick is.made.moment) → line_of line ≡ Ok (user, c) → RepliesAlike m last tick line x
  alike tick line ticks asks =
      let ticked = stepped m leads.0 user (call.Tick is.made.moment) is.made.ticked is.own_tick leads.1 in
      let made = stepped leads.0 leads.2.0 user c x.reply is.own leads.2.1 in
      let between : leads.0 ≡ asked_next m (line_of tick) = ticked.new_is ∙ ap (asked_next m) (sym ticks) in
      let told : x.reply ≡ reply_behind m tick line =
      made.reply_is ∙ ap (λ (n : Machine). reply_of n user c) between ∙ ap (asked_reply (asked_next m (line_of tick))) (sym asks) in
      record {
        reply_is = told;
        bytes = λ close. ap (λ r. response (status_of x.reply) (Some (reply_text r)) close None) told;
        tracker = leads.2.2 ∙ made.new_is ∙ ap (λ (n : Machine). next_of n user c) between ∙ ap (asked_next (asked_next m (line_of tick))) (sym asks);
      }

pub doors_reply_alike : DoorsReplyAlike
doors_reply_alike m last user tick line c moment x post asks is ticks =
    alike m last user c moment x is tick line (ticks ∙ ap (λ n. Ok (user, call.Tick n)) (sym is.moment_is)) (sym (posts_ask_as_lines line user x.request post) ∙ asks)
