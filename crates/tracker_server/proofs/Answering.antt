-- What is answered to a request.
use Rattle.std.proofs.Common.{◌≡◌, ℕ, List, [], Bool, Option, inl, inr, refl, sym, subst, append-nil}
use Rattle.std.specs.Prelude.{Ok, Err}
use Rattle.call_lines.specs.Asked.{Asked, UnlessMemory}
use Rattle.tracker_calls.specs.declared.call.Call.{Call}
use Rattle.tracker_calls.specs.declared.reply.Refusal.{Refusal}
use Rattle.tracker_calls.specs.declared.cause.Cause.{Cause}
use Rattle.tracker_calls.specs.declared.reply.Refusal.TheVariants as refusal
use Rattle.tracker_calls.specs.declared.reply.Reply.{Reply}
use Rattle.tracker_calls.specs.declared.reply.Reply.TheVariants as reply
use Rattle.tracker_http.specs.Calls.{asked_of}
use Rattle.tracker_http.specs.declared.request.Request.{Request}
use Rattle.tracker_server.specs.Exchanges.{IsAnswered, Answers, response_to, IsExchanged, HasMade}
use Rattle.tracker_server.specs.declared.event.Event.{Event}

-- a refusal is answered, and nothing else is done
refused_answer : (worker : ℕ) (ahead : Option (List ℕ)) (asked : Asked) (c : Cause) → Err c ≡ asked
    → IsAnswered worker asked ahead ahead [] (reply.Refused (refusal.Cause c))
refused_answer worker ahead asked c e =
    subst (λ (a : Asked). IsAnswered worker a ahead ahead [] (reply.Refused (refusal.Cause c))) e (refl, refl, refl)

refused_answers : (worker : ℕ) (ahead : Option (List ℕ)) (r : Request) (f : Refusal) → UnlessMemory {T = List ℕ × Call} (Err f) (asked_of r)
    → Answers worker ahead ahead (record { request = r; entered = []; reply = reply.Refused f })
refused_answers worker ahead r (refusal.Cause c) e = inl (refused_answer worker ahead (asked_of r) c e)
refused_answers worker ahead r refusal.Keeper e = absurd e
refused_answers worker ahead r refusal.Memory e = inr (refl, refl, refl)

-- a request whose call can't be read
pub exchanged_refused : {Teller State : Type 0} (events : Teller → List Event) (tells : Teller → State → Type 0) (steps : State → Event → State → Type 0)
    (worker : ℕ) (ahead : Option (List ℕ)) (x : Teller) (r : Request) (close : Bool) (Holds : List ℕ → Type 0) (f : Refusal)
    → UnlessMemory {T = List ℕ × Call} (Err f) (asked_of r) → Holds (response_to (reply.Refused f) close)
    → IsExchanged events tells steps worker ahead ahead x x r close Holds
exchanged_refused events tells steps worker ahead x r close Holds f e text = record {
  entered = [];
  reply = reply.Refused f;
  answers = refused_answers worker ahead r f e;
  grew = record { list = sym (append-nil (events x)); leads = λ s told. (s, told, refl) };
  text = text;
}

-- a request whose call was made
pub exchanged_made : {Teller State : Type 0} (events : Teller → List Event) (tells : Teller → State → Type 0) (steps : State → Event → State → Type 0)
    (worker : ℕ) (ahead later : Option (List ℕ)) (x y : Teller) (r : Request) (close : Bool) (Holds : List ℕ → Type 0)
    (user : List ℕ) (c : Call) (answer told : Reply)
    → Ok (user, c) ≡ asked_of r → HasMade events tells steps worker ahead later x y user c answer → told ≡ answer
    → Holds (response_to told close)
    → IsExchanged events tells steps worker ahead later x y r close Holds
exchanged_made events tells steps worker ahead later x y r close Holds user c answer told e made same text = record {
  entered = made.entered;
  reply = answer;
  answers = inl (subst (λ (a : Asked). IsAnswered worker a ahead later made.entered answer) e made.made);
  grew = made.grew;
  text = subst (λ (t : Reply). Holds (response_to t close)) same text;
}
