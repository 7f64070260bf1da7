-- An event behind others, and its reply.
use Rattle.std.proofs.Common.{◌≡◌, ◌-◌, ◌+◌, ℕ, List, [], ◌∷◌, ◌++◌, length, Some, true, inl, inr, refl, ap, sym, ◌∙◌, append-nil, arith, length-append}
use Rattle.std.specs.Prelude.{slice_get}
use Rattle.tracker_server.specs.Direct.{reply_in, last_of}
use Rattle.tracker_server.specs.Events.{event, lacks_memory, IsTold}
use Rattle.tracker_calls.specs.declared.call.Call.{Call}
use Rattle.tracker_calls.specs.declared.reply.Reply.{Reply}
use Rattle.tracker_server.specs.declared.event.Event.{Event}

get_behind : (xs : List Event) (e : Event) → slice_get (xs ++ e ∷ []) (length xs) ≡ Some e
get_behind [] e = refl
get_behind (x ∷ xs) e = get_behind xs e

pub last_pushed : (xs : List Event) (e : Event) → last_of (xs ++ e ∷ []) ≡ Some e
last_pushed xs e = ap (λ n. slice_get (xs ++ e ∷ []) n) (omega (arith, length-append xs (e ∷ []))) ∙ get_behind xs e

-- a call was entered with its reply
pub told_entered : {Teller State : Type 0} (events : Teller → List Event) (tells : Teller → State → Type 0)
    (steps : State → Event → State → Type 0) (old new : Teller) (e : Event)
    → events new ≡ events old ++ e ∷ []
    → ((state : State) → tells old state → (next : State) × tells new next × steps state e next)
    → IsTold events tells steps old new e
told_entered events tells steps old new e list made = record {
  entered = e ∷ [];
  is_entered = inl refl;
  grew = record { list = list; leads = λ s told. let one = made s told in (one.0, one.1, (one.0, one.2, refl)) };
}

-- a call wasn't made
pub told_unentered : {Teller State : Type 0} (events : Teller → List Event) (tells : Teller → State → Type 0)
    (steps : State → Event → State → Type 0) (old new : Teller) (e : Event)
    → e.reply ≡ lacks_memory → events new ≡ events old
    → ((state : State) → tells old state → tells new state)
    → IsTold events tells steps old new e
told_unentered events tells steps old new e lacks list same = record {
  entered = [];
  is_entered = inr (refl, lacks);
  grew = record { list = list ∙ sym (append-nil (events old)); leads = λ s told. (s, same s told, refl) };
}

-- the reply of the event that was put last
pub reply_pushed : (xs list : List Event) (e : Event) → list ≡ xs ++ e ∷ [] → e.reply ≡ reply_in true (last_of list)
reply_pushed xs list e pushed = sym (ap (λ l. reply_in true (last_of l)) pushed ∙ ap (reply_in true) (last_pushed xs e))

-- a call was entered with its reply, which is read off the list
pub told_pushed : {Teller State : Type 0} (events : Teller → List Event) (tells : Teller → State → Type 0)
    (steps : State → Event → State → Type 0) (old new : Teller) (worker : ℕ) (caller : List ℕ) (call : Call) (reply : Reply)
    → events new ≡ events old ++ event worker caller call reply ∷ []
    → ((state : State) → tells old state → (next : State) × tells new next × steps state (event worker caller call reply) next)
    → IsTold events tells steps old new (event worker caller call (reply_in true (last_of (events new))))
told_pushed events tells steps old new worker caller call reply list made =
    rw (sym (reply_pushed (events old) (events new) (event worker caller call reply) list))
    (told_entered events tells steps old new (event worker caller call reply) list made)
