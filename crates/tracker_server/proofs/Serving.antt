-- The requests of a connection, put one before another.
use Rattle.std.proofs.Common.{◌≡◌, ◌-◌, ℕ, List, [], ◌∷◌, ◌++◌, Bool, true, false, Option, Some, None, inl, inr, refl, ap, sym, ◌∙◌, subst, append_assoc, append-nil}
use Rattle.std.specs.Prelude.{IfSome}
use Rattle.std.specs.Io.KnownBytes.{Appends, Consumes, IsAtEnd}
use Rattle.request_lines.proofs.Known.{Appends-trans}
use Rattle.tracker_http.specs.Requests.{IsRequest, IsCut, IsRefused, TakesNext}
use Rattle.tracker_http.specs.Streams.{Ending, at_end, inside, refuses}
use Rattle.tracker_http.specs.declared.head_fault.HeadFault.{HeadFault}
use Rattle.tracker_http.specs.declared.request.Next.TheVariants as next
use Rattle.tracker_http.specs.declared.request.Request.{Request}
use Rattle.tracker_server.specs.Connections.{Refused, closes, ClosesBy, BeginWith, refusal_response, responses, joined, IsFront, Writes, Serves}
use Rattle.tracker_server.specs.Events.{Lead, Grew}
use Rattle.tracker_server.specs.Exchanges.{AreAnswered, events_of, requests_of, response_to, IsExchanged}
use Rattle.tracker_server.specs.Sending.{IsSent}
use Rattle.tracker_server.specs.Steps.{ServesFirst}
use Rattle.tracker_server.specs.declared.event.Event.{Event}
use Rattle.tracker_server.specs.declared.send.Sent.TheVariants as sent
use Rattle.tracker_server.specs.declared.serve.ConnEnd.{ConnEnd}
use Rattle.tracker_server.specs.declared.serve.ConnEnd.TheVariants as conn

-- ---- events

pub lead_append : {State : Type 0} (steps : State → Event → State → Type 0) (a : State) (xs : List Event) (b : State) (ys : List Event) (c : State)
    → Lead steps a xs b → Lead steps b ys c → Lead steps a (xs ++ ys) c
lead_append steps a [] b ys c one two = subst (λ s. Lead steps s ys c) one two
lead_append steps a (x ∷ xs) b ys c one two = (one.0, one.1, lead_append steps one.0 xs b ys c one.2 two)

grew_append : {Teller State : Type 0} (events : Teller → List Event) (tells : Teller → State → Type 0) (steps : State → Event → State → Type 0)
    (a b c : Teller) (xs ys : List Event) → Grew events tells steps a b xs → Grew events tells steps b c ys → Grew events tells steps a c (xs ++ ys)
grew_append events tells steps a b c xs ys one two = record {
  list = two.list ∙ ap (λ l. l ++ ys) one.list ∙ append_assoc (events a) xs ys;
  leads = λ s told.
      let first = one.leads s told in
      let more = two.leads first.0 first.1 in
      (more.0, more.1, lead_append steps s xs first.0 ys more.0 first.2 more.2);
}

grew_none : {Teller State : Type 0} (events : Teller → List Event) (tells : Teller → State → Type 0) (steps : State → Event → State → Type 0)
    (a : Teller) → Grew events tells steps a a []
grew_none events tells steps a = record { list = sym (append-nil (events a)); leads = λ s told. (s, told, refl) }

grew_one : {Teller State : Type 0} (events : Teller → List Event) (tells : Teller → State → Type 0) (steps : State → Event → State → Type 0)
    (a b : Teller) (xs : List Event) → Grew events tells steps a b xs → Grew events tells steps a b (xs ++ [])
grew_one events tells steps a b xs one = subst (Grew events tells steps a b) (sym (append-nil xs)) one

-- ---- bytes that are read

end_read : (a b : Option (List ℕ)) → Consumes a b [] → IsAtEnd b → IfSome a (λ bytes. BeginWith bytes [] (Some at_end))
end_read None b takes ended = tt
end_read (Some x) None takes ended = absurd takes
end_read (Some x) (Some y) takes ended = takes ∙ ended

cut_read : (a b : Option (List ℕ)) (text : List ℕ) → IsCut text → Consumes a b text → IsAtEnd b → IfSome a (λ bytes. BeginWith bytes [] (Some inside))
cut_read None b text cut takes ended = tt
cut_read (Some x) None text cut takes ended = absurd takes
cut_read (Some x) (Some y) text cut takes ended = subst IsCut (sym (takes ∙ ap (λ l. text ++ l) ended ∙ append-nil text)) cut

refused_read : (a b : Option (List ℕ)) (text : List ℕ) (fault : HeadFault) (is_head : Bool) → IsRefused text fault is_head → Consumes a b text
    → IfSome a (λ bytes. BeginWith bytes [] (Some (refuses fault is_head)))
refused_read None b text fault is_head is takes = tt
refused_read (Some x) None text fault is_head is takes = absurd takes
refused_read (Some x) (Some y) text fault is_head is takes = (text, y, takes, is)

none_read : (a : Option (List ℕ)) → IfSome a (λ bytes. BeginWith bytes [] None)
none_read None = tt
none_read (Some x) = tt

more_read : (a b : Option (List ℕ)) (text : List ℕ) (r : Request) (rs : List Request) (behind : Option Ending) → IsRequest text r → Consumes a b text
    → IfSome b (λ bytes. BeginWith bytes rs behind) → IfSome a (λ bytes. BeginWith bytes (r ∷ rs) behind)
more_read None b text r rs behind is takes rest = tt
more_read (Some x) None text r rs behind is takes rest = absurd takes
more_read (Some x) (Some y) text r rs behind is takes rest = (text, y, takes, is, rest)

-- ---- bytes that are written

appends_none : (a : Option (List ℕ)) → Appends a a []
appends_none None = tt
appends_none (Some x) = sym (append-nil x)

appends_joined : (a b : Option (List ℕ)) (text : List ℕ) → Appends a b text → Appends a b (text ++ [])
appends_joined a b text e = subst (Appends a b) (sym (append-nil text)) e

front_more : (text : List ℕ) (texts : List (List ℕ)) (front : List ℕ) → IsFront texts front → IsFront (text ∷ texts) (text ++ front)
front_more text [] front e = ([], sym (append-nil (text ++ front) ∙ ap (λ l. text ++ l) e ∙ append-nil text))
front_more text (next ∷ texts) front e = (front, refl, e)

writes_more : (end : ConnEnd) (text : List ℕ) (texts : List (List ℕ)) (a b c : Option (List ℕ)) → Appends a b text → Writes end texts b c
    → Writes end (text ∷ texts) a c
writes_more conn.Closed text texts a b c one rest = Appends-trans a b c text (joined texts) one rest
writes_more conn.Cut text texts a b c one rest = Appends-trans a b c text (joined texts) one rest
writes_more (conn.Refused status) text texts a b c one rest = Appends-trans a b c text (joined texts) one rest
writes_more conn.ReadFault text texts a b c one rest = Appends-trans a b c text (joined texts) one rest
writes_more conn.WriteFault text texts a b c one rest =
    (text ++ rest.0, front_more text texts rest.0 rest.1, Appends-trans a b c text rest.0 one rest.2)
writes_more conn.Memory text texts a b c one rest =
    (text ++ rest.0, front_more text texts rest.0 rest.1, Appends-trans a b c text rest.0 one rest.2)

closes_more : (left : ℕ) (r : Request) (rs : List Request) (closed : Bool) → closes left r ≡ false → ClosesBy (left - 1) rs closed
    → ClosesBy left (r ∷ rs) closed
closes_more left r [] closed stays rest = rest ∙ sym stays
closes_more left r (s ∷ rs) closed stays rest = (stays, rest)

-- ---- a connection

-- a request before others
pub serves_more : {Teller State : Type 0} (events : Teller → List Event) (tells : Teller → State → Type 0) (steps : State → Event → State → Type 0)
    (worker other left : ℕ) (a b : Option (List ℕ)) (t u v : Option (List ℕ)) (p q r : Option (List ℕ)) (x y z : Teller) (end : ConnEnd)
    → other ≡ worker
    → ServesFirst events tells steps worker left a b t u p q x y
    → Serves events tells steps other (left - 1) b u v q r y z end
    → Serves events tells steps worker left a t v p r x z end
serves_more events tells steps worker other left a b t u v p q r x y z end same one rest =
    let it = one.exchanged in
    record {
      exchanges = record { request = one.request; entered = it.entered; reply = it.reply } ∷ rest.exchanges;
      last = rest.last;
      closed = rest.closed;
      behind = rest.behind;
      ends = rest.ends;
      closes_by = closes_more left one.request (requests_of rest.exchanges) rest.closed one.stays rest.closes_by;
      read = more_read a b one.bytes one.request (requests_of rest.exchanges) rest.behind one.is_request one.consumes rest.read;
      answered = (q, it.answers, subst (λ w. AreAnswered w q r rest.exchanges) same rest.answered);
      grew = grew_append events tells steps x y z it.entered (events_of rest.exchanges) it.grew rest.grew;
      written = writes_more end (response_to it.reply (closes left one.request)) (responses (left - 1) rest.exchanges rest.last) t u v it.text rest.written;
    }

-- the request whose response closes the connection
pub serves_closed : {Teller State : Type 0} (events : Teller → List Event) (tells : Teller → State → Type 0) (steps : State → Event → State → Type 0)
    (worker left : ℕ) (a b t u p q : Option (List ℕ)) (x y : Teller) (request : Request) (close : Bool)
    → close ≡ closes left request → close ≡ true → TakesNext a b (next.Request request)
    → IsExchanged events tells steps worker p q x y request close (IsSent t u sent.Whole)
    → Serves events tells steps worker left a t u p q x y conn.Closed
serves_closed events tells steps worker left a b t u p q x y request close is closed takes it = record {
  exchanges = record { request = request; entered = it.entered; reply = it.reply } ∷ [];
  last = None;
  closed = true;
  behind = None;
  ends = (refl, inl (refl, refl));
  closes_by = sym closed ∙ is;
  read = more_read a b takes.0 request [] None takes.1 takes.2 (none_read b);
  answered = (q, it.answers, refl);
  grew = grew_one events tells steps x y it.entered it.grew;
  written = appends_joined t u _ (subst (λ c. Appends t u (response_to it.reply c)) is it.text);
}

-- the request whose response can't be written whole
pub serves_failed : {Teller State : Type 0} (events : Teller → List Event) (tells : Teller → State → Type 0) (steps : State → Event → State → Type 0)
    (worker left : ℕ) (a b t u p q : Option (List ℕ)) (x y : Teller) (request : Request) (close : Bool)
    → close ≡ closes left request → TakesNext a b (next.Request request)
    → IsExchanged events tells steps worker p q x y request close (IsSent t u sent.Failed)
    → Serves events tells steps worker left a t u p q x y conn.WriteFault
serves_failed events tells steps worker left a b t u p q x y request close is takes it = record {
  exchanges = record { request = request; entered = it.entered; reply = it.reply } ∷ [];
  last = None;
  closed = closes left request;
  behind = None;
  ends = (refl, tt);
  closes_by = refl;
  read = more_read a b takes.0 request [] None takes.1 takes.2 (none_read b);
  answered = (q, it.answers, refl);
  grew = grew_one events tells steps x y it.entered it.grew;
  written = ((it.text).0, ((it.text).1, ap (λ c. response_to it.reply c) (sym is) ∙ (it.text).2), (it.text).3);
}

pub serves_unmade : {Teller State : Type 0} (events : Teller → List Event) (tells : Teller → State → Type 0) (steps : State → Event → State → Type 0)
    (worker left : ℕ) (a b t u p q : Option (List ℕ)) (x y : Teller) (request : Request) (close : Bool)
    → close ≡ closes left request → TakesNext a b (next.Request request)
    → IsExchanged events tells steps worker p q x y request close (IsSent t u sent.Memory)
    → Serves events tells steps worker left a t u p q x y conn.Memory
serves_unmade events tells steps worker left a b t u p q x y request close is takes it = record {
  exchanges = record { request = request; entered = it.entered; reply = it.reply } ∷ [];
  last = None;
  closed = closes left request;
  behind = None;
  ends = (refl, tt);
  closes_by = refl;
  read = more_read a b takes.0 request [] None takes.1 takes.2 (none_read b);
  answered = (q, it.answers, refl);
  grew = grew_one events tells steps x y it.entered it.grew;
  written = ([], (response_to it.reply (closes left request), refl), it.text);
}

-- ---- no request any more

pub serves_end : {Teller State : Type 0} (events : Teller → List Event) (tells : Teller → State → Type 0) (steps : State → Event → State → Type 0)
    (worker left : ℕ) (a b t p : Option (List ℕ)) (x : Teller) → TakesNext a b next.End
    → Serves events tells steps worker left a t t p p x x conn.Closed
serves_end events tells steps worker left a b t p x takes = record {
  exchanges = [];
  last = None;
  closed = false;
  behind = Some at_end;
  ends = (refl, inr (refl, refl));
  closes_by = refl;
  read = end_read a b takes.0 takes.1;
  answered = refl;
  grew = grew_none events tells steps x;
  written = appends_none t;
}

pub serves_cut : {Teller State : Type 0} (events : Teller → List Event) (tells : Teller → State → Type 0) (steps : State → Event → State → Type 0)
    (worker left : ℕ) (a b t p : Option (List ℕ)) (x : Teller) → TakesNext a b next.Cut
    → Serves events tells steps worker left a t t p p x x conn.Cut
serves_cut events tells steps worker left a b t p x takes = record {
  exchanges = [];
  last = None;
  closed = false;
  behind = Some inside;
  ends = (refl, refl, refl);
  closes_by = refl;
  read = cut_read a b takes.0 takes.1 takes.2 takes.3;
  answered = refl;
  grew = grew_none events tells steps x;
  written = appends_none t;
}

pub serves_fault : {Teller State : Type 0} (events : Teller → List Event) (tells : Teller → State → Type 0) (steps : State → Event → State → Type 0)
    (worker left : ℕ) (a t p : Option (List ℕ)) (x : Teller) → Serves events tells steps worker left a t t p p x x conn.ReadFault
serves_fault events tells steps worker left a t p x = record {
  exchanges = [];
  last = None;
  closed = false;
  behind = None;
  ends = (refl, refl, refl);
  closes_by = refl;
  read = none_read a;
  answered = refl;
  grew = grew_none events tells steps x;
  written = appends_none t;
}

pub serves_nothing : {Teller State : Type 0} (events : Teller → List Event) (tells : Teller → State → Type 0) (steps : State → Event → State → Type 0)
    (worker left : ℕ) (a t p : Option (List ℕ)) (x : Teller) → Serves events tells steps worker left a t t p p x x conn.Memory
serves_nothing events tells steps worker left a t p x = record {
  exchanges = [];
  last = None;
  closed = false;
  behind = None;
  ends = (refl, tt);
  closes_by = refl;
  read = none_read a;
  answered = refl;
  grew = grew_none events tells steps x;
  written = ([], refl, appends_none t);
}

-- ---- a request that is refused

pub serves_refused : {Teller State : Type 0} (events : Teller → List Event) (tells : Teller → State → Type 0) (steps : State → Event → State → Type 0)
    (worker left : ℕ) (a b t u p : Option (List ℕ)) (x : Teller) (text : List ℕ) (fault : HeadFault) (is_head : Bool)
    → IsRefused text fault is_head → Consumes a b text → IsSent t u sent.Whole (refusal_response (record { fault = fault; is_head = is_head }))
    → Serves events tells steps worker left a t u p p x x (conn.Refused fault.status)
serves_refused events tells steps worker left a b t u p x text fault is_head is takes sent = record {
  exchanges = [];
  last = Some (record { fault = fault; is_head = is_head });
  closed = false;
  behind = Some (refuses fault is_head);
  ends = (record { fault = fault; is_head = is_head }, refl, refl, refl, refl);
  closes_by = refl;
  read = refused_read a b text fault is_head is takes;
  answered = refl;
  grew = grew_none events tells steps x;
  written = appends_joined t u _ sent;
}

pub serves_refused_failed : {Teller State : Type 0} (events : Teller → List Event) (tells : Teller → State → Type 0) (steps : State → Event → State → Type 0)
    (worker left : ℕ) (a b t u p : Option (List ℕ)) (x : Teller) (text : List ℕ) (fault : HeadFault) (is_head : Bool)
    → IsRefused text fault is_head → Consumes a b text → IsSent t u sent.Failed (refusal_response (record { fault = fault; is_head = is_head }))
    → Serves events tells steps worker left a t u p p x x conn.WriteFault
serves_refused_failed events tells steps worker left a b t u p x text fault is_head is takes sent = record {
  exchanges = [];
  last = Some (record { fault = fault; is_head = is_head });
  closed = false;
  behind = Some (refuses fault is_head);
  ends = (refl, refl);
  closes_by = refl;
  read = refused_read a b text fault is_head is takes;
  answered = refl;
  grew = grew_none events tells steps x;
  written = (sent.0, (sent.1, sent.2), sent.3);
}

pub serves_refused_unmade : {Teller State : Type 0} (events : Teller → List Event) (tells : Teller → State → Type 0) (steps : State → Event → State → Type 0)
    (worker left : ℕ) (a b t u p : Option (List ℕ)) (x : Teller) (text : List ℕ) (fault : HeadFault) (is_head : Bool)
    → IsRefused text fault is_head → Consumes a b text → IsSent t u sent.Memory (refusal_response (record { fault = fault; is_head = is_head }))
    → Serves events tells steps worker left a t u p p x x conn.Memory
serves_refused_unmade events tells steps worker left a b t u p x text fault is_head is takes sent = record {
  exchanges = [];
  last = Some (record { fault = fault; is_head = is_head });
  closed = false;
  behind = Some (refuses fault is_head);
  ends = (refl, refl);
  closes_by = refl;
  read = refused_read a b text fault is_head is takes;
  answered = refl;
  grew = grew_none events tells steps x;
  written = ([], (refusal_response (record { fault = fault; is_head = is_head }), refl), sent);
}
