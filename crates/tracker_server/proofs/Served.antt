-- Calls that were made behind others, and links that are told.
use Rattle.std.proofs.Common.{◌≡◌, ℕ, List, [], ◌∷◌, ◌++◌, Option, Some, None, IsSome, refl, sym, ap, ◌∙◌, subst, append_assoc, append-nil}
use Rattle.tracker_calls.specs.declared.call.Call.{Call}
use Rattle.tracker_calls.specs.declared.reply.Reply.{Reply}
use Rattle.tracker_server.specs.Links.{TakesLink, HasFailed}
use Rattle.tracker_server.specs.declared.links.NextLink.{NextLink}
use Rattle.tracker_server.specs.declared.links.NextLink.TheVariants as link
use Rattle.tracker_server.specs.Served.{makes_event, ServesLink, HasServedLink, ServesLinks, AreOfLinks, LedByLinks, HasMadeCalls}
use Rattle.tracker_server.specs.declared.event.Event.{Event}
use Rattle.tracker_server.proofs.Serving.{lead_append}

-- ---- calls of connections

-- no connection was served
pub made_none : {S T C Maker State : Type 0} (left : S → Option (List ℕ)) (ahead : C → Option (List ℕ)) (tells : Maker → State → Type 0)
    (makes : State → List ℕ → Call → Reply → State → Type 0) (links : Option (List (S × T × C))) (maker : Maker) → HasMadeCalls left ahead tells makes links links maker maker
made_none {S = S} {T = T} {C = C} left ahead tells makes links maker = λ state told. ([], state, told, record { led = refl; linked = none state links })
  where
    none : (state : _) (links : Option (List (S × T × C))) → AreOfLinks left ahead makes links links state [] state
    none state None = tt
    none state (Some all) = ([], all, refl, refl, (refl, refl))

-- one more was served behind others
link_more : {S T C State : Type 0} (left : S → Option (List ℕ)) (ahead : C → Option (List ℕ)) (makes : State → List ℕ → Call → Reply → State → Type 0)
    (old middle new : State) (done : List (S × T × C)) (events more : List Event) (source : S) (sink : T) (clock : C) → ServesLinks left ahead makes old done events middle
    → ServesLink makes (left source) (ahead clock) middle more new → ServesLinks left ahead makes old (done ++ (source, sink, clock) ∷ []) (events ++ more) new
link_more left ahead makes old middle new [] events more source sink clock none link = (
  new,
  more,
  [],
  ap (λ l. l ++ more) none.0 ∙ sym (append-nil more),
  subst (λ s. ServesLink makes (left source) (ahead clock) s more new) none.1 link,
  (refl, refl),
)
link_more left ahead makes old middle new ((first_source, first_sink, first_clock) ∷ done) events more source sink clock (next, first, rest, is, served, others) link = (
  next,
  first,
  rest ++ more,
  ap (λ l. l ++ more) is ∙ append_assoc first rest more,
  served,
  link_more left ahead makes next middle new done rest more source sink clock others link,
)

-- the links that are told, one more of which came
came : {S T C State : Type 0} (left : S → Option (List ℕ)) (ahead : C → Option (List ℕ)) (makes : State → List ℕ → Call → Reply → State → Type 0)
    (old middle new : State) (all done rest : List (S × T × C)) (after : Option (List (S × T × C))) (events more : List Event) (source : S) (sink : T) (clock : C)
    → all ≡ done ++ rest → TakesLink (Some rest) after (link.Link source sink clock) → ServesLinks left ahead makes old done events middle
    → ServesLink makes (left source) (ahead clock) middle more new → AreOfLinks left ahead makes (Some all) after old (events ++ more) new
came left ahead makes old middle new all done rest None events more source sink clock is takes so_far served = absurd takes
came left ahead makes old middle new all done rest (Some later) events more source sink clock is takes so_far served = (
  done ++ (source, sink, clock) ∷ [],
  later,
  is ∙ ap (λ l. done ++ l) takes ∙ sym (append_assoc done ((source, sink, clock) ∷ []) later),
  refl,
  link_more left ahead makes old middle new done events more source sink clock so_far served,
)

linked_more : {S T C State : Type 0} (left : S → Option (List ℕ)) (ahead : C → Option (List ℕ)) (makes : State → List ℕ → Call → Reply → State → Type 0)
    (before mid after : Option (List (S × T × C))) (old middle new : State) (events more : List Event) (source : S) (sink : T) (clock : C)
    → TakesLink mid after (link.Link source sink clock) → AreOfLinks left ahead makes before mid old events middle
    → ServesLink makes (left source) (ahead clock) middle more new → AreOfLinks left ahead makes before after old (events ++ more) new
linked_more left ahead makes None mid after old middle new events more source sink clock takes so_far served = tt
linked_more left ahead makes (Some all) mid after old middle new events more source sink clock takes (done, rest, is, there, so_far) served =
    came left ahead makes old middle new all done rest after events more source sink clock is
    (subst (λ links. TakesLink links after (link.Link source sink clock)) there takes) so_far served

pub made_more : {S T C Maker State : Type 0} (left : S → Option (List ℕ)) (ahead : C → Option (List ℕ)) (tells : Maker → State → Type 0)
    (makes : State → List ℕ → Call → Reply → State → Type 0) (before mid after : Option (List (S × T × C))) (old middle new : Maker) (source : S) (sink : T) (clock : C)
    → HasMadeCalls left ahead tells makes before mid old middle → TakesLink mid after (link.Link source sink clock)
    → HasServedLink tells makes (left source) (ahead clock) middle new → HasMadeCalls left ahead tells makes before after old new
made_more left ahead tells makes before mid after old middle new source sink clock one takes two = λ state told.
    let first = one state told in
    let more = two first.1 first.2 in (
      first.0 ++ more.0,
      more.1,
      more.2,
      record {
        led = lead_append (makes_event makes) state first.0 first.1 more.0 more.1 first.3.led more.3.led;
        linked = linked_more left ahead makes before mid after state first.1 more.1 first.0 more.0 source sink clock takes first.3.linked more.3;
      },
    )

-- ---- links

-- links that are told stay told
pub told_on : {S T C : Type 0} (old new : Option (List (S × T × C))) (next : NextLink S T C) → TakesLink old new next → IsSome old → IsSome new
told_on None new next takes told = cc told
told_on (Some ahead) None next takes told = absurd takes
told_on (Some ahead) (Some later) next takes told = refl

-- and none is left where they end
pub ended_empty : {S T C : Type 0} (old new : Option (List (S × T × C))) (next : NextLink S T C) → next ≡ link.End → TakesLink old new next
    → IsSome old → new ≡ Some []
ended_empty None new next is takes told = cc told
ended_empty (Some ahead) None next is takes told = absurd takes
ended_empty (Some ahead) (Some later) link.End is takes told = rw takes.1 refl
ended_empty (Some ahead) (Some later) (link.Link source sink clock) is takes told = cc is
ended_empty (Some ahead) (Some later) link.Failed is takes told = cc is

pub has_failed : {S T C : Type 0} (next : NextLink S T C) → next ≡ link.Failed → HasFailed next
has_failed link.Failed is = tt
has_failed link.End is = cc is
has_failed (link.Link source sink clock) is = cc is
