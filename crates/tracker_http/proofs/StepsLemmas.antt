-- TakesNext from request to request.
use Rattle.std.proofs.Common.{◌≡◌, ◌≤◌, ◌<◌, ◌+◌, ◌-◌, ℕ, List, [], ◌++◌, length, take, drop, Bool, false, Option, Some, None, refl, ap, sym, ◌∙◌, subst, arith, inl, inr, append_assoc, append-nil, length-drop, length-append, min}
use Rattle.std.proofs.lemmas.List.{take_all, take-take, take-append-le, take-append-drop, length-take-le, length-take}
use Rattle.std.proofs.Math.Seq.{take-add}
use Rattle.std.specs.Io.KnownBytes.{Consumes, prepend_known, IsAtEnd}
use Rattle.httparse.specs.declared.spans.HeaderSpan.{HeaderSpan}
use Rattle.httparse.specs.declared.spans.RequestSpans.{RequestSpans}
use Rattle.request_lines.proofs.Known.{Consumes-trans}
use Rattle.tracker_http.proofs.PlacesLemmas.{head_prefix}
use Rattle.tracker_http.specs.Fields.{body_len}
use Rattle.tracker_http.specs.HeadEnd.{head_len, IsWholeHead}
use Rattle.tracker_http.specs.Held.{Grew}
use Rattle.tracker_http.specs.HeadFaults.{head_of, fault_of, refused}
use Rattle.tracker_http.specs.Requests.{Says, IsRefused, TakesNext}
use Rattle.tracker_http.specs.Spans.{head_at}
use Rattle.tracker_http.specs.Taken.{IsTaken}
use Rattle.tracker_http.specs.declared.verb.Verb.{Verb}
use Rattle.tracker_http.specs.declared.request.Request.{Request}
use Rattle.tracker_http.specs.declared.request.Next.{Next}
use Rattle.tracker_http.specs.declared.request.Next.TheVariants as next

Consumes-held : (held after taken : List ℕ) (left : Option (List ℕ)) → held ≡ taken ++ after → Consumes (prepend_known held left) (prepend_known after left) taken
Consumes-held held after taken None is = tt
Consumes-held held after taken (Some rest) is = ap (λ l. l ++ rest) is ∙ append_assoc taken after rest

-- what was only read on the way changes nothing
pub steps_after : (a b c : Option (List ℕ)) (r : Next) → Consumes a b [] → TakesNext b c r → TakesNext a c r
steps_after a b c (next.Request r) same step = (step.0, step.1, Consumes-trans a b c [] step.0 same step.2)
steps_after a b c next.End same step = (Consumes-trans a b c [] [] same step.0, step.1)
steps_after a b c next.Cut same step = (step.0, step.1, Consumes-trans a b c [] step.0 same step.2, step.3)
steps_after a b c (next.Refused status allow is_head) same step = (step.0, step.1, Consumes-trans a b c [] step.0 same step.2)
steps_after a b c next.ReadFault same step = Consumes-trans a b c [] [] same step
steps_after a b c next.Memory same step = Consumes-trans a b c [] [] same step

-- a head that is refused goes
pub refused_step : (left : Option (List ℕ)) (held after : List ℕ) (len status : ℕ) (allow : Option Verb) (is_head : Bool) → after ≡ drop len held
    → IsRefused (take len held) (refused status allow) is_head → TakesNext (prepend_known held left) (prepend_known after left) (next.Refused status allow is_head)
refused_step left held after len status allow is_head is why =
    (take len held, why, Consumes-held held after (take len held) left (sym (take-append-drop len held) ∙ ap (λ l. take len held ++ l) (sym is)))

-- as many bytes as a head may have hold none
pub most_step : (a left : Option (List ℕ)) (held after : List ℕ) → Consumes a (prepend_known held left) [] → after ≡ drop 8192 held
    → head_len (take 8192 held) ≡ None → 8192 ≤ length held → TakesNext a (prepend_known after left) (next.Refused 431 None false)
most_step a left held after same is none full =
    steps_after a (prepend_known held left) (prepend_known after left) (next.Refused 431 None false) same
    (refused_step left held after 8192 431 None false is (inl (record { refusal_is = refl; is_head_is = refl; len = length-take-le 8192 held full; none = none })))

-- a whole head stands at the front of what is held
pub whole_front : (held : List ℕ) (len : ℕ) → head_len (take 8192 held) ≡ Some len → (len ≤ length held) × IsWholeHead (take len held)
whole_front held len is =
    let found = head_prefix (take 8192 held) len is in
    let size : length (take 8192 held) ≡ min 8192 (length held) = length-take 8192 held in
    let within : len ≤ length held = omega (arith, found.0) in
    let short : len ≤ 8192 = omega (arith, found.0) in
    let same : take len (take 8192 held) ≡ take len held = take-take len 8192 held short in
    let count : length (take len held) ≡ len = length-take-le len held within in
    (within, record { whole = ap head_len (sym same) ∙ found.1 ∙ ap Some (sym count); short = omega arith })

-- fewer bytes than a head may have hold none
pub short_none : (held later : List ℕ) (r : Option ℕ) → later ≡ held → length held < 8192 → r ≡ head_len (take 8192 held) → r ≡ None → head_len later ≡ None
short_none held later r same short is none =
    ap head_len (same ∙ sym (take_all 8192 held (omega arith))) ∙ sym is ∙ none

taken_later : (held later : List ℕ) (len : ℕ) → Grew held later → len ≤ length held → take len held ≡ take len later
taken_later held later len grew within = sym (ap (take len) grew.1 ∙ take-append-le len held grew.0 within)

-- the head stays at the front where more comes
pub taken_still : (held later : List ℕ) (len size : ℕ) (room : List HeaderSpan) (spans : RequestSpans) → Grew held later → len ≤ length held
    → IsTaken (take len held) room spans size → IsTaken (take len later) room spans size
taken_still held later len size room spans grew within taken = subst (λ t. IsTaken t room spans size) (taken_later held later len grew within) taken

ended : (left : Option (List ℕ)) → IsAtEnd left → IsAtEnd (prepend_known [] left)
ended None end = tt
ended (Some x) end = end

-- the input ends inside a body
pub cut_step : (a left : Option (List ℕ)) (held after : List ℕ) (len size : ℕ) (room : List HeaderSpan) (spans : RequestSpans)
    → after ≡ [] → IsTaken (take len held) room spans size → len ≤ length held → Consumes a (prepend_known held left) [] → length held < len + size → IsAtEnd left
    → TakesNext a (prepend_known after left) next.Cut
cut_step a left held after len size room spans empty taken within same less end =
    let read = taken.read in
    let size_is : size ≡ body_len (head_of read.head).fields = taken.size_is ∙ ap (λ h. body_len h.fields) read.same in
    let behind : length (drop len held) ≡ length held - len = length-drop len held in
    let whole : held ≡ held ++ after = sym (append-nil held) ∙ ap (λ l. held ++ l) (sym empty) in (
      held,
      inr (record {
        text = take len held;
        body = drop len held;
        cut = sym (take-append-drop len held);
        whole = taken.whole;
        head = read.head;
        reads = read.reads;
        taken = subst (λ h. fault_of h ≡ None) read.same taken.taken;
        short = omega arith;
      }),
      Consumes-trans a (prepend_known held left) (prepend_known after left) [] held same (Consumes-held held after held left whole),
      subst (λ l. IsAtEnd (prepend_known l left)) (sym empty) (ended left end),
    )

-- a head that isn't refused, and its body
pub request_step : (a left : Option (List ℕ)) (held after : List ℕ) (len size : ℕ) (room : List HeaderSpan) (spans : RequestSpans) (r : Request)
    → after ≡ drop (len + size) held → IsTaken (take len held) room spans size → Consumes a (prepend_known held left) [] → len + size ≤ length held
    → Says (head_at (take len held) room spans) r → r.body ≡ take size (drop len held) → TakesNext a (prepend_known after left) (next.Request r)
request_step a left held after len size room spans r is taken same enough says body =
    let read = taken.read in
    let size_is : size ≡ body_len (head_of read.head).fields = taken.size_is ∙ ap (λ h. body_len h.fields) read.same in
    let behind : length (drop len held) ≡ length held - len = length-drop len held in
    let count : length (take size (drop len held)) ≡ size = length-take-le size (drop len held) (omega arith) in
    let split : take (len + size) held ≡ take len held ++ r.body = take-add len size held ∙ ap (λ l. take len held ++ l) (sym body) in (
      take (len + size) held,
      record {
        text = take len held;
        cut = split;
        whole = taken.whole;
        head = read.head;
        reads = read.reads;
        says = subst (λ h. Says h r) read.same says;
        size = ap length body ∙ count ∙ size_is;
      },
      Consumes-trans a (prepend_known held left) (prepend_known after left) [] (take (len + size) held) same
          (Consumes-held held after (take (len + size) held) left (sym (take-append-drop (len + size) held) ∙ ap (λ l. take (len + size) held ++ l) (sym is))),
    )

pub still_within : (held later : List ℕ) (len : ℕ) → Grew held later → len ≤ length held → len ≤ length later
still_within held later len grew within = omega (arith, ap length grew.1, length-append held grew.0)
