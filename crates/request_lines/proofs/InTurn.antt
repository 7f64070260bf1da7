-- Answers that wait: when they are written, and what is known where they are cut.
use Rattle.std.proofs.Common.{◌≡◌, ℕ, ◌+◌, ◌<◌, ◌≤◌, List, [], ◌∷◌, ◌++◌, length, refl, sym, ap, ◌∙◌, subst, append_assoc, append-nil, arith, length-append, Option, Some, Ok, Err, IfSome, inl, inr}
use Rattle.std.specs.Prelude.{◌⊎◌, Result, OnOk, OnErr}
use Rattle.std.specs.Io.KnownBytes.{Appends, Consumes, IsAtEnd, prepend_known}
use Rattle.request_lines.specs.Bytes.{Passes, WritesAll}
use Rattle.request_lines.specs.Lines.{lines, IsLine, IsOneLine, AreShort, AreWithinLimits}
use Rattle.request_lines.specs.Run.{AreAnswered, AreRead, HasAnswered, HasServed, Serves, IsCutShort, IsFinished, IsFrontOfNext, Ends}
use Rattle.request_lines.specs.declared.run.End.{End}
use Rattle.request_lines.specs.declared.run.End.TheVariants.{Done, WriteFault}
use Rattle.request_lines.proofs.Known.{Appends-trans, Consumes-trans, front-more, WritesAll-after}
use Rattle.request_lines.proofs.LinesLemmas.{joined, AreLines, lines-joined, joined-push, AreLines-push, AreShort-lines}
use Rattle.request_lines.proofs.Progress.{AreAnswered-append, Appends-nil, IsSoFar, IsCutShort-then, HasServed-then, HasServed-nil, Consumes-start, Consumes-same, length-push, lines-ended, told, told_at_end}

-- ---- texts that are cut

-- two texts begin alike: the cut is in the first part, or behind it
record CutIn (first rest front back : List ℕ) : Type 0 where
  more : List ℕ
  front_is : first ≡ front ++ more
  back_is : back ≡ more ++ rest

record CutBehind (first rest front back : List ℕ) : Type 0 where
  more : List ℕ
  front_is : front ≡ first ++ more
  back_is : rest ≡ more ++ back

cut_more : (x y : ℕ) (xs rest ys back : List ℕ) → x ≡ y → CutIn xs rest ys back ⊎ CutBehind xs rest ys back → CutIn (x ∷ xs) rest (y ∷ ys) back ⊎ CutBehind (x ∷ xs) rest (y ∷ ys) back
cut_more x y xs rest ys back same (inl cut) = inl (record { more = cut.more; front_is = cc (same, cut.front_is); back_is = cut.back_is })
cut_more x y xs rest ys back same (inr cut) = inr (record { more = cut.more; front_is = cc (same, cut.front_is); back_is = cut.back_is })

cut_at : (first rest front back : List ℕ) → first ++ rest ≡ front ++ back → CutIn first rest front back ⊎ CutBehind first rest front back
cut_at [] rest front back e = inr (record { more = front; front_is = refl; back_is = e })
cut_at (x ∷ xs) rest [] back e = inl (record { more = x ∷ xs; front_is = refl; back_is = sym e })
cut_at (x ∷ xs) rest (y ∷ ys) back e = cut_more x y xs rest ys back (cc e) (cut_at xs rest ys back (cc e))

-- ---- what is written of two texts

pub cut_before : (u v : Option (List ℕ)) (w more : List ℕ) → (front : List ℕ) × (back : List ℕ) × (w ≡ front ++ back) × Appends u v front
    → (front : List ℕ) × (back : List ℕ) × (w ++ more ≡ front ++ back) × Appends u v front
cut_before u v w more (front, back, is, written) = (front, back ++ more, front-more w front back more is, written)

pub all_written : {T E : Type 0} (u v z : Option (List ℕ)) (w more after : List ℕ) (r : Result T E) → Appends u v w → after ≡ [] → WritesAll v z r more → Passes u z (w ++ more) after r
all_written u v z w more after (Ok x) first none next = inr (Appends-trans u v z w more first next, none)
all_written {T} {E} u v z w more after (Err e) first none cut = WritesAll-after {T = T} {E = E} u v z w more (Err e) first cut

-- ---- limits of the first ones

few_first : (xs ys : List (List ℕ)) → AreShort (xs ++ ys) → AreShort xs
few_first [] ys short = tt
few_first (x ∷ xs) ys short = (short.0, few_first xs ys short.1)

pub within_first : (xs ys : List (List ℕ)) → AreWithinLimits (xs ++ ys) → AreWithinLimits xs
within_first xs ys within = record { few = omega (arith, within.few, length-append xs ys); short = few_first xs ys within.short }

-- these bytes wait on, or all are written
abbrev IsPassed : Option (List ℕ) → Option (List ℕ) → List ℕ → List ℕ → Type 0
IsPassed u v w after = ((v ≡ u) × (after ≡ w)) ⊎ (Appends u v w × (after ≡ []))

-- a front of these bytes is written
abbrev IsFront : Option (List ℕ) → Option (List ℕ) → List ℕ → Type 0
IsFront u v w = (front : List ℕ) × (back : List ℕ) × (w ≡ front ++ back) × Appends u v front

module _ {State : Type 0} (Answers : State → List ℕ → List ℕ → State → Type 0) where
  -- ---- lines that were read

  AreRead-append : (m : State) (xs ys : List (List ℕ)) (s t : List ℕ) → AreRead Answers m xs s → AreRead Answers m ys t → AreRead Answers m (xs ++ ys) (s ++ t)
  AreRead-append m [] ys s t empty two = subst (λ l. AreRead Answers m ys (l ++ t)) (sym empty) two
  AreRead-append m (x ∷ xs) ys s t (first, rest, here, text, more) two =
      (first, rest ++ t, here, ap (λ l. l ++ t) text ∙ append_assoc first rest t, AreRead-append m xs ys rest t more two)

  AreRead-one : (m : State) (x : List ℕ) (s : List ℕ) → Answers m x s m → AreRead Answers m (x ∷ []) s
  AreRead-one m x s here = (s, [], here, sym (append-nil s), refl)

  read_answered : (m : State) (xs : List (List ℕ)) (s : List ℕ) → AreRead Answers m xs s → AreAnswered Answers m xs s m
  read_answered m [] s empty = (empty, refl)
  read_answered m (x ∷ xs) s (first, rest, here, text, more) = (m, first, rest, here, text, read_answered m xs rest more)

  -- a part of the next answer is written, or nothing
  abbrev IsPartOfNext : State → List (List ℕ) → List ℕ → Type 0
  IsPartOfNext m rest part =
      (part ≡ []) ⊎ ((line : List ℕ) × (more : List (List ℕ)) × (whole : List ℕ) × (tail : List ℕ) × (rest ≡ line ∷ more) × Answers m line whole m × (whole ≡ part ++ tail))

  -- a text of which only a front is written
  record CutRead (m : State) (all : List (List ℕ)) (front : List ℕ) : Type 0 where
    done : List (List ℕ)
    rest : List (List ℕ)
    all_is : all ≡ done ++ rest
    text : List ℕ
    read : AreRead Answers m done text
    part : List ℕ
    front_is : front ≡ text ++ part
    next : IsPartOfNext m rest part

  cut_first : (m : State) (x : List ℕ) (xs : List (List ℕ)) (first rest front back : List ℕ) → Answers m x first m → CutIn first rest front back → CutRead m (x ∷ xs) front
  cut_first m x xs first rest front back here cut = record {
    done = [];
    rest = x ∷ xs;
    all_is = refl;
    text = [];
    read = refl;
    part = front;
    front_is = refl;
    next = inr (x, xs, first, cut.more, refl, here, cut.front_is);
  }

  cut_later : (m : State) (x : List ℕ) (xs : List (List ℕ)) (first front more : List ℕ) → Answers m x first m → front ≡ first ++ more → CutRead m xs more → CutRead m (x ∷ xs) front
  cut_later m x xs first front more here is later = record {
    done = x ∷ later.done;
    rest = later.rest;
    all_is = ap (λ l. x ∷ l) later.all_is;
    text = first ++ later.text;
    read = (first, later.text, here, refl, later.read);
    part = later.part;
    front_is = is ∙ ap (λ l. first ++ l) later.front_is ∙ sym (append_assoc first later.text later.part);
    next = later.next;
  }

  nil_front : (w front back : List ℕ) → w ≡ [] → w ≡ front ++ back → front ≡ []
  nil_front w [] back none is = refl
  nil_front w (x ∷ xs) back none is = absurd (cc (none, is))

  cut_either : (m : State) (x : List ℕ) (xs : List (List ℕ)) (first rest front back : List ℕ) → Answers m x first m → ((more : List ℕ) → rest ≡ more ++ back → CutRead m xs more)
      → CutIn first rest front back ⊎ CutBehind first rest front back → CutRead m (x ∷ xs) front
  cut_either m x xs first rest front back here later (inl cut) = cut_first m x xs first rest front back here cut
  cut_either m x xs first rest front back here later (inr cut) = cut_later m x xs first front cut.more here cut.front_is (later cut.more cut.back_is)

  cut_read : (m : State) (xs : List (List ℕ)) (w front back : List ℕ) → AreRead Answers m xs w → w ≡ front ++ back → CutRead m xs front
  cut_read m [] w front back empty is = record {
    done = [];
    rest = [];
    all_is = refl;
    text = [];
    read = refl;
    part = [];
    front_is = nil_front w front back empty is;
    next = inl refl;
  }
  cut_read m (x ∷ xs) w front back (first, rest, here, text, more) is =
      cut_either m x xs first rest front back here (λ later e. cut_read m xs rest later back more e) (cut_at first rest front back (sym text ∙ is))

  -- ---- lines that are answered

  pub none_yet : (m : State) (t : Option (List ℕ)) (w : List ℕ) → w ≡ [] → HasAnswered Answers m [] t t w m
  none_yet m t w none = record { first = []; last = []; all_is = refl; served = HasServed-nil Answers m t; read = none }

  -- what waited is written
  pub sent : (old m : State) (all : List (List ℕ)) (t u v : Option (List ℕ)) (w : List ℕ) → HasAnswered Answers old all t u w m → Appends u v w → HasServed Answers old all t v m
  sent old m all t u v w one written = subst (λ l. HasServed Answers old l t v m) (sym one.all_is) (record {
    text = (one.served).text ++ w;
    answered = AreAnswered-append Answers old m m one.first one.last (one.served).text w (one.served).answered (read_answered m one.last w one.read);
    written = Appends-trans t u v (one.served).text w (one.served).written written;
  })

  none_waits : (old m : State) (all : List (List ℕ)) (t u : Option (List ℕ)) (w : List ℕ) → w ≡ [] → HasServed Answers old all t u m → HasAnswered Answers old all t u w m
  none_waits old m all t u w none one = record { first = all; last = []; all_is = sym (append-nil all); served = one; read = none }

  pub passed : (old m : State) (all : List (List ℕ)) (t u v : Option (List ℕ)) (w after : List ℕ)
      → HasAnswered Answers old all t u w m → IsPassed u v w after → HasAnswered Answers old all t v after m
  passed old m all t u v w after one (inl (same, stay)) = subst (λ l. HasAnswered Answers old all t v l m) (sym stay) (subst (λ s. HasAnswered Answers old all t s w m) (sym same) one)
  passed old m all t u v w after one (inr (written, none)) = none_waits old m all t v after none (sent old m all t u v w one written)

  one_read : (old m : State) (all : List (List ℕ)) (line text : List ℕ) (t u : Option (List ℕ)) (w : List ℕ) → HasAnswered Answers old all t u w m → Answers m line text m
      → HasAnswered Answers old (all ++ line ∷ []) t u (w ++ text) m
  one_read old m all line text t u w one here = record {
    first = one.first;
    last = one.last ++ line ∷ [];
    all_is = ap (λ l. l ++ line ∷ []) one.all_is ∙ append_assoc one.first one.last (line ∷ []);
    served = one.served;
    read = AreRead-append m one.last (line ∷ []) w text one.read (AreRead-one m line text here);
  }

  next_more : (m : State) (done cut rest : List (List ℕ)) (part : List ℕ) → AreWithinLimits (done ++ cut) → IsPartOfNext m cut part → IsFrontOfNext Answers m done (cut ++ rest) part m
  next_more m done cut rest part within (inl none) = inl (none, refl)
  next_more m done cut rest part within (inr (line, more, whole, tail, is, here, whole_is)) = inr (
    line,
    more ++ rest,
    whole,
    tail,
    ap (λ l. l ++ rest) is,
    within_first (done ++ line ∷ []) more (subst AreWithinLimits (ap (λ l. done ++ l) is ∙ sym (append_assoc done (line ∷ []) more)) within),
    here,
    whole_is,
  )

  -- the sink failed on what waited
  cut_next : (old m : State) (first last rest all : List (List ℕ)) (t u v : Option (List ℕ)) (front : List ℕ) → all ≡ first ++ last → AreWithinLimits all → HasServed Answers old first t u m → CutRead m last front → Appends u v front
      → IsCutShort Answers old (all ++ rest) t v m
  cut_next old m first last rest all t u v front is within served cut written =
      let done = first ++ cut.done in
      let all_is : all ≡ done ++ cut.rest = is ∙ ap (λ l. first ++ l) cut.all_is ∙ sym (append_assoc first cut.done cut.rest) in
      let within_all : AreWithinLimits (done ++ cut.rest) = subst AreWithinLimits all_is within in
      record {
        done = done;
        rest = cut.rest ++ rest;
        all_is = ap (λ l. l ++ rest) all_is ∙ append_assoc done cut.rest rest;
        within = within_first done cut.rest within_all;
        text = served.text ++ cut.text;
        middle = m;
        answered = AreAnswered-append Answers old m m first cut.done served.text cut.text served.answered (read_answered m cut.done cut.text cut.read);
        front = cut.part;
        next = next_more m done cut.rest rest cut.part within_all cut.next;
        written = subst (λ l. Appends t v l) (ap (λ l. served.text ++ l) cut.front_is ∙ sym (append_assoc served.text cut.text cut.part)) (Appends-trans t u v served.text front served.written written);
      }

  pub cut_waiting : (old m : State) (all rest : List (List ℕ)) (t u v : Option (List ℕ)) (w front back : List ℕ) → HasAnswered Answers old all t u w m → AreWithinLimits all → w ≡ front ++ back → Appends u v front
      → IsCutShort Answers old (all ++ rest) t v m
  cut_waiting old m all rest t u v w front back one within is written =
      cut_next old m one.first one.last rest all t u v front one.all_is within one.served (cut_read m one.last w front back one.read is) written

  -- ---- one more line

  -- it was read
  pub read_ok : (old m : State) (all : List (List ℕ)) (line text : List ℕ) (t u v : Option (List ℕ)) (w after : List ℕ)
      → HasAnswered Answers old all t u w m → Answers m line text m → IsPassed u v (w ++ text) after → HasAnswered Answers old (all ++ line ∷ []) t v after m
  read_ok old m all line text t u v w after one here passes = passed old m (all ++ line ∷ []) t u v (w ++ text) after (one_read old m all line text t u w one here) passes

  more_rest : (all rest : List (List ℕ)) (line : List ℕ) → all ++ line ∷ rest ≡ (all ++ line ∷ []) ++ rest
  more_rest all rest line = sym (append_assoc all (line ∷ []) rest)

  pub read_cut : (old m : State) (all rest : List (List ℕ)) (line text : List ℕ) (t u v : Option (List ℕ)) (w : List ℕ)
      → HasAnswered Answers old all t u w m → AreWithinLimits (all ++ line ∷ []) → Answers m line text m → IsFront u v (w ++ text) → IsCutShort Answers old (all ++ line ∷ rest) t v m
  read_cut old m all rest line text t u v w one within here (front, back, is, written) =
      subst (λ l. IsCutShort Answers old l t v m) (sym (more_rest all rest line))
      (cut_waiting old m (all ++ line ∷ []) rest t u v (w ++ text) front back (one_read old m all line text t u w one here) within is written)

  -- it asked for a change, which was made
  change_ok : {T E : Type 0} (old m new : State) (all : List (List ℕ)) (line : List ℕ) (t u v z : Option (List ℕ)) (w after : List ℕ) (x : T)
      → HasAnswered Answers old all t u w m → Appends u v w → after ≡ [] → Serves {T = T} {E = E} Answers m line v z (Ok x) new → HasAnswered Answers old (all ++ line ∷ []) t z after new
  change_ok old m new all line t u v z w after x one written none serves =
      none_waits old new (all ++ line ∷ []) t z after none (HasServed-then Answers old m new all line t v z x (sent old m all t u v w one written) serves)

  pub made_ok : {T E : Type 0} (old m new : State) (all : List (List ℕ)) (line : List ℕ) (t u v z : Option (List ℕ)) (w after : List ℕ) (r : Result T E)
      → HasAnswered Answers old all t u w m → Appends u v w → after ≡ [] → Serves {T = T} {E = E} Answers m line v z r new → OnOk r (HasAnswered Answers old (all ++ line ∷ []) t z after new)
  made_ok old m new all line t u v z w after (Ok x) one written none serves = change_ok old m new all line t u v z w after x one written none serves
  made_ok old m new all line t u v z w after (Err e) one written none serves = tt

  change_cut : {T E : Type 0} (old m new : State) (all rest : List (List ℕ)) (line : List ℕ) (t u v z : Option (List ℕ)) (w : List ℕ) (e : E)
      → HasAnswered Answers old all t u w m → AreWithinLimits (all ++ line ∷ []) → Appends u v w → Serves {T = T} {E = E} Answers m line v z (Err e) new → IsCutShort Answers old (all ++ line ∷ rest) t z new
  change_cut old m new all rest line t u v z w e one within written serves =
      IsCutShort-then Answers old m new all rest (all ++ line ∷ rest) line t v z e refl (within_first all (line ∷ []) within) within (sent old m all t u v w one written) serves

  pub made_cut : {T E : Type 0} (old m new : State) (all rest : List (List ℕ)) (line : List ℕ) (t u v z : Option (List ℕ)) (w : List ℕ) (r : Result T E)
      → HasAnswered Answers old all t u w m → AreWithinLimits (all ++ line ∷ []) → Appends u v w → Serves {T = T} {E = E} Answers m line v z r new → OnErr r (IsCutShort Answers old (all ++ line ∷ rest) t z new)
  made_cut old m new all rest line t u v z w (Ok x) one within written serves = tt
  made_cut old m new all rest line t u v z w (Err e) one within written serves = change_cut old m new all rest line t u v z w e one within written serves

  -- the sink failed before it was answered, or there was no memory for its answer
  pub before_cut : (old m : State) (all rest : List (List ℕ)) (line : List ℕ) (t u v : Option (List ℕ)) (w : List ℕ)
      → HasAnswered Answers old all t u w m → AreWithinLimits (all ++ line ∷ []) → IsFront u v w → IsCutShort Answers old (all ++ line ∷ rest) t v m
  before_cut old m all rest line t u v w one within (front, back, is, written) =
      cut_waiting old m all (line ∷ rest) t u v w front back one (within_first all (line ∷ []) within) is written

  pub no_memory : (old m : State) (all rest : List (List ℕ)) (line : List ℕ) (t u v : Option (List ℕ)) (w : List ℕ)
      → HasAnswered Answers old all t u w m → AreWithinLimits (all ++ line ∷ []) → Appends u v w → IsCutShort Answers old (all ++ line ∷ rest) t v m
  no_memory old m all rest line t u v w one within written =
      cut_waiting old m all (line ∷ rest) t u v w w [] one (within_first all (line ∷ []) within) (sym (append-nil w)) written

  -- ---- the loop

  -- what was read and answered when n lines are done
  pub record IsReadSoFar (old : State) (left ahead taken_old taken_new : Option (List ℕ)) (waiting : List ℕ) (n : ℕ) (new : State) : Type 0 where
    pub done : List (List ℕ)
    pub are : AreLines done
    pub count : length done ≡ n
    pub read : Consumes left ahead (joined done)
    pub answered : HasAnswered Answers old done taken_old taken_new waiting new

  pub begun : (m : State) (left t : Option (List ℕ)) (w : List ℕ) → w ≡ [] → IsReadSoFar m left (prepend_known [] left) t t w 0 m
  begun m left t w none = record { done = []; are = tt; count = refl; read = Consumes-start left; answered = none_yet m t w none }

  pub all_sent : (old m : State) (left a t u v : Option (List ℕ)) (w : List ℕ) (n : ℕ) → IsReadSoFar old left a t u w n m → Appends u v w → IsSoFar Answers old left a t v n m
  all_sent old m left a t u v w n so_far written =
      record { done = so_far.done; are = so_far.are; count = so_far.count; read = so_far.read; served = sent old m so_far.done t u v w so_far.answered written }

  pub still : (old m : State) (left a t u v : Option (List ℕ)) (w after : List ℕ) (n : ℕ) → IsReadSoFar old left a t u w n m → IsPassed u v w after
      → IsReadSoFar old left a t v after n m
  still old m left a t u v w after n so_far passes =
      record { done = so_far.done; are = so_far.are; count = so_far.count; read = so_far.read; answered = passed old m so_far.done t u v w after so_far.answered passes }

  pub one_more : (old m new : State) (left a b t u v : Option (List ℕ)) (w after : List ℕ) (n : ℕ) (line : List ℕ)
      → (so_far : IsReadSoFar old left a t u w n m) → IsLine line → Consumes a b (line ++ 10 ∷ []) → HasAnswered Answers old (so_far.done ++ line ∷ []) t v after new
      → IsReadSoFar old left b t v after (n + 1) new
  one_more old m new left a b t u v w after n line so_far is_line read answered = record {
    done = so_far.done ++ line ∷ [];
    are = AreLines-push so_far.done line so_far.are is_line;
    count = length-push so_far.done line ∙ ap (λ k. k + 1) so_far.count;
    read = subst (λ bytes. Consumes left b bytes) (sym (joined-push so_far.done line)) (Consumes-trans left a b (joined so_far.done) (line ++ 10 ∷ []) so_far.read read);
    answered = answered;
  }

  -- ---- its ends

  short_so_far : (old m : State) (left a t u : Option (List ℕ)) (w : List ℕ) (n : ℕ) (so_far : IsReadSoFar old left a t u w n m) → n ≤ 1000000 → AreWithinLimits so_far.done
  short_so_far old m left a t u w n so_far few = record { few = omega (arith, so_far.count); short = AreShort-lines so_far.done so_far.are }

  pub within_more : (old m : State) (left a t u : Option (List ℕ)) (w : List ℕ) (n : ℕ) (line : List ℕ) (so_far : IsReadSoFar old left a t u w n m) → n < 1000000 → IsLine line → AreWithinLimits (so_far.done ++ line ∷ [])
  within_more old m left a t u w n line so_far few is_line = record {
    few = omega (arith, so_far.count, length-push so_far.done line);
    short = AreShort-lines (so_far.done ++ line ∷ []) (AreLines-push so_far.done line so_far.are is_line);
  }

  -- the sink failed on what waited
  pub cut_front : (old m : State) (left a b t u v : Option (List ℕ)) (h part w front back : List ℕ) (n : ℕ)
      → IsReadSoFar old left a t u w n m → n ≤ 1000000 → Consumes a (prepend_known h b) part → w ≡ front ++ back → Appends u v front
      → IfSome left (λ bytes. IsCutShort Answers old (lines bytes) t v m)
  cut_front old m left a b t u v h part w front back n so_far few read is written =
      let done = so_far.done in
      let whole = Consumes-trans left a (prepend_known h b) (joined done) part so_far.read read in
      told left b h (joined done ++ part) (λ bytes b. IsCutShort Answers old (lines bytes) t v m) whole (λ bytes rest bytes_is.
      let more = lines (part ++ (h ++ rest)) in
      let all : lines bytes ≡ done ++ more = ap lines (bytes_is ∙ append_assoc (joined done) part (h ++ rest)) ∙ lines-joined done (part ++ (h ++ rest)) so_far.are in
      subst (λ l. IsCutShort Answers old l t v m) (sym all) (cut_waiting old m done more t u v w front back so_far.answered (short_so_far old m left a t u w n so_far few) is written))

  -- that failed while a line was at hand, or nothing was read
  pub cut_here : (old m : State) (left b t u v : Option (List ℕ)) (h w : List ℕ) (n : ℕ)
      → IsReadSoFar old left (prepend_known h b) t u w n m → n ≤ 1000000 → IsFront u v w
      → IfSome left (λ bytes. IsCutShort Answers old (lines bytes) t v m)
  cut_here old m left b t u v h w n so_far few (front, back, is, written) = cut_front old m left (prepend_known h b) b t u v h [] w front back n so_far few (Consumes-same (prepend_known h b)) is written

  -- as it was to end, or the sink failed
  pub finished : (old m : State) (left a b t u v : Option (List ℕ)) (h part w : List ℕ) (n : ℕ) (end result : End)
      → IsReadSoFar old left a t u w n m → n ≤ 1000000 → Consumes a (prepend_known h b) part → IsFinished u v w end result
      → (IsSoFar Answers old left a t v n m → IfSome left (λ bytes. Ends Answers old bytes b t v end m))
      → IfSome left (λ bytes. Ends Answers old bytes b t v result m)
  finished old m left a b t u v h part w n end result so_far few read (inl (same, written)) ends =
      subst (λ e. IfSome left (λ bytes. Ends Answers old bytes b t v e m)) (sym same) (ends (all_sent old m left a t u v w n so_far written))
  finished old m left a b t u v h part w n end result so_far few read (inr (same, front, back, is, written)) ends =
      subst (λ e. IfSome left (λ bytes. Ends Answers old bytes b t v e m)) (sym same) (cut_front old m left a b t u v h part w front back n so_far few read is written)

  -- a line was cut
  pub cut_line_at : (old m new : State) (left a b t u v : Option (List ℕ)) (h line w : List ℕ) (n : ℕ)
      → (so_far : IsReadSoFar old left a t u w n m) → IsLine line → Consumes a (prepend_known h b) (line ++ 10 ∷ [])
      → ((rest : List (List ℕ)) → IsCutShort Answers old (so_far.done ++ line ∷ rest) t v new)
      → IfSome left (λ bytes. IsCutShort Answers old (lines bytes) t v new)
  cut_line_at old m new left a b t u v h line w n so_far is_line read cut =
      let done = so_far.done in
      let next = done ++ line ∷ [] in
      let whole = subst (λ bytes. Consumes left (prepend_known h b) bytes) (sym (joined-push done line)) (Consumes-trans left a (prepend_known h b) (joined done) (line ++ 10 ∷ []) so_far.read read) in
      told left b h (joined next) (λ bytes b. IsCutShort Answers old (lines bytes) t v new) whole (λ bytes rest is.
      let all : lines bytes ≡ done ++ line ∷ lines (h ++ rest) =
      ap lines is ∙ lines-joined next (h ++ rest) (AreLines-push done line so_far.are is_line) ∙ append_assoc done (line ∷ []) (lines (h ++ rest)) in
      subst (λ l. IsCutShort Answers old l t v new) (sym all) (cut (lines (h ++ rest))))

  pub cut_last_at : (old m new : State) (left a b t u v : Option (List ℕ)) (h line w : List ℕ) (n : ℕ)
      → (so_far : IsReadSoFar old left a t u w n m) → IsLine line → Consumes a (prepend_known h b) line → 0 < length line → IsAtEnd (prepend_known h b)
      → ((rest : List (List ℕ)) → IsCutShort Answers old (so_far.done ++ line ∷ rest) t v new)
      → IfSome left (λ bytes. IsCutShort Answers old (lines bytes) t v new)
  cut_last_at old m new left a b t u v h line w n so_far is_line read some end cut =
      let done = so_far.done in
      let whole = Consumes-trans left a (prepend_known h b) (joined done) line so_far.read read in
      told_at_end left b h (joined done ++ line) (λ bytes b. IsCutShort Answers old (lines bytes) t v new) whole end (λ bytes is.
      subst (λ l. IsCutShort Answers old l t v new) (sym (ap lines is ∙ lines-ended done line so_far.are is_line.one some)) (cut []))

  -- the last line was answered
  last_ends : (old new : State) (bytes : List ℕ) (done : List (List ℕ)) (t v z : Option (List ℕ)) (w : List ℕ) (result : End)
      → lines bytes ≡ done → AreWithinLimits done → HasAnswered Answers old done t v w new → IsFinished v z w Done result
      → Ends Answers old bytes (Some []) t z result new
  last_ends old new bytes done t v z w result all within answered (inl (same, written)) = subst (λ e. Ends Answers old bytes (Some []) t z e new) (sym same) (
    refl,
    subst AreWithinLimits (sym all) within,
    subst (λ l. HasServed Answers old l t z new) (sym all) (sent old new done t v z w answered written),
  )
  last_ends old new bytes done t v z w result all within answered (inr (same, front, back, cut, written)) =
      subst (λ e. Ends Answers old bytes (Some []) t z e new) (sym same)
      (subst (λ l. IsCutShort Answers old l t z new) (append-nil done ∙ sym all) (cut_waiting old new done [] t v z w front back answered within cut written))

  pub last_finished : (old m new : State) (left a b t u v z : Option (List ℕ)) (h line w after : List ℕ) (n : ℕ) (result : End)
      → (so_far : IsReadSoFar old left a t u w n m) → n < 1000000 → IsLine line → Consumes a (prepend_known h b) line → 0 < length line → IsAtEnd (prepend_known h b)
      → HasAnswered Answers old (so_far.done ++ line ∷ []) t v after new → IsFinished v z after Done result
      → IfSome left (λ bytes. Ends Answers old bytes b t z result new)
  last_finished old m new left a b t u v z h line w after n result so_far few is_line read some end answered finish =
      let done = so_far.done in
      let whole = Consumes-trans left a (prepend_known h b) (joined done) line so_far.read read in
      told_at_end left b h (joined done ++ line) (λ bytes b. Ends Answers old bytes b t z result new) whole end (λ bytes is.
      last_ends old new bytes (done ++ line ∷ []) t v z after result (ap lines is ∙ lines-ended done line so_far.are is_line.one some)
      (within_more old m left a t u w n line so_far few is_line) answered finish)
