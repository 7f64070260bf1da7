-- A run over lines, step by step, and how it ends.
use Rattle.std.proofs.Common.{◌≡◌, ℕ, ◌+◌, ◌<◌, ◌≤◌, List, [], ◌∷◌, ◌++◌, length, refl, sym, ap, ◌∙◌, subst, append_assoc, append-nil, arith, length-append, Option, Some, None, Ok, Err, IfSome, Bool, true, false, inl, inr}
use Rattle.std.specs.Prelude.{if◌then◌else◌, ◌==◌}
use Rattle.std.specs.Io.KnownBytes.{Appends, Consumes, IsAtEnd, prepend_known}
use Rattle.request_lines.specs.Lines.{lines, onto, whole_lines, IsOneLine, IsLine, AreWithinLimits}
use Rattle.request_lines.specs.Run.{AreAnswered, HasServed, Serves, IsCutShort, Ends}
use Rattle.request_lines.specs.declared.run.End.TheVariants.{Done, ReadFault, Memory, LongLine, ManyLines}
use Rattle.request_lines.proofs.Known.{Appends-trans, Consumes-trans}
use Rattle.request_lines.proofs.LinesLemmas.{joined, AreLines, lines-last, lines-joined, whole_lines-joined, lines-long, AreShort-lines, joined-push, AreLines-push}

pub Appends-nil : (a : Option (List ℕ)) → Appends a a []
Appends-nil None = tt
Appends-nil (Some x) = sym (append-nil x)

pub Consumes-start : (a : Option (List ℕ)) → Consumes a (prepend_known [] a) []
Consumes-start None = tt
Consumes-start (Some x) = refl

pub Consumes-same : (a : Option (List ℕ)) → Consumes a a []
Consumes-same None = tt
Consumes-same (Some x) = refl

pub length-push : (xs : List (List ℕ)) (x : List ℕ) → length (xs ++ x ∷ []) ≡ length xs + 1
length-push xs x = omega (arith, length-append xs (x ∷ []))

-- ---- where the known bytes are

pub told : (left b : Option (List ℕ)) (h bs : List ℕ) (P : List ℕ → Option (List ℕ) → Type 0) → Consumes left (prepend_known h b) bs
    → ((bytes rest : List ℕ) → bytes ≡ bs ++ (h ++ rest) → P bytes (Some rest)) → IfSome left (λ bytes. P bytes b)
told None b h bs P read next = tt
told (Some bytes) None h bs P read next = absurd read
told (Some bytes) (Some rest) h bs P read next = next bytes rest read

at_end : (h rest : List ℕ) → h ++ rest ≡ [] → rest ≡ []
at_end [] rest e = e
at_end (x ∷ xs) rest e = cc

pub told_at_end : (left b : Option (List ℕ)) (h bs : List ℕ) (P : List ℕ → Option (List ℕ) → Type 0) → Consumes left (prepend_known h b) bs → IsAtEnd (prepend_known h b)
    → ((bytes : List ℕ) → bytes ≡ bs → P bytes (Some [])) → IfSome left (λ bytes. P bytes b)
told_at_end None b h bs P read end next = tt
told_at_end (Some bytes) None h bs P read end next = absurd read
told_at_end (Some bytes) (Some rest) h bs P read end next =
    let whole : bytes ≡ bs = read ∙ ap (λ l. bs ++ l) end ∙ append-nil bs in
    subst (λ r. P bytes (Some r)) (sym (at_end h rest end)) (next bytes whole)

lines-done : (done : List (List ℕ)) → AreLines done → lines (joined done) ≡ done
lines-done done are = ap lines (sym (append-nil (joined done))) ∙ lines-joined done [] are ∙ append-nil done

pub lines-ended : (done : List (List ℕ)) (line : List ℕ) → AreLines done → IsOneLine line → 0 < length line → lines (joined done ++ line) ≡ done ++ line ∷ []
lines-ended done line are one some = lines-joined done line are ∙ ap (λ l. done ++ l) (lines-last line one some)

some_either : (b : Bool) (byte : ℕ) (all : List (List ℕ)) → 0 < length (if b then [] ∷ all else onto byte all)
some_either true byte all = omega arith
some_either false byte [] = omega arith
some_either false byte (line ∷ more) = omega arith

lines_some : (byte : ℕ) (rest : List ℕ) → 0 < length (lines (byte ∷ rest))
lines_some byte rest = some_either (byte == 10) byte (lines rest)

-- where bytes are held, a line follows
lines_held : (h rest : List ℕ) → 0 < length h → 0 < length (lines (h ++ rest))
lines_held [] rest some = absurd (omega arith)
lines_held (byte ∷ h) rest some = lines_some byte (h ++ rest)

module _ {State : Type 0} (Answers : State → List ℕ → List ℕ → State → Type 0) where
  -- ---- lines that were answered

  pub AreAnswered-append : (a b c : State) (xs ys : List (List ℕ)) (s t : List ℕ) → AreAnswered Answers a xs s b → AreAnswered Answers b ys t c → AreAnswered Answers a (xs ++ ys) (s ++ t) c
  AreAnswered-append a b c [] ys s t (empty, same) two =
      subst (λ l. AreAnswered Answers a ys (l ++ t) c) (sym empty) (subst (λ m. AreAnswered Answers m ys t c) same two)
  AreAnswered-append a b c (x ∷ xs) ys s t (next, first, rest, here, text, more) two =
      (next, first, rest ++ t, here, ap (λ l. l ++ t) text ∙ append_assoc first rest t, AreAnswered-append next b c xs ys rest t more two)

  pub AreAnswered-one : (a b : State) (x : List ℕ) (s : List ℕ) → Answers a x s b → AreAnswered Answers a (x ∷ []) s b
  AreAnswered-one a b x s here = (b, s, [], here, sym (append-nil s), (refl, refl))

  pub HasServed-nil : (m : State) (t : Option (List ℕ)) → HasServed Answers m [] t t m
  HasServed-nil m t = record { text = []; answered = (refl, refl); written = Appends-nil t }

  pub HasServed-then : {T E : Type 0} (a b c : State) (xs : List (List ℕ)) (y : List ℕ) (t u v : Option (List ℕ)) (x : T)
      → HasServed Answers a xs t u b → Serves {T = T} {E = E} Answers b y u v (Ok x) c → HasServed Answers a (xs ++ y ∷ []) t v c
  HasServed-then a b c xs y t u v x one two = record {
    text = one.text ++ two.text;
    answered = AreAnswered-append a b c xs (y ∷ []) one.text two.text one.answered (AreAnswered-one b c y two.text two.answered);
    written = Appends-trans t u v one.text two.text one.written two.written;
  }

  pub IsCutShort-then : {T E : Type 0} (a b c : State) (xs more all : List (List ℕ)) (y : List ℕ) (t u v : Option (List ℕ)) (e : E)
      → all ≡ xs ++ y ∷ more → AreWithinLimits xs → AreWithinLimits (xs ++ y ∷ []) → HasServed Answers a xs t u b → Serves {T = T} {E = E} Answers b y u v (Err e) c → IsCutShort Answers a all t v c
  IsCutShort-then a b c xs more all y t u v e is within also one two =
      let cut = two.written in
      record {
        done = xs;
        rest = y ∷ more;
        all_is = is;
        within = within;
        text = one.text;
        middle = b;
        answered = one.answered;
        front = cut.0;
        next = inr (y, more, two.text, cut.1, refl, also, two.answered, cut.2);
        written = Appends-trans t u v one.text cut.0 one.written cut.3;
      }

  IsCutShort-after : (a b : State) (xs rest all : List (List ℕ)) (t u : Option (List ℕ)) → all ≡ xs ++ rest → AreWithinLimits xs → HasServed Answers a xs t u b → IsCutShort Answers a all t u b
  IsCutShort-after a b xs rest all t u is within one = record {
    done = xs;
    rest = rest;
    all_is = is;
    within = within;
    text = one.text;
    middle = b;
    answered = one.answered;
    front = [];
    next = inl (refl, refl);
    written = subst (λ l. Appends t u l) (sym (append-nil one.text)) one.written;
  }

  -- ---- the loop

  -- what was read and answered when n lines are done
  pub record IsSoFar (old : State) (left ahead taken_old taken_new : Option (List ℕ)) (n : ℕ) (new : State) : Type 0 where
    pub done : List (List ℕ)
    pub are : AreLines done
    pub count : length done ≡ n
    pub read : Consumes left ahead (joined done)
    pub served : HasServed Answers old done taken_old taken_new new

  pub started : (m : State) (left t : Option (List ℕ)) → IsSoFar m left (prepend_known [] left) t t 0 m
  started m left t = record { done = []; are = tt; count = refl; read = Consumes-start left; served = HasServed-nil m t }

  pub goes_on : {T E : Type 0} (old m new : State) (left a b t u v : Option (List ℕ)) (n : ℕ) (line : List ℕ) (x : T)
      → IsSoFar old left a t u n m → IsLine line → Consumes a b (line ++ 10 ∷ []) → Serves {T = T} {E = E} Answers m line u v (Ok x) new → IsSoFar old left b t v (n + 1) new
  goes_on old m new left a b t u v n line x so_far is_line read serves = record {
    done = so_far.done ++ line ∷ [];
    are = AreLines-push so_far.done line so_far.are is_line;
    count = length-push so_far.done line ∙ ap (λ k. k + 1) so_far.count;
    read = subst (λ bytes. Consumes left b bytes) (sym (joined-push so_far.done line)) (Consumes-trans left a b (joined so_far.done) (line ++ 10 ∷ []) so_far.read read);
    served = HasServed-then old m new so_far.done line t u v x so_far.served serves;
  }

  -- ---- its ends

  -- the lines that are done are within the limits
  within_so_far : (old m : State) (left a t u : Option (List ℕ)) (n : ℕ) (so_far : IsSoFar old left a t u n m) → n ≤ 1000000 → AreWithinLimits so_far.done
  within_so_far old m left a t u n so_far few = record { few = omega (arith, so_far.count); short = AreShort-lines so_far.done so_far.are }

  -- so they are with one more, where there is a turn left
  within_next : (old m : State) (left a t u : Option (List ℕ)) (n : ℕ) (line : List ℕ) (so_far : IsSoFar old left a t u n m) → n < 1000000 → IsLine line
      → AreWithinLimits (so_far.done ++ line ∷ [])
  within_next old m left a t u n line so_far few is_line = record {
    few = omega (arith, so_far.count, length-push so_far.done line);
    short = AreShort-lines (so_far.done ++ line ∷ []) (AreLines-push so_far.done line so_far.are is_line);
  }

  -- nothing was read yet
  pub ends_at_once : (m : State) (left b t : Option (List ℕ)) → IfSome left (λ bytes. Ends Answers m bytes b t t Memory m)
  ends_at_once m None b t = tt
  ends_at_once m (Some bytes) b t = IsCutShort-after m m [] (lines bytes) (lines bytes) t t refl (record { few = omega arith; short = tt }) (HasServed-nil m t)

  pub ends_done : (old new : State) (left a b t u : Option (List ℕ)) (h : List ℕ) (n : ℕ)
      → IsSoFar old left a t u n new → n ≤ 1000000 → Consumes a (prepend_known h b) [] → IsAtEnd (prepend_known h b)
      → IfSome left (λ bytes. Ends Answers old bytes b t u Done new)
  ends_done old new left a b t u h n so_far few read end =
      let done = so_far.done in
      let whole = Consumes-trans left a (prepend_known h b) (joined done) [] so_far.read read in
      told_at_end left b h (joined done ++ []) (λ bytes b. Ends Answers old bytes b t u Done new) whole end (λ bytes is.
      let all : lines bytes ≡ done = ap lines (is ∙ append-nil (joined done)) ∙ lines-done done so_far.are in (
        refl,
        subst AreWithinLimits (sym all) (within_so_far old new left a t u n so_far few),
        subst (λ l. HasServed Answers old l t u new) (sym all) so_far.served,
      ))

  pub ends_last : {T E : Type 0} (old m new : State) (left a b t u v : Option (List ℕ)) (h line : List ℕ) (n : ℕ) (x : T)
      → IsSoFar old left a t u n m → n < 1000000 → IsLine line → Consumes a (prepend_known h b) line → 0 < length line → IsAtEnd (prepend_known h b)
      → Serves {T = T} {E = E} Answers m line u v (Ok x) new
      → IfSome left (λ bytes. Ends Answers old bytes b t v Done new)
  ends_last old m new left a b t u v h line n x so_far few is_line read some end serves =
      let done = so_far.done in
      let whole = Consumes-trans left a (prepend_known h b) (joined done) line so_far.read read in
      told_at_end left b h (joined done ++ line) (λ bytes b. Ends Answers old bytes b t v Done new) whole end (λ bytes is.
      let all : lines bytes ≡ done ++ line ∷ [] = ap lines is ∙ lines-ended done line so_far.are is_line.one some in (
        refl,
        subst AreWithinLimits (sym all) (within_next old m left a t u n line so_far few is_line),
        subst (λ l. HasServed Answers old l t v new) (sym all) (HasServed-then old m new done line t u v x so_far.served serves),
      ))

  pub cut_last : {T E : Type 0} (old m new : State) (left a b t u v : Option (List ℕ)) (h line : List ℕ) (n : ℕ) (e : E)
      → IsSoFar old left a t u n m → n < 1000000 → IsLine line → Consumes a (prepend_known h b) line → 0 < length line → IsAtEnd (prepend_known h b)
      → Serves {T = T} {E = E} Answers m line u v (Err e) new
      → IfSome left (λ bytes. IsCutShort Answers old (lines bytes) t v new)
  cut_last old m new left a b t u v h line n e so_far few is_line read some end serves =
      let done = so_far.done in
      let whole = Consumes-trans left a (prepend_known h b) (joined done) line so_far.read read in
      told_at_end left b h (joined done ++ line) (λ bytes b. IsCutShort Answers old (lines bytes) t v new) whole end (λ bytes is.
      IsCutShort-then old m new done [] (lines bytes) line t u v e (ap lines is ∙ lines-ended done line so_far.are is_line.one some)
      (within_so_far old m left a t u n so_far (omega (arith, few))) (within_next old m left a t u n line so_far few is_line) so_far.served serves)

  pub cut_line : {T E : Type 0} (old m new : State) (left a b t u v : Option (List ℕ)) (h line : List ℕ) (n : ℕ) (e : E)
      → IsSoFar old left a t u n m → n < 1000000 → IsLine line → Consumes a (prepend_known h b) (line ++ 10 ∷ [])
      → Serves {T = T} {E = E} Answers m line u v (Err e) new
      → IfSome left (λ bytes. IsCutShort Answers old (lines bytes) t v new)
  cut_line old m new left a b t u v h line n e so_far few is_line read serves =
      let done = so_far.done in
      let next = done ++ line ∷ [] in
      let whole = subst (λ bytes. Consumes left (prepend_known h b) bytes) (sym (joined-push done line)) (Consumes-trans left a (prepend_known h b) (joined done) (line ++ 10 ∷ []) so_far.read read) in
      told left b h (joined next) (λ bytes b. IsCutShort Answers old (lines bytes) t v new) whole (λ bytes rest is.
      let all : lines bytes ≡ done ++ line ∷ lines (h ++ rest) =
      ap lines is ∙ lines-joined next (h ++ rest) (AreLines-push done line so_far.are is_line) ∙ append_assoc done (line ∷ []) (lines (h ++ rest)) in
      IsCutShort-then old m new done (lines (h ++ rest)) (lines bytes) line t u v e all
      (within_so_far old m left a t u n so_far (omega (arith, few))) (within_next old m left a t u n line so_far few is_line) so_far.served serves)

  pub ends_memory : (old new : State) (left a b t u : Option (List ℕ)) (h front : List ℕ) (n : ℕ)
      → IsSoFar old left a t u n new → n ≤ 1000000 → Consumes a (prepend_known h b) front
      → IfSome left (λ bytes. Ends Answers old bytes b t u Memory new)
  ends_memory old new left a b t u h front n so_far few read =
      let done = so_far.done in
      let whole = Consumes-trans left a (prepend_known h b) (joined done) front so_far.read read in
      told left b h (joined done ++ front) (λ bytes b. Ends Answers old bytes b t u Memory new) whole (λ bytes rest is.
      let all : lines bytes ≡ done ++ lines (front ++ (h ++ rest)) = ap lines (is ∙ append_assoc (joined done) front (h ++ rest)) ∙ lines-joined done (front ++ (h ++ rest)) so_far.are in
      IsCutShort-after old new done (lines (front ++ (h ++ rest))) (lines bytes) t u all (within_so_far old new left a t u n so_far few) so_far.served)

  -- the lines that are done are within the limits where nothing was read behind them
  pub within_none : (old m : State) (left a t u : Option (List ℕ)) (n : ℕ) (so_far : IsSoFar old left a t u n m) → n ≤ 1000000 → AreWithinLimits (so_far.done ++ [])
  within_none old m left a t u n so_far few = subst AreWithinLimits (sym (append-nil so_far.done)) (within_so_far old m left a t u n so_far few)

  -- so they are with a part of one more, where there is a turn left
  pub within_part : (old m : State) (left a t u : Option (List ℕ)) (n : ℕ) (front : List ℕ) (so_far : IsSoFar old left a t u n m) → n < 1000000 → IsLine front
      → AreWithinLimits (so_far.done ++ lines front)
  within_part old m left a t u n [] so_far few is_line = within_none old m left a t u n so_far (omega (arith, few))
  within_part old m left a t u n (x ∷ xs) so_far few is_line =
      subst (λ l. AreWithinLimits (so_far.done ++ l)) (sym (lines-last (x ∷ xs) is_line.one (omega arith))) (within_next old m left a t u n (x ∷ xs) so_far few is_line)

  pub ends_read_fault : (old new : State) (left a b t u : Option (List ℕ)) (h front : List ℕ) (n : ℕ)
      → (so_far : IsSoFar old left a t u n new) → AreWithinLimits (so_far.done ++ lines front) → h ≡ [] → IsOneLine front → Consumes a (prepend_known h b) front
      → IfSome left (λ bytes. Ends Answers old bytes b t u ReadFault new)
  ends_read_fault old new left a b t u h front n so_far within empty one read =
      let done = so_far.done in
      let whole = Consumes-trans left a (prepend_known h b) (joined done) front so_far.read read in
      told left b h (joined done ++ front) (λ bytes b. Ends Answers old bytes b t u ReadFault new) whole (λ bytes rest is.
      let all : whole_lines (joined done ++ front) ≡ done = whole_lines-joined done front so_far.are one in (
        joined done ++ front,
        is ∙ ap (λ l. (joined done ++ front) ++ (l ++ rest)) empty,
        subst AreWithinLimits (sym (lines-joined done front so_far.are)) within,
        subst (λ l. HasServed Answers old l t u new) (sym all) so_far.served,
      ))

  pub ends_long : (old new : State) (left a b t u : Option (List ℕ)) (h front : List ℕ) (n : ℕ)
      → IsSoFar old left a t u n new → n < 1000000 → IsOneLine front → 65536 < length front → Consumes a (prepend_known h b) front
      → IfSome left (λ bytes. Ends Answers old bytes b t u LongLine new)
  ends_long old new left a b t u h front n so_far few one long read =
      let done = so_far.done in
      let whole = Consumes-trans left a (prepend_known h b) (joined done) front so_far.read read in
      told left b h (joined done ++ front) (λ bytes b. Ends Answers old bytes b t u LongLine new) whole (λ bytes rest is.
      let begins = lines-long front (h ++ rest) one (omega arith) in
      let all : lines bytes ≡ done ++ lines (front ++ (h ++ rest)) = ap lines (is ∙ append_assoc (joined done) front (h ++ rest)) ∙ lines-joined done (front ++ (h ++ rest)) so_far.are in
      (done, record { long = begins.first; rest = begins.rest; all_is = all ∙ ap (λ l. done ++ l) begins.is; is_long = omega (arith, begins.long); few = omega (arith, so_far.count); short = AreShort-lines done so_far.are }, so_far.served))

  pub ends_many : (old new : State) (left a b t u : Option (List ℕ)) (h : List ℕ) (n : ℕ)
      → IsSoFar old left a t u n new → n ≡ 1000000 → 0 < length h → Consumes a (prepend_known h b) []
      → IfSome left (λ bytes. Ends Answers old bytes b t u ManyLines new)
  ends_many old new left a b t u h n so_far many some read =
      let done = so_far.done in
      let whole = Consumes-trans left a (prepend_known h b) (joined done) [] so_far.read read in
      told left b h (joined done ++ []) (λ bytes b. Ends Answers old bytes b t u ManyLines new) whole (λ bytes rest is.
      let all : lines bytes ≡ done ++ lines (h ++ rest) = ap lines (is ∙ append_assoc (joined done) [] (h ++ rest)) ∙ lines-joined done (h ++ rest) so_far.are in
      (done, record { rest = lines (h ++ rest); all_is = all; more = lines_held h rest some; many = so_far.count ∙ many; short = AreShort-lines done so_far.are }, so_far.served))
