-- Walks over the entries of a field, from the last to the first.
use Rattle.std.proofs.Common.{◌≡◌, ◌==◌, ℕ, zero, suc, ◌+◌, ◌-◌, ◌<◌, ◌≤◌, Bool, true, false, ◌||◌, List, [], ◌∷◌, ◌++◌, length, take, drop, arith, inl, inr, refl, sym, ap, ◌∙◌, subst, Option, Some, None, cond, eqb, length-append}
use Rattle.std.specs.Prelude.{slice_get, option_map}
use Rattle.std.specs.Option.{option_map_or}
use Rattle.std.specs.List.{list_any}
use Rattle.std.proofs.lemmas.Bool.{cases_Bool, ne_eqb, eqb-true}
use Rattle.std.proofs.lemmas.Option.{slice_get_within, slice_get_past, get_or_from_slice_get}
use Rattle.std.proofs.lemmas.List.{take-take, length-take, take-append-drop}
use Rattle.std.proofs.lemmas.List.Elements.{filter_more, filter-append}
use native.Mathlib.Numerals.{unary_clauses}
use Rattle.field_values.specs.declared.numbers.FieldNo.{FieldNo}
use Rattle.change_history.specs.declared.entry.Entry.{Entry}
use Rattle.change_history.specs.History.{History, opening_value}
use Rattle.change_history.specs.Span.{SpanOf, span_of, entries_of, end_of}
use Rattle.jql_meaning.specs.Moments.{some_from}
use Rattle.change_history.specs.Before.{last_from, last_of, before_of}

-- the field's entries up to that place, with the one there
abbrev pub up_to : List Entry → FieldNo → Option ℕ → List Entry
up_to es f None = []
up_to es f (Some k) = entries_of (take (k + 1) es) f

-- an entry of the field stands there
abbrev pub StandsAt : List Entry → FieldNo → Option ℕ → Type 0
StandsAt es f None = Unit {0}
StandsAt es f (Some k) = (e : Entry) × (slice_get es k ≡ Some e) × ((e.field.0 == f.0) ≡ true)

-- one of the first n + 1 spans passes
abbrev pub some_span : (SpanOf → Bool) → History → FieldNo → ℕ → Bool
some_span passes h f n = some_from (λ k. option_map_or passes (span_of h f k) false) (n + 1) 0

-- ---- the last entry of a field

-- none of the entries is of the field, or the one found stands among them and no other behind it
data Found (es : List Entry) (f : FieldNo) (found : Option ℕ) (place : ℕ) (r : Option ℕ) : Type 0 where
  none_there : r ≡ found → entries_of es f ≡ [] → Found es f found place r
  one_there : (j : ℕ) (e : Entry) → r ≡ Some (place + j) → slice_get es j ≡ Some e → (e.field.0 == f.0) ≡ true → entries_of es f ≡ entries_of (take (j + 1) es) f → Found es f found place r

found_here : (e : Entry) (es : List Entry) (f : FieldNo) (found : Option ℕ) (place : ℕ) (r : Option ℕ) → (e.field.0 == f.0) ≡ true → Found es f (Some place) (place + 1) r → Found (e ∷ es) f found place r
found_here e es f found place r is (none_there same none) = one_there 0 e (same ∙ ap Some (omega arith)) refl is (rw (is, none) refl)
found_here e es f found place r is (one_there j x same there of all) =
    one_there (suc j) x (same ∙ ap Some (omega arith)) there of (rw (is, all) (simp unary_clauses (rw is refl)))

found_later : (e : Entry) (es : List Entry) (f : FieldNo) (found : Option ℕ) (place : ℕ) (r : Option ℕ) → (e.field.0 == f.0) ≡ false → Found es f found (place + 1) r → Found (e ∷ es) f found place r
found_later e es f found place r is (none_there same none) = none_there same (rw (is, none) refl)
found_later e es f found place r is (one_there j x same there of all) =
    one_there (suc j) x (same ∙ ap Some (omega arith)) there of (rw (is, all) (simp unary_clauses (rw is refl)))

found_last : (es : List Entry) (f : FieldNo) (found : Option ℕ) (place : ℕ) → Found es f found place (last_from found place es f)
found_last [] f found place = none_there refl refl
found_last (e ∷ es) f found place =
    elim (cases_Bool (e.field.0 == f.0)) [
      | inl is ↦ rw is (found_here e es f found place (last_from (Some place) (place + 1) es f) is (found_last es f (Some place) (place + 1)))
      | inr other ↦ rw other (found_later e es f found place (last_from found (place + 1) es f) other (found_last es f found (place + 1)))
    ]

-- ---- a step of the walk

up_to_found : (es : List Entry) (f : FieldNo) (r : Option ℕ) → Found es f None 0 r → up_to es f r ≡ entries_of es f
up_to_found es f r (none_there same none) = rw same (sym none)
up_to_found es f r (one_there j e same there of all) =
    let is : r ≡ Some j = same ∙ ap Some (omega arith) in rw is (sym all)

get-take : {X : Type 0} (xs : List X) (k j : ℕ) (x : X) → slice_get (take k xs) j ≡ Some x → slice_get xs j ≡ Some x
get-take xs zero j x there = cc
get-take [] (suc k) j x there = there
get-take (y ∷ ys) (suc k) zero x there = there
get-take (y ∷ ys) (suc k) (suc j) x there = get-take ys k j x there

taken_within : {X : Type 0} (xs : List X) (k j : ℕ) (x : X) → slice_get (take k xs) j ≡ Some x → j + 1 ≤ k
taken_within xs k j x there = omega (arith, slice_get_within (take k xs) j x there, length-take k xs)

up_to_earlier : (es : List Entry) (f : FieldNo) (k : ℕ) (r : Option ℕ) → Found (take k es) f None 0 r → up_to es f r ≡ entries_of (take k es) f
up_to_earlier es f k r (none_there same none) = rw same (sym none)
up_to_earlier es f k r (one_there j e same there of all) =
    let is : r ≡ Some j = same ∙ ap Some (omega arith) in
    rw is (sym (all ∙ ap (λ l. entries_of l f) (take-take (j + 1) k es (taken_within es k j e there))))

stands_earlier : (es : List Entry) (f : FieldNo) (k : ℕ) (r : Option ℕ) → Found (take k es) f None 0 r → StandsAt es f r
stands_earlier es f k r (none_there same none) = rw same tt
stands_earlier es f k r (one_there j e same there of all) =
    let is : r ≡ Some j = same ∙ ap Some (omega arith) in rw is (e, get-take es k j e there, of)

stands_found : (es : List Entry) (f : FieldNo) (r : Option ℕ) → Found es f None 0 r → StandsAt es f r
stands_found es f r (none_there same none) = rw same tt
stands_found es f r (one_there j e same there of all) =
    let is : r ≡ Some j = same ∙ ap Some (omega arith) in rw is (e, there, of)

-- at the beginning the walk has all of the field's entries before it
pub walk_at : (es : List Entry) (f : FieldNo) (r : Option ℕ) → r ≡ last_of es f → StandsAt es f r × (up_to es f r ≡ entries_of es f)
walk_at es f r is = rw is (stands_found es f (last_of es f) (found_last es f None 0), up_to_found es f (last_of es f) (found_last es f None 0))

earlier_found : (es : List Entry) (f : FieldNo) (k : ℕ) (r : Option ℕ) → Found (take k es) f None 0 r → option_map_or (λ j. j + 1) r 0 ≤ k
earlier_found es f k r (none_there same none) = rw same (omega arith)
earlier_found es f k r (one_there j e same there of all) =
    let is : r ≡ Some j = same ∙ ap Some (omega arith) in rw is (taken_within es k j e there)

before_is : (es : List Entry) (f : FieldNo) (k : ℕ) (e : Entry) → slice_get es k ≡ Some e → (e.field.0 == f.0) ≡ true → before_of es (slice_get es k) k ≡ last_of (take k es) f
before_is es f k e there of =
    let same : e.field ≡ f = ap (λ (n : ℕ). record { 0 = n }) (eqb-true e.field.0 f.0 of) in
    ap (λ (o : Option Entry). before_of es o k) there ∙ ap (last_of (take k es)) same

-- and after each step, those before the one that it stood at, further in front
pub record Step (es : List Entry) (f : FieldNo) (k : ℕ) (r : Option ℕ) : Type 0 where
  pub stands : StandsAt es f r
  pub left : up_to es f r ≡ entries_of (take k es) f
  pub earlier : option_map_or (λ j. j + 1) r 0 ≤ k

pub walk_on : (es : List Entry) (f : FieldNo) (k : ℕ) (e : Entry) (r : Option ℕ) → slice_get es k ≡ Some e → (e.field.0 == f.0) ≡ true → r ≡ before_of es (slice_get es k) k → Step es f k r
walk_on es f k e r there of is =
    rw (is ∙ before_is es f k e there of) (record {
      stands = stands_earlier es f k (last_of (take k es) f) (found_last (take k es) f None 0);
      left = up_to_earlier es f k (last_of (take k es) f) (found_last (take k es) f None 0);
      earlier = earlier_found es f k (last_of (take k es) f) (found_last (take k es) f None 0);
    })

-- the entry that the walk stands at is the last of those that it has before it
pub up_to_here : (es : List Entry) (f : FieldNo) (k : ℕ) (e : Entry) → slice_get es k ≡ Some e → (e.field.0 == f.0) ≡ true → up_to es f (Some k) ≡ entries_of (take k es) f ++ e ∷ []
up_to_here es f k e there of =
    filter_more (λ (x : Entry). x.field.0 == f.0) es k e (slice_get_within es k e there)
    ∙ ap (λ (x : Entry). entries_of (take k es) f ++ cond (x.field.0 == f.0) (x ∷ []) []) (get_or_from_slice_get es k e e there)
    ∙ ap (λ b. entries_of (take k es) f ++ cond b (e ∷ []) []) of

seam : {X : Type 0} (xs zs : List X) (y : X) → slice_get ((xs ++ y ∷ []) ++ zs) (length xs) ≡ Some y
seam [] zs y = refl
seam (x ∷ xs) zs y = seam xs zs y

entry_there : (es : List Entry) (f : FieldNo) (k : ℕ) (e : Entry) → slice_get es k ≡ Some e → (e.field.0 == f.0) ≡ true → slice_get (entries_of es f) (length (entries_of (take k es) f)) ≡ Some e
entry_there es f k e there of =
    let parts : entries_of es f ≡ (entries_of (take k es) f ++ e ∷ []) ++ entries_of (drop (k + 1) es) f =
    ap (λ l. entries_of l f) (sym (take-append-drop (k + 1) es))
    ∙ filter-append (λ (x : Entry). x.field.0 == f.0) (take (k + 1) es) (drop (k + 1) es)
    ∙ ap (λ l. l ++ entries_of (drop (k + 1) es) f) (up_to_here es f k e there of) in
    ap (λ l. slice_get l (length (entries_of (take k es) f))) parts ∙ seam (entries_of (take k es) f) (entries_of (drop (k + 1) es) f) e

-- ---- changes

list_any-last : {X : Type 0} (p : X → Bool) (xs : List X) (x : X) → list_any p (xs ++ x ∷ []) ≡ (list_any p xs || p x)
list_any-last p [] x = or_false (p x) where
  or_false : (b : Bool) → (b || false) ≡ b
  or_false true = refl
  or_false false = refl
list_any-last p (y ∷ ys) x = by_test (p y) (list_any-last p ys x) where
  by_test : (b : Bool) → list_any p (ys ++ x ∷ []) ≡ (list_any p ys || p x) → (b || list_any p (ys ++ x ∷ [])) ≡ ((b || list_any p ys) || p x)
  by_test true more = refl
  by_test false more = more

or_true : (b : Bool) → (b || true) ≡ true
or_true true = refl
or_true false = refl

or_false : (b : Bool) → (b || false) ≡ b
or_false true = refl
or_false false = refl

pub change_passes : (p : Entry → Bool) (es : List Entry) (f : FieldNo) (k : ℕ) (e : Entry) → slice_get es k ≡ Some e → (e.field.0 == f.0) ≡ true → p e ≡ true → list_any p (up_to es f (Some k)) ≡ true
change_passes p es f k e there of passes =
    ap (list_any p) (up_to_here es f k e there of) ∙ list_any-last p (entries_of (take k es) f) e
    ∙ ap (λ b. list_any p (entries_of (take k es) f) || b) passes ∙ or_true (list_any p (entries_of (take k es) f))

pub change_fails : (p : Entry → Bool) (es : List Entry) (f : FieldNo) (k : ℕ) (e : Entry) → slice_get es k ≡ Some e → (e.field.0 == f.0) ≡ true → p e ≡ false → list_any p (up_to es f (Some k)) ≡ list_any p (entries_of (take k es) f)
change_fails p es f k e there of fails =
    ap (list_any p) (up_to_here es f k e there of) ∙ list_any-last p (entries_of (take k es) f) e
    ∙ ap (λ b. list_any p (entries_of (take k es) f) || b) fails ∙ or_false (list_any p (entries_of (take k es) f))

-- ---- spans

some_from-last : (p : ℕ → Bool) (n low : ℕ) → some_from p (suc n) low ≡ (some_from p n low || p (low + n))
unfolding some_from
some_from-last p zero low = or_false (p low) ∙ ap p (omega arith)
some_from-last p (suc n) low =
    let later : some_from p (suc n) (low + 1) ≡ (some_from p n (low + 1) || p (low + suc n)) =
    some_from-last p n (low + 1) ∙ ap (λ k. some_from p n (low + 1) || p k) (omega arith) in
    ap (λ b. p low || b) later ∙ by_test (p low) (some_from p n (low + 1)) (p (low + suc n)) where
      by_test : (a b c : Bool) → (a || (b || c)) ≡ ((a || b) || c)
      by_test true b c = refl
      by_test false b c = refl

span_later : (h : History) (f : FieldNo) (n : ℕ) (e : Entry) → 0 < n → slice_get (entries_of h.entries f) (n - 1) ≡ Some e →
    span_of h f n ≡ Some (record { begin = e.at; end = end_of h f n; author = e.author; value = e.to })
span_later h f n e some there =
    let not_first : eqb n 0 ≡ false = ne_eqb n 0 (omega arith) in
    rw not_first (rw there refl)

later_is : (p : SpanOf → Bool) (h : History) (f : FieldNo) (n : ℕ) (e : Entry) → 0 < n → slice_get (entries_of h.entries f) (n - 1) ≡ Some e →
    some_span p h f n ≡ (some_span p h f (n - 1) || p (record { begin = e.at; end = end_of h f n; author = e.author; value = e.to }))
later_is p h f n e some there =
    let q : ℕ → Bool = λ k. option_map_or p (span_of h f k) false in
    ap (λ k. some_from q k 0) (omega arith) ∙ some_from-last q n 0
    ∙ (λ i. some_from q (count i) 0 || option_map_or p (span_is i) false) where
      count : n ≡ (n - 1) + 1
      count = omega arith

      span_is : span_of h f (0 + n) ≡ Some (record { begin = e.at; end = end_of h f n; author = e.author; value = e.to })
      span_is = ap (span_of h f) (omega arith) ∙ span_later h f n e some there

count_here : (es : List Entry) (f : FieldNo) (k : ℕ) (e : Entry) → slice_get es k ≡ Some e → (e.field.0 == f.0) ≡ true → length (up_to es f (Some k)) ≡ length (entries_of (take k es) f) + 1
count_here es f k e there of = ap length (up_to_here es f k e there of) ∙ length-append (entries_of (take k es) f) (e ∷ [])

-- the span that begins at the entry where the walk stands
abbrev pub span_at : Entry → Option ℕ → SpanOf
span_at e end = record { begin = e.at; end = end; author = e.author; value = e.to }

span_here : (p : SpanOf → Bool) (h : History) (f : FieldNo) (k : ℕ) (e : Entry) (end : Option ℕ) → slice_get h.entries k ≡ Some e → (e.field.0 == f.0) ≡ true → end ≡ end_of h f (length (up_to h.entries f (Some k))) →
    some_span p h f (length (up_to h.entries f (Some k))) ≡ (some_span p h f (length (entries_of (take k h.entries) f)) || p (span_at e end))
span_here p h f k e end there of is =
    let n = length (up_to h.entries f (Some k)) in
    let m = length (entries_of (take k h.entries) f) in
    let count : n ≡ m + 1 = count_here h.entries f k e there of in
    let before : n - 1 ≡ m = omega arith in
    later_is p h f n e (omega arith) (ap (slice_get (entries_of h.entries f)) before ∙ entry_there h.entries f k e there of)
    ∙ (λ i. some_span p h f (before i) || p (span_at e (sym is i)))

pub span_passes : (p : SpanOf → Bool) (h : History) (f : FieldNo) (k : ℕ) (e : Entry) (end : Option ℕ) → slice_get h.entries k ≡ Some e → (e.field.0 == f.0) ≡ true → end ≡ end_of h f (length (up_to h.entries f (Some k))) →
    p (span_at e end) ≡ true → some_span p h f (length (up_to h.entries f (Some k))) ≡ true
span_passes p h f k e end there of is passes =
    span_here p h f k e end there of is ∙ ap (λ b. some_span p h f (length (entries_of (take k h.entries) f)) || b) passes
    ∙ or_true (some_span p h f (length (entries_of (take k h.entries) f)))

pub span_fails : (p : SpanOf → Bool) (h : History) (f : FieldNo) (k : ℕ) (e : Entry) (end : Option ℕ) → slice_get h.entries k ≡ Some e → (e.field.0 == f.0) ≡ true → end ≡ end_of h f (length (up_to h.entries f (Some k))) →
    p (span_at e end) ≡ false → some_span p h f (length (up_to h.entries f (Some k))) ≡ some_span p h f (length (entries_of (take k h.entries) f))
span_fails p h f k e end there of is fails =
    span_here p h f k e end there of is ∙ ap (λ b. some_span p h f (length (entries_of (take k h.entries) f)) || b) fails
    ∙ or_false (some_span p h f (length (entries_of (take k h.entries) f)))

-- the span before it ends there
pub end_there : (h : History) (f : FieldNo) (k : ℕ) (e : Entry) → slice_get h.entries k ≡ Some e → (e.field.0 == f.0) ≡ true → Some e.at ≡ end_of h f (length (entries_of (take k h.entries) f))
end_there h f k e there of = ap (option_map (λ (x : Entry). x.at)) (sym (entry_there h.entries f k e there of))

-- the last span has no end
pub no_end : (h : History) (f : FieldNo) → None ≡ end_of h f (length (entries_of h.entries f))
no_end h f = ap (option_map (λ (x : Entry). x.at)) (sym (slice_get_past (entries_of h.entries f) (length (entries_of h.entries f)) (omega arith)))

-- of the first span alone
first_alone : (p : SpanOf → Bool) (h : History) (f : FieldNo) → some_span p h f 0 ≡ p (record { begin = h.at; end = end_of h f 0; author = h.author; value = opening_value h.opening f })
unfolding some_from
first_alone p h f = or_false (p (record { begin = h.at; end = end_of h f 0; author = h.author; value = opening_value h.opening f }))

-- the entry where the walk stands is of the field
pub of_field : (es : List Entry) (f : FieldNo) (place : Option ℕ) (k : ℕ) (e : Entry) → place ≡ Some k → StandsAt es f place → slice_get es k ≡ Some e → (e.field.0 == f.0) ≡ true
of_field es f place k e is stands there =
    let here = subst (StandsAt es f) is stands in
    let same : here.0 ≡ e = cc (here.1, there) in
    subst (λ (x : Entry). (x.field.0 == f.0) ≡ true) same here.2

-- where the walk has come to its end, no entry is left
pub none_left : (es : List Entry) (f : FieldNo) (place : Option ℕ) → ((k : ℕ) → place ≡ Some k → ⊥) → up_to es f place ≡ []
none_left es f (Some k) none = absurd (none k refl)
none_left es f None none = refl

-- where the walk has come to its end, the first span alone is left
pub at_the_end : (p : SpanOf → Bool) (h : History) (f : FieldNo) (place end : Option ℕ) → ((k : ℕ) → place ≡ Some k → ⊥) → end ≡ end_of h f (length (up_to h.entries f place)) →
    some_span p h f (length (up_to h.entries f place)) ≡ p (record { begin = h.at; end = end; author = h.author; value = opening_value h.opening f })
at_the_end p h f (Some k) end none is = absurd (none k refl)
at_the_end p h f None end none is =
    first_alone p h f ∙ ap (λ (x : Option ℕ). p (record { begin = h.at; end = x; author = h.author; value = opening_value h.opening f })) (sym is)
