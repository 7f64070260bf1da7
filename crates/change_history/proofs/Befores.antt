-- Where the entries of a field stand, as a history grows.
use Rattle.std.proofs.Common.{◌≡◌, ◌==◌, ℕ, zero, suc, ◌+◌, List, [], ◌∷◌, ◌++◌, length, take, map, replicate, Bool, true, false, Option, Some, None, refl, sym, ap, ◌∙◌, subst, arith, append_assoc, append-nil, length-append}
use Rattle.std.specs.Prelude.{slice_get, slice_set, option_map, unwrap_or, if◌then◌else◌}
use Rattle.std.proofs.lemmas.Bool.{eqb-true, ne_eqb}
use Rattle.std.proofs.lemmas.List.{map-append}
use Rattle.field_values.specs.declared.numbers.FieldNo.{FieldNo}
use Rattle.change_history.specs.declared.entry.Entry.{Entry}
use Rattle.change_history.specs.declared.places.Place.{Place}
use Rattle.change_history.specs.declared.places.Bounds.{Bounds}
use Rattle.change_history.specs.Before.{first_from, first_of, last_from, last_of, before_of, befores_from}
use Rattle.change_history.specs.Places.{number, place_in, number_of, set_place, Spots, last_in, last_spot, widened, set_in, set_spot, spots_after, befores_by, AreSpots}
use Rattle.change_history.proofs.Placing.{number_of-set}
use Rattle.change_history.proofs.Cells.{set_read, set_there, set_other, apart}

-- ---- the last entry of a field

last_from-append : (found : Option ℕ) (place : ℕ) (xs : List Entry) (e : Entry) (f : FieldNo) → last_from found place (xs ++ e ∷ []) f ≡ (if e.field.0 == f.0 then Some (place + length xs) else last_from found place xs f)
last_from-append found place [] e f = ap (λ k. if e.field.0 == f.0 then Some k else found) (omega arith)
last_from-append found place (x ∷ xs) e f =
    last_from-append (if x.field.0 == f.0 then Some place else found) (place + 1) xs e f
    ∙ ap (λ k. if e.field.0 == f.0 then Some k else last_from (if x.field.0 == f.0 then Some place else found) (place + 1) xs f) (omega arith)

last_of-more : (es : List Entry) (e : Entry) (f : FieldNo) → last_of (es ++ e ∷ []) f ≡ (if e.field.0 == f.0 then Some (length es) else last_of es f)
last_of-more es e f = last_from-append None 0 es e f ∙ ap (λ k. if e.field.0 == f.0 then Some k else last_of es f) (omega arith)

-- ---- the first one

abbrev first_then : Option ℕ → Option ℕ → Option ℕ
first_then (Some k) o = Some k
first_then None o = o

first_from-append : (place : ℕ) (xs : List Entry) (e : Entry) (f : FieldNo)
    → first_from place (xs ++ e ∷ []) f ≡ first_then (first_from place xs f) (if e.field.0 == f.0 then Some (place + length xs) else None)
first_from-append place [] e f = ap (λ k. if e.field.0 == f.0 then Some k else None) (omega arith)
first_from-append place (x ∷ xs) e f = by_test (x.field.0 == f.0) (first_from-append (place + 1) xs e f) where
  by_test : (b : Bool)
      → first_from (place + 1) (xs ++ e ∷ []) f ≡ first_then (first_from (place + 1) xs f) (if e.field.0 == f.0 then Some (place + 1 + length xs) else None)
      → (if b then Some place else first_from (place + 1) (xs ++ e ∷ []) f)
      ≡ first_then (if b then Some place else first_from (place + 1) xs f) (if e.field.0 == f.0 then Some (place + suc (length xs)) else None)
  by_test true more = refl
  by_test false more = more ∙ ap (λ k. first_then (first_from (place + 1) xs f) (if e.field.0 == f.0 then Some k else None)) (omega arith)

first_of-more : (es : List Entry) (e : Entry) (f : FieldNo) → first_of (es ++ e ∷ []) f ≡ first_then (first_of es f) (if e.field.0 == f.0 then Some (length es) else None)
first_of-more es e f = first_from-append 0 es e f ∙ ap (λ k. first_then (first_of es f) (if e.field.0 == f.0 then Some k else None)) (omega arith)

-- ---- numbers

number_then : (n : ℕ) (es : List Entry) (m : ℕ) (f : FieldNo) (b : Bool) → n ≡ length es + 1 → m ≡ number (last_of es f)
    → (if b then n else m) ≡ number (if b then Some (length es) else last_of es f)
number_then n es m f true is are = is
number_then n es m f false is are = are

pub place_in-number : (o : Option ℕ) → place_in (number o) ≡ o
place_in-number None = refl
place_in-number (Some k) = rw (ne_eqb (k + 1) 0 (omega arith)) (ap (λ j. Some j) (omega arith))

-- ---- what is kept of a field, as one more entry comes

-- what is kept of the field is read, by what stood there
last_set : (s : Spots) (f g : FieldNo) (n : ℕ) (o : Option Bounds) (b : Bool) → slice_get s.bounds f.0 ≡ o → (f.0 == g.0) ≡ b
    → last_spot (set_in o s f n) g ≡ (if b then n else last_spot s g)
last_set s f g n None true none same =
    let lacks : slice_get s.bounds g.0 ≡ None = ap (slice_get s.bounds) (sym (eqb-true f.0 g.0 same)) ∙ none in
    ap (λ o. last_in o (set_place s.others f n) g) lacks ∙ number_of-set s.others f g n ∙ ap (λ b. if b then n else number_of s.others g) same
last_set s f g n None false none other = by_bounds (slice_get s.bounds g.0) where
  by_bounds : (o : Option Bounds) → last_in o (set_place s.others f n) g ≡ last_in o s.others g
  by_bounds None = number_of-set s.others f g n ∙ ap (λ b. if b then n else number_of s.others g) other
  by_bounds (Some b) = refl
last_set s f g n (Some b) true there same =
    ap (λ i. last_in (slice_get (slice_set s.bounds f.0 (widened b n)) i) s.others g) (sym (eqb-true f.0 g.0 same))
    ∙ ap (λ o. last_in o s.others g) (set_there s.bounds f.0 (widened b n) b there)
last_set s f g n (Some b) false there other =
    ap (λ o. last_in o s.others g) (set_other s.bounds f.0 (widened b n) g.0 (apart f.0 g.0 other))

last_spot-set : (s : Spots) (f g : FieldNo) (n : ℕ) → last_spot (set_spot s f n) g ≡ (if f.0 == g.0 then n else last_spot s g)
last_spot-set s f g n = last_set s f g n (slice_get s.bounds f.0) (f.0 == g.0) refl refl

abbrev AreFirst : List Entry → List Bounds → Type 0
AreFirst es bs = (f : FieldNo) (b : Bounds) → slice_get bs f.0 ≡ Some b → b.first ≡ number (first_of es f)

first_none : (o : Option ℕ) → first_then o None ≡ o
first_none None = refl
first_none (Some k) = refl

first_other : (es : List Entry) (e : Entry) (g : FieldNo) → (e.field.0 == g.0) ≡ false → first_of (es ++ e ∷ []) g ≡ first_of es g
first_other es e g other =
    first_of-more es e g ∙ ap (λ b. first_then (first_of es g) (if b then Some (length es) else None)) other ∙ first_none (first_of es g)

widened_first : (b : Bounds) (n m : ℕ) (o : Option ℕ) → n ≡ m + 1 → b.first ≡ number o → (widened b n).first ≡ number (first_then o (Some m))
widened_first b n m None is first = ap (λ (k : ℕ). if k == 0 then n else k) first ∙ is
widened_first b n m (Some k) is first = ap (λ (k : ℕ). if k == 0 then n else k) first ∙ ap (λ (t : Bool). if t then n else k + 1) (ne_eqb (k + 1) 0 (omega arith))

first_here : (n : ℕ) (es : List Entry) (b : Bounds) (e : Entry) (g : FieldNo) → n ≡ length es + 1 → (e.field.0 == g.0) ≡ true
    → b.first ≡ number (first_of es g) → (widened b n).first ≡ number (first_of (es ++ e ∷ []) g)
first_here n es b e g is same first =
    widened_first b n (length es) (first_of es g) is first
    ∙ ap (λ t. number (first_then (first_of es g) (if t then Some (length es) else None))) (sym same)
    ∙ ap number (sym (first_of-more es e g))

first_set : (n : ℕ) (es : List Entry) (s : Spots) (e : Entry) (g : FieldNo) (c : Bounds) (o : Option Bounds) (t : Bool) → n ≡ length es + 1 → AreFirst es s.bounds
    → slice_get s.bounds e.field.0 ≡ o → (e.field.0 == g.0) ≡ t → slice_get (set_in o s e.field n).bounds g.0 ≡ Some c → c.first ≡ number (first_of (es ++ e ∷ []) g)
first_set n es s e g c None true is are none same read =
    let lacks : slice_get s.bounds g.0 ≡ None = ap (slice_get s.bounds) (sym (eqb-true e.field.0 g.0 same)) ∙ none in
    cc
first_set n es s e g c None false is are none other read = are g c read ∙ ap number (sym (first_other es e g other))
first_set n es s e g c (Some b) true is are there same read =
    let which = eqb-true e.field.0 g.0 same in
    let kept : b.first ≡ number (first_of es g) = are g b (ap (slice_get s.bounds) (sym which) ∙ there) in
    let found : c ≡ widened b n =
    set_read s.bounds e.field.0 (widened b n) c (ap (slice_get (slice_set s.bounds e.field.0 (widened b n))) which ∙ read) in
    ap (λ (b : Bounds). b.first) found ∙ first_here n es b e g is same kept
first_set n es s e g c (Some b) false is are there other read =
    are g c (sym (set_other s.bounds e.field.0 (widened b n) g.0 (apart e.field.0 g.0 other)) ∙ read) ∙ ap number (sym (first_other es e g other))

spots-entry : (n : ℕ) (es : List Entry) (s : Spots) (e : Entry) → n ≡ length es + 1 → AreSpots es s → AreSpots (es ++ e ∷ []) (set_spot s e.field n)
spots-entry n es s e is are = record {
  last = λ f. last_spot-set s e.field f n ∙ number_then n es (last_spot s f) f (e.field.0 == f.0) is (are.last f) ∙ ap number (sym (last_of-more es e f));
  first = λ f b read. first_set n es s e f b (slice_get s.bounds e.field.0) (e.field.0 == f.0) is are.first refl refl read;
}

spots-entries : (n : ℕ) (es more : List Entry) (s : Spots) → n ≡ length es + 1 → AreSpots es s → AreSpots (es ++ more) (spots_after s n more)
spots-entries n es [] s is are = subst (λ (l : List Entry). AreSpots l s) (sym (append-nil es)) are
spots-entries n es (e ∷ more) s is are =
    subst (λ (l : List Entry). AreSpots l (spots_after (set_spot s e.field n) (n + 1) more)) (append_assoc es (e ∷ []) more)
    (spots-entries (n + 1) (es ++ e ∷ []) more (set_spot s e.field n) (omega (arith, length-append es (e ∷ []))) (spots-entry n es s e is are))

-- what is kept where there is no entry yet
pub spots-new : (es : List Entry) (s : Spots) → es ≡ [] → ((i : ℕ) (b : Bounds) → slice_get s.bounds i ≡ Some b → (b.first ≡ 0) × (b.last ≡ 0)) → s.others ≡ [] → AreSpots es s
spots-new es s no_entry empty no_place = record {
  last = λ f. no_last f (slice_get s.bounds f.0) refl ∙ ap (λ (l : List Entry). number (last_of l f)) (sym no_entry);
  first = λ f b read. (empty f.0 b read).0 ∙ ap (λ (l : List Entry). number (first_of l f)) (sym no_entry);
} where
  no_last : (f : FieldNo) (o : Option Bounds) → slice_get s.bounds f.0 ≡ o → last_in o s.others f ≡ 0
  no_last f None none = ap (λ (l : List Place). number_of l f) no_place
  no_last f (Some b) there = (empty f.0 b there).1

-- bounds of no entry
pub no_bounds : (n i : ℕ) (b : Bounds) → slice_get (replicate n (record { first = 0; last = 0 })) i ≡ Some b → (b.first ≡ 0) × (b.last ≡ 0)
no_bounds zero i b there = cc
no_bounds (suc n) zero b there = let is : (record { first = 0; last = 0 }) ≡ b = cc in (ap (λ (c : Bounds). c.first) (sym is), ap (λ (c : Bounds). c.last) (sym is))
no_bounds (suc n) (suc i) b there = no_bounds n i b there

-- what is kept after a group's entries
pub spots-add : (n : ℕ) (es more all : List Entry) (s new : Spots) → n ≡ length es + 1 → all ≡ es ++ more → new ≡ spots_after s n more → AreSpots es s → AreSpots all new
spots-add n es more all s new is all_are new_are are =
    subst (λ (l : List Entry). AreSpots l new) (sym all_are) (subst (λ (l : Spots). AreSpots (es ++ more) l) (sym new_are) (spots-entries n es more s is are))

-- and so, for each new entry, the number of the one before it
befores_by-is : (n : ℕ) (es more : List Entry) (s : Spots) → n ≡ length es + 1 → AreSpots es s → befores_by s n more ≡ map number (befores_from es more)
befores_by-is n es [] s is are = refl
befores_by-is n es (e ∷ more) s is are =
    λ i. are.last e.field i ∷ befores_by-is (n + 1) (es ++ e ∷ []) more (set_spot s e.field n) (omega (arith, length-append es (e ∷ []))) (spots-entry n es s e is are) i

-- ---- the notes of all entries

befores_from-append : (es xs ys : List Entry) → befores_from es (xs ++ ys) ≡ befores_from es xs ++ befores_from (es ++ xs) ys
befores_from-append es [] ys = ap (λ l. befores_from l ys) (sym (append-nil es))
befores_from-append es (x ∷ xs) ys =
    ap (λ l. last_of es x.field ∷ l) (befores_from-append (es ++ x ∷ []) xs ys
    ∙ ap (λ l. befores_from (es ++ x ∷ []) xs ++ befores_from l ys) (append_assoc es (x ∷ []) xs))

-- the notes after a group's entries
pub befores-add : (n : ℕ) (es more all : List Entry) (s : Spots) (befores new : List ℕ) → n ≡ length es + 1 → all ≡ es ++ more
    → new ≡ befores ++ befores_by s n more → AreSpots es s → befores ≡ map number (befores_from [] es) → new ≡ map number (befores_from [] all)
befores-add n es more all s befores new is all_are new_are spots are =
    new_are
    ∙ (λ i. are i ++ befores_by-is n es more s is spots i)
    ∙ sym (map-append number (befores_from [] es) (befores_from es more))
    ∙ ap (map number) (sym (befores_from-append [] es more) ∙ ap (befores_from []) (sym all_are))

get-befores : (es xs : List Entry) (k : ℕ) → slice_get (befores_from es xs) k ≡ option_map (λ (e : Entry). last_of (es ++ take k xs) e.field) (slice_get xs k)
get-befores es [] k = refl
get-befores es (x ∷ xs) zero = ap (λ l. Some (last_of l x.field)) (sym (append-nil es))
get-befores es (x ∷ xs) (suc k) =
    get-befores (es ++ x ∷ []) xs k ∙ ap (λ l. option_map (λ (e : Entry). last_of l e.field) (slice_get xs k)) (append_assoc es (x ∷ []) (take k xs))

get-map : (os : List (Option ℕ)) (k : ℕ) → slice_get (map number os) k ≡ option_map number (slice_get os k)
get-map [] k = refl
get-map (o ∷ os) zero = refl
get-map (o ∷ os) (suc k) = get-map os k

noted_is : (es : List Entry) (k : ℕ) (o : Option Entry) → place_in (unwrap_or (option_map number (option_map (λ (e : Entry). last_of (take k es) e.field) o)) 0) ≡ before_of es o k
noted_is es k None = refl
noted_is es k (Some e) = place_in-number (last_of (take k es) e.field)

-- what is noted for an entry
pub noted : (es : List Entry) (befores : List ℕ) (k : ℕ) → befores ≡ map number (befores_from [] es) → place_in (unwrap_or (slice_get befores k) 0) ≡ before_of es (slice_get es k) k
noted es befores k are =
    ap (λ l. place_in (unwrap_or (slice_get l k) 0)) are
    ∙ ap (λ o. place_in (unwrap_or o 0)) (get-map (befores_from [] es) k ∙ ap (option_map number) (get-befores [] es k))
    ∙ noted_is es k (slice_get es k)
