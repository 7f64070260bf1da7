-- Operations that are carried out on places, and taken back.
use Rattle.std.proofs.Common.{◌≡◌, ℕ, ◌==◌, ◌&&◌, Bool, true, false, List, [], ◌∷◌, ◌++◌, Option, Some, None, IsSome, is_some, if◌then◌else◌, refl, sym, ap, subst, ◌∙◌}
use Rattle.std.specs.Option.{option_flatten}
use Rattle.tracker_keeper.specs.declared.row.Row.{Row}
use Rattle.tracker_keeper.specs.declared.row.RowOp.{RowOp}
use Rattle.tracker_keeper.specs.declared.row.RowOp.TheVariants.{Put, Drop}
use Rattle.tracker_keeper.specs.Rows.{Rows, with_body, with_op, with_ops, op_leaving, IsListing}
use Rattle.tracker_keeper.specs.Places.{Places, place_at, content, is_vacant, HasPlaceFor, HavePlaces, IsSet, KeepRows, KeepPlaces, IsCarriedOut, AreCarriedOut, CanTakeBack}
use Rattle.tracker_keeper.proofs.Keys.{same_test, same_key}

abbrev pub AreSame : Rows → Rows → Type 0
AreSame one other = (k n : ℕ) → one k n ≡ other k n

-- ---- operations on the same rows leave the same rows

pub body_same : (kind number : ℕ) (body : Option (List ℕ)) (one other : Rows) → AreSame one other → AreSame (with_body kind number body one) (with_body kind number body other)
body_same kind number body one other same k n = ap (λ left. if (kind == k) && (number == n) then body else left) (same k n)

pub op_same : (op : RowOp) (one other : Rows) → AreSame one other → AreSame (with_op op one) (with_op op other)
op_same (Put row) one other same = body_same row.kind row.no (Some row.body) one other same
op_same (Drop kind number) one other same = body_same kind number None one other same

pub ops_same : (ops : List RowOp) (one other : Rows) → AreSame one other → AreSame (with_ops ops one) (with_ops ops other)
ops_same [] one other same = same
ops_same (op ∷ ops) one other same = ops_same ops (with_op op one) (with_op op other) (op_same op one other same)

pub ops_more : (ops : List RowOp) (op : RowOp) (rows : Rows) → with_ops (ops ++ op ∷ []) rows ≡ with_op op (with_ops ops rows)
ops_more [] op rows = refl
ops_more (o ∷ ops) op rows = ops_more ops op (with_op o rows)

-- rows that are those of the places before a call are afterwards those of the places after it
pub ops_kept : (ops : List RowOp) (rows : Rows) (old new : Places) → AreSame rows (content old) → AreCarriedOut ops old new → AreSame (with_ops ops rows) (content new)
ops_kept ops rows old new kept done k n = ops_same ops rows (content old) kept k n ∙ sym (done k n)

pub rows_kept : (rows : Rows) (old new : Places) → AreSame rows (content old) → KeepRows old new → AreSame rows (content new)
rows_kept rows old new kept same k n = kept k n ∙ sym (same k n)

pub same_listing : (one other : Rows) (list : List Row) → AreSame one other → IsListing other list → IsListing one list
same_listing one other list same h = record { rising = h.rising; same = λ kind number. h.same kind number ∙ sym (same kind number) }

pub kept_more : (first old new : Places) → KeepRows first old → KeepRows old new → KeepRows first new
kept_more first old new kept same k n = same k n ∙ kept k n

pub carried_more : (ops : List RowOp) (op : RowOp) (first old new : Places) → AreCarriedOut ops first old → IsCarriedOut op old new → AreCarriedOut (ops ++ op ∷ []) first new
carried_more ops op first old new done carried k n =
    carried k n ∙ op_same op (content old) (with_ops ops (content first)) done k n ∙ sym (ap (λ (rows : Rows). rows k n) (ops_more ops op (content first)))

pub carried_then : (ops : List RowOp) (first old new : Places) → AreCarriedOut ops first old → KeepRows old new → AreCarriedOut ops first new
carried_then ops first old new done same k n = same k n ∙ done k n

-- ---- one place

flat_by : (place other : Option (Option (List ℕ))) (b : Bool) → option_flatten (if b then place else other) ≡ (if b then option_flatten place else option_flatten other)
flat_by place other true = refl
flat_by place other false = refl

pub body_set : (kind number : ℕ) (body : Option (List ℕ)) (old new : Places) → IsSet kind number (Some body) old new
    → (k n : ℕ) → content new k n ≡ with_body kind number body (content old) k n
body_set kind number body old new set k n = ap option_flatten (set k n) ∙ flat_by (Some body) (place_at old k n) ((kind == k) && (number == n))

-- where there is number row, taking it out changes nothing
no_body_by : (kind number k n : ℕ) (rows : Rows) → rows kind number ≡ None → (b : Bool) → ((kind == k) && (number == n)) ≡ b → (if b then None else rows k n) ≡ rows k n
no_body_by kind number k n rows none true e =
    sym (ap (λ (q : ℕ × ℕ). rows q.0 q.1) (same_key (kind, number) (k, n) (same_test (kind, number) (k, n) ∙ e)) ∙ none)
no_body_by kind number k n rows none false e = refl

pub no_row : (kind number : ℕ) (rows : Rows) → rows kind number ≡ None → AreSame (with_body kind number None rows) rows
no_row kind number rows none k n = no_body_by kind number k n rows none ((kind == k) && (number == n)) refl

pub none_from : (o : Option (Option (List ℕ))) → is_some o ≡ false → option_flatten o ≡ None
none_from None h = refl
none_from (Some o) h = absurd (cc)

vacant_from : (o : Option (Option (List ℕ))) → is_vacant o ≡ true → option_flatten o ≡ None
vacant_from None h = refl
vacant_from (Some None) h = refl
vacant_from (Some (Some body)) h = absurd (cc)

pub no_body : (kind number : ℕ) (places : Places) → is_some (place_at places kind number) ≡ false
    → (k n : ℕ) → content places k n ≡ with_body kind number None (content places) k n
no_body kind number places h k n = sym (no_row kind number (content places) (none_from (place_at places kind number) h) k n)

pub unset_vacant : (kind number : ℕ) (old new : Places) → is_vacant (place_at old kind number) ≡ true → IsSet kind number None old new → KeepRows old new
unset_vacant kind number old new vacant set k n =
    ap option_flatten (set k n) ∙ flat_by None (place_at old k n) ((kind == k) && (number == n))
    ∙ no_row kind number (content old) (vacant_from (place_at old kind number) vacant) k n

some_by : (body : Option (List ℕ)) (other : Option (Option (List ℕ))) (b : Bool) → IsSome other → IsSome (if b then Some body else other)
some_by body other true h = refl
some_by body other false h = h

pub set_stays : (kind number : ℕ) (body : Option (List ℕ)) (old new : Places) → IsSet kind number (Some body) old new → KeepPlaces old new
set_stays kind number body old new set k n h = subst IsSome (sym (set k n)) (some_by body (place_at old k n) ((kind == k) && (number == n)) h)

-- ---- places

pub place_stays : (old new : Places) → KeepPlaces old new → (op : RowOp) → HasPlaceFor old op → HasPlaceFor new op
place_stays old new grows (Put row) h = grows row.kind row.no h
place_stays old new grows (Drop kind number) h = tt

pub places_stay : (old new : Places) → KeepPlaces old new → (ops : List RowOp) → HavePlaces old ops → HavePlaces new ops
places_stay old new grows [] h = tt
places_stay old new grows (op ∷ ops) h = (place_stays old new grows op h.0, places_stay old new grows ops h.1)

-- ---- what takes an operation back

op_is : (kind number : ℕ) (body : Option (List ℕ)) (rows : Rows) (k n : ℕ) → with_op (op_leaving kind number body) rows k n ≡ with_body kind number body rows k n
op_is kind number None rows k n = refl
op_is kind number (Some body) rows k n = refl

back_by : (kind number k n : ℕ) (before body : Option (List ℕ)) (one other : Rows) → before ≡ one kind number → (b : Bool) → ((kind == k) && (number == n)) ≡ b
    → other k n ≡ (if b then body else one k n) → one k n ≡ (if b then before else other k n)
back_by kind number k n before body one other was true e set = ap (λ (q : ℕ × ℕ). one q.0 q.1) (same_key (kind, number) (k, n) (same_test (kind, number) (k, n) ∙ e)) ∙ sym was
back_by kind number k n before body one other was false e set = sym set

-- what was there, put back, gives the rows that were
pub back_rows : (kind number : ℕ) (before body : Option (List ℕ)) (old new : Places) → before ≡ content old kind number
    → ((k n : ℕ) → content new k n ≡ with_body kind number body (content old) k n) → IsCarriedOut (op_leaving kind number before) new old
back_rows kind number before body old new was set k n =
    back_by kind number k n before body (content old) (content new) was ((kind == k) && (number == n)) refl (set k n)
    ∙ sym (op_is kind number before (content new) k n)

some_from : (o : Option (Option (List ℕ))) (body : List ℕ) → option_flatten o ≡ Some body → IsSome o
some_from None body h = absurd (cc)
some_from (Some o) body h = refl

-- where a body was there is a place
pub back_place : (kind number : ℕ) (before : Option (List ℕ)) (old new : Places) → before ≡ content old kind number → KeepPlaces old new → HasPlaceFor new (op_leaving kind number before)
back_place kind number None old new was grows = tt
back_place kind number (Some body) old new was grows = grows kind number (some_from (place_at old kind number) body (sym was))

pub back_more : (backs : List RowOp) (back : RowOp) (first old new : Places) → CanTakeBack backs first old → IsCarriedOut back new old → HasPlaceFor new back → KeepPlaces old new
    → CanTakeBack (back ∷ backs) first new
back_more backs back first old new h carried place grows = record {
  rows = λ k n. h.rows k n ∙ ops_same backs (content old) (with_op back (content new)) carried k n;
  places = (place, places_stay old new grows backs h.places);
}

-- the operations before one that failed and left the rows can still be taken back
pub back_still : (backs : List RowOp) (first old new : Places) → CanTakeBack backs first old → KeepRows old new → KeepPlaces old new → CanTakeBack backs first new
back_still backs first old new h same grows = record {
  rows = λ k n. h.rows k n ∙ ops_same backs (content old) (content new) (λ a b. sym (same a b)) k n;
  places = places_stay old new grows backs h.places;
}

pub taken_back : (backs : List RowOp) (first old mid new : Places) → CanTakeBack backs first old → AreCarriedOut backs old mid → KeepRows mid new → KeepRows first new
taken_back backs first old mid new h done same k n = same k n ∙ done k n ∙ sym (h.rows k n)

-- ---- operations in turn

-- the first operations have been carried out, and the others have their places
pub record HasDone (old new : Places) (done left : List RowOp) : Type 0 where
  pub rows : AreCarriedOut done old new
  pub places : HavePlaces new left

pub done_more : (first old new : Places) (done : List RowOp) (op : RowOp) (left : List RowOp) → HasDone first old done (op ∷ left) → IsCarriedOut op old new → KeepPlaces old new → HasDone first new (done ++ op ∷ []) left
done_more first old new done op left h carried grows = record {
  rows = carried_more done op first old new h.rows carried;
  places = places_stay old new grows left h.places.1;
}
