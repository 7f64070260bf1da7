-- What a head has that isn't refused.
use Rattle.std.proofs.Common.{◌≡◌, ◌≤◌, ℕ, List, Bool, true, false, ◌||◌, Option, Some, None, min, if◌then◌else◌, refl, arith}
use Rattle.std.proofs.lemmas.Bool.{ltb-false}
use Rattle.tracker_http.specs.Fields.{content_length, value_named, body_len}
use Rattle.tracker_http.specs.HeadFaults.{Head, is_unreadable, field_fault, verb_fault, fault_after, fault_of}
use Rattle.tracker_http.specs.Routes.{path_of, path_verb}
use Rattle.tracker_http.specs.Taken.{IsTaken}
use Rattle.tracker_http.specs.declared.verb.Verb.{Verb}
use Rattle.httparse.specs.declared.spans.HeaderSpan.{HeaderSpan}
use Rattle.httparse.specs.declared.spans.RequestSpans.{RequestSpans}

abbrev first_of : Bool → Bool → Bool → Bool → Option ℕ
first_of many bad coded long = if many then Some 431 else (if bad then Some 400 else (if coded then Some 501 else (if long then Some 413 else None)))

none_of : (many bad coded long : Bool) → first_of many bad coded long ≡ None → (bad ≡ false) × (long ≡ false)
none_of true bad coded long e = cc
none_of false true coded long e = cc
none_of false false true long e = cc
none_of false false false true e = cc
none_of false false false false e = (refl, refl)

last_false : (others last : Bool) → (others || last) ≡ false → last ≡ false
last_false true last e = cc
last_false false last e = e

both_none : (status : Option ℕ) (method target : List ℕ) → fault_after status method target ≡ None → (status ≡ None) × (verb_fault method (path_verb (path_of target)) ≡ None)
both_none None method target e = (refl, e)
both_none (Some status) method target e = cc

verb_some : (method : List ℕ) (verb : Option Verb) → verb_fault method verb ≡ None → verb ≡ None → ⊥
verb_some method None e none = cc
verb_some method (Some verb) e none = cc

-- its fields
pub taken_fields : (head : Head) → fault_of head ≡ None → (is_unreadable (value_named content_length head.fields) ≡ false) × (body_len head.fields ≤ 65536)
unfolding fault_of field_fault
taken_fields head e =
    let tests = none_of _ _ _ _ (both_none (field_fault head.minor head.fields) head.method head.target e).0 in
    (last_false _ _ tests.0, ltb-false 65536 (body_len head.fields) tests.1)

-- its path
pub taken_path : (head : Head) → fault_of head ≡ None → path_verb (path_of head.target) ≡ None → ⊥
unfolding fault_of
taken_path head e = verb_some head.method (path_verb (path_of head.target)) (both_none (field_fault head.minor head.fields) head.method head.target e).1

pub taken_size : (bytes : List ℕ) (room : List HeaderSpan) (spans : RequestSpans) (size : ℕ) → IsTaken bytes room spans size → size ≤ 65536
taken_size bytes room spans size t = rw t.size_is (taken_fields _ t.taken).1

pub short_size : (n size : ℕ) → n ≤ 65536 → size ≡ min n 65537 → size ≡ n
short_size n size short is = omega arith
