-- The status of a refused request is one of a response.
use Rattle.std.proofs.Common.{◌≡◌, ℕ, List, Bool, true, false, Option, Some, None, if◌then◌else◌, inl, inr, refl, ap, ◌∙◌}
use Rattle.std.specs.Str.{bytes_eq}
use Rattle.tracker_http.specs.HeadFaults.{Head, field_fault, verb_fault, fault_after, fault_of, refused}
use Rattle.tracker_http.specs.Requests.{IsRequest, IsRefused}
use Rattle.tracker_http.specs.Response.{IsStatus, verb_name}
use Rattle.tracker_http.specs.Routes.{path_of, path_verb}
use Rattle.tracker_http.specs.declared.head_fault.HeadFault.{HeadFault}
use Rattle.tracker_http.specs.declared.request.Request.{Request}
use Rattle.tracker_http.specs.declared.verb.Verb.{Verb}

is_400 : IsStatus 400
is_400 = refl

is_404 : IsStatus 404
is_404 = refl

is_405 : IsStatus 405
is_405 = refl

is_413 : IsStatus 413
is_413 = refl

is_431 : IsStatus 431
is_431 = refl

is_501 : IsStatus 501
is_501 = refl

some_same : {A : Type 0} (x y : A) → Some x ≡ Some y → x ≡ y
some_same x y e = cc

of_status : (status other : ℕ) → Some status ≡ Some other → IsStatus status → IsStatus other
of_status status other e is = rw (some_same status other e) at is

of_refusal : (fault other : HeadFault) → Some fault ≡ Some other → IsStatus fault.status → IsStatus other.status
of_refusal fault other e is = rw (some_same fault other e) at is

abbrev first_of : Bool → Bool → Bool → Bool → Option ℕ
first_of many bad coded long = if many then Some 431 else (if bad then Some 400 else (if coded then Some 501 else (if long then Some 413 else None)))

-- the status of the first of these reasons
of_first : (many bad coded long : Bool) (status : ℕ) → first_of many bad coded long ≡ Some status → IsStatus status
of_first true bad coded long status e = of_status 431 status e is_431
of_first false true coded long status e = of_status 400 status e is_400
of_first false false true long status e = of_status 501 status e is_501
of_first false false false true status e = of_status 413 status e is_413
of_first false false false false status e = cc

of_verb : (same : Bool) (verb : Verb) (fault : HeadFault) → (if same then None else Some (refused 405 (Some verb))) ≡ Some fault → IsStatus fault.status
of_verb true verb fault e = cc
of_verb false verb fault e = of_refusal (refused 405 (Some verb)) fault e is_405

of_path : (method : List ℕ) (verb : Option Verb) (fault : HeadFault) → verb_fault method verb ≡ Some fault → IsStatus fault.status
of_path method None fault e = of_refusal (refused 404 None) fault e is_404
of_path method (Some verb) fault e = of_verb (bytes_eq method (verb_name verb)) verb fault e

of_after : (status : Option ℕ) (method target : List ℕ) (fault : HeadFault) → ((s : ℕ) → status ≡ Some s → IsStatus s)
    → fault_after status method target ≡ Some fault → IsStatus fault.status
of_after None method target fault first e = of_path method (path_verb (path_of target)) fault e
of_after (Some s) method target fault first e = of_refusal (refused s None) fault e (first s refl)

of_fault : (head : Head) (fault : HeadFault) → fault_of head ≡ Some fault → IsStatus fault.status
unfolding fault_of field_fault
of_fault head fault e = of_after (field_fault head.minor head.fields) head.method head.target fault (λ s. of_first _ _ _ _ s) e

pub refused_status : (bytes : List ℕ) (fault : HeadFault) (is_head : Bool) → IsRefused bytes fault is_head → IsStatus fault.status
refused_status bytes fault is_head (inl r) = rw r.refusal_is is_431
refused_status bytes fault is_head (inr (inl r)) = rw r.refusal_is is_400
refused_status bytes fault is_head (inr (inr r)) = of_fault _ fault r.fault

-- a request that was read has the method of its path
pub request_path : (bytes : List ℕ) (r : Request) → IsRequest bytes r → path_verb (path_of r.target) ≡ Some r.verb
request_path bytes r is = ap (λ t. path_verb (path_of t)) is.says.target ∙ is.says.verb
