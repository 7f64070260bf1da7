-- The first reason to refuse a request, by its head.
use Rattle.std.specs.Prelude.{ℕ, ◌==◌, List, length, map, codes, Bool, false, not, ◌&&◌, ◌||◌, nat_lt, Option, Some, None, if◌then◌else◌}
use Rattle.std.specs.Str.{bytes_eq}
use Rattle.httparse.specs.Grammar.{RequestHead}
use Rattle.httparse.specs.Spans.{name_and_value}
use Rattle.tracker_http.specs.Fields.{Fields, host, x_user, content_length, transfer_encoding, count_named, value_named, body_len}
use Rattle.tracker_http.specs.Numbers.{is_number}
use Rattle.tracker_http.specs.Response.{verb_name}
use Rattle.tracker_http.specs.Routes.{path_of, path_verb}
use Rattle.tracker_http.specs.declared.verb.Verb.{Verb}
use Rattle.tracker_http.specs.declared.head_fault.HeadFault.{HeadFault}

-- what a head says
pub record Head : Type 0 where
  pub method : List ℕ
  pub target : List ℕ
  pub minor : ℕ
  pub fields : Fields

-- what a head of the grammar says
abbrev pub head_of : RequestHead → Head
head_of h =
    record {
      method = h.method;
      target = h.target;
      minor = h.minor;
      fields = map name_and_value h.fields;
    }

-- a request of HTTP/1.1 has exactly one Host
abbrev pub lacks_host : ℕ → Fields → Bool
lacks_host minor fields = minor == 1 && not (count_named host fields == 1)

abbrev pub is_unreadable : Option (List ℕ) → Bool
is_unreadable None = false
is_unreadable (Some value) = not (is_number value)

-- no field that may stand once stands twice, and a length can be read
abbrev pub has_bad_fields : ℕ → Fields → Bool
has_bad_fields minor fields =
    lacks_host minor fields || nat_lt 1 (count_named x_user fields)
    || nat_lt 1 (count_named content_length fields)
    || is_unreadable (value_named content_length fields)

-- the status by which the fields are refused, in this order
unfoldable pub field_fault : ℕ → Fields → Option ℕ
field_fault minor fields =
    if nat_lt 64 (length fields) then Some 431
    else (if has_bad_fields minor fields then Some 400
    else (if nat_lt 0 (count_named transfer_encoding fields) then Some 501
    else (if nat_lt 65536 (body_len fields) then Some 413
    else None)))

abbrev pub refused : ℕ → Option Verb → HeadFault
refused status allow = record { status = status; allow = allow }

-- a path has a route, and the request has its method
abbrev pub verb_fault : List ℕ → Option Verb → Option HeadFault
verb_fault method None = Some (refused 404 None)
verb_fault method (Some verb) =
    if bytes_eq method (verb_name verb) then None else Some (refused 405 (Some verb))

-- the path is looked at where nothing else is wrong
abbrev pub fault_after : Option ℕ → List ℕ → List ℕ → Option HeadFault
fault_after (Some status) method target = Some (refused status None)
fault_after None method target = verb_fault method (path_verb (path_of target))

unfoldable pub fault_of : Head → Option HeadFault
fault_of head = fault_after (field_fault head.minor head.fields) head.method head.target

abbrev pub is_head_method : List ℕ → Bool
is_head_method method = bytes_eq method (codes "HEAD")
