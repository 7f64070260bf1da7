-- What the body of a request asks for: an object as a line has it, whose user stands beside it.
use Rattle.std.specs.Prelude.{ℕ, List, [], codes, Ok, Err, Option, Some, None, option_and_then, find, Bool, false, not, ◌&&◌, if◌then◌else◌}
use Rattle.std.specs.Str.{bytes_eq}
use Rattle.serde_json.specs.Data.{object, Members, no_members}
use Rattle.serde_json.specs.Find.{as_object}
use Rattle.call_lines.specs.Asked.{Asked, need, no_other, names_of, kind_named, is_member, asked_by, data_of}
use Rattle.json_texts.specs.JsonMembers.{text_at}
use Rattle.call_lines.specs.declared.kind.CallKind.{CallKind}
use Rattle.tracker_calls.specs.declared.cause.Cause.{Cause}
use Rattle.tracker_calls.specs.declared.cause.Cause.TheVariants.{Form}

-- no body sets the present moment
abbrev pub body_kind : List ℕ → Option CallKind
body_kind name = if bytes_eq name (codes "tick") then None else kind_named name

-- a body has no member `user`
abbrev pub is_body_member : CallKind → List ℕ → Bool
is_body_member kind name = is_member kind name && not (bytes_eq name (codes "user"))

-- the first name in byte order that is no member of a body with the call
abbrev pub first_unknown : CallKind → List (List ℕ) → Option (List ℕ)
first_unknown kind names = find (λ name. not (is_body_member kind name)) names

-- the call or the first fault of its members, whatever else stands there, and nobody asks for it yet
abbrev pub asked_alone : CallKind → Members → Asked
asked_alone kind members = asked_by kind (object members) no_members []

-- that user asks for the call, where no other member stands there
abbrev pub asked_beside : Option (List ℕ) → List ℕ → Asked → Asked
asked_beside other user (Ok asked) = no_other other (Ok (user, asked.1))
asked_beside other user (Err r) = Err r

-- the members of the object that the bytes are
abbrev pub members_in : List ℕ → Option Members
members_in bytes = option_and_then as_object (data_of bytes)

-- the call that the members ask for, by that user
abbrev pub members_call : Members → List ℕ → Asked
members_call members user =
    need (option_and_then body_kind (text_at (codes "call") (object members))) (codes "call")
    (λ kind.
    asked_beside (first_unknown kind (names_of members)) user (asked_alone kind members))

-- The user and the call, or the first fault in the order of a line: the user's place is that of a line's member `user`, behind
-- `line` and before `call`.
unfoldable pub body_of : List ℕ → Option (List ℕ) → Asked
body_of bytes user =
    need (members_in bytes) (codes "line") (λ members.
    need user (codes "user") (members_call members))

-- ---- what is answered of the body, by what a line of the same members is answered

-- a fault of the call's members is told before one of an unknown member
abbrev pub misses_other : CallKind → Cause → Bool
misses_other kind (Form name) = not (is_member kind name)
misses_other kind c = false

abbrev pub fault_beside : CallKind → List ℕ → Cause → Cause
fault_beside kind other c = if misses_other kind c then Form other else c

abbrev pub with_fault : CallKind → List ℕ → Asked → Cause
with_fault kind other (Ok asked) = Form other
with_fault kind other (Err c) = fault_beside kind other c

abbrev pub of_line : CallKind → Option (List ℕ) → List ℕ → Asked → Asked
of_line kind None user asked = asked_beside None user asked
of_line kind (Some other) user asked = Err (with_fault kind other asked)
