-- What is taken out of a line's object, member by member, so that no text is copied.
use Rattle.std.specs.Prelude.{ℕ, List, [], String, codes, unwrap_or, if◌then◌else◌}
use Rattle.std.specs.declared.alloc.Global.{Global}
use Rattle.std.specs.BTreeMap.{BTreeMap}
use Rattle.std.specs.Str.{bytes_eq}
use Rattle.serde_json.specs.Data.{Data, object, Members, no_members, member}
use Rattle.serde_json.specs.View.{members_view}
use Rattle.serde_json.specs.declared.value.Value.{Value}
use Rattle.tracker_calls.specs.declared.call.Call.{Call}
use Rattle.tracker_calls.specs.declared.call.Call.TheVariants.{MoveBefore, MoveAfter}
use Rattle.call_lines.specs.declared.kind.CallKind.{CallKind}
use Rattle.call_lines.specs.declared.kind.CallKind.TheVariants as kind
use Rattle.call_lines.specs.Asked.{Asked, asked_by, move_of}
use Rattle.json_texts.specs.JsonMembers.{text_at}

-- the object of these members
abbrev pub object_of : BTreeMap (String Global) Value → Data
object_of members = object (members_view members.entries)

-- the text of that name, or the empty one where there is none
abbrev pub text_in : List ℕ → Data → List ℕ
text_in name d = unwrap_or (text_at name d) []

-- who asks for which call of that kind by an object with a text `user`
abbrev pub asked_in : CallKind → BTreeMap (String Global) Value → Asked
asked_in kind members =
    asked_by kind (object_of members) (members_view members.entries)
    (text_in (codes "user") (object_of members))

-- the call of either move
abbrev pub moved : CallKind → List ℕ → List ℕ → Call
moved kind.MoveAfter issue other = MoveAfter issue other
moved _ issue other = MoveBefore issue other

-- who asks for which move by such an object
abbrev pub move_in : CallKind → BTreeMap (String Global) Value → Asked
move_in kind members =
    move_of kind (moved kind) (object_of members) (members_view members.entries)
    (text_in (codes "user") (object_of members))

-- without the member of that name
abbrev pub without : List ℕ → Members → Members
without name no_members = no_members
without name (member k d more) = if bytes_eq name k then more else member k d (without name more)
