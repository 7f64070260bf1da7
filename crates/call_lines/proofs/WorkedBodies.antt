-- Bodies and what they ask for.
use Rattle.std.proofs.Common.{◌≡◌, [], ◌∷◌, codes, Some, None, Ok, Err, refl}
use Rattle.std.specs.Str.{is_utf8, chars}
use Rattle.serde_json.proofs.OnLiterals.{serde_json_on_literals}
use Rattle.call_lines.specs.Body.{body_of}
use Rattle.tracker_calls.specs.declared.call.Call.TheVariants.{Show, SaveFilter, SetGroup}
use Rattle.tracker_calls.specs.declared.cause.Cause.TheVariants.{Form}

pub a_posted_show : body_of (codes "{\"call\":\"show\",\"issue\":\"OPS-9\"}") (Some (codes "anna")) ≡ Ok (codes "anna", Show (codes "OPS-9"))
unfolding is_utf8 chars serde_json_on_literals body_of
a_posted_show = refl

pub a_posted_filter : body_of (codes "{\"call\":\"save_filter\",\"name\":\"Open ones\",\"jql\":\"status = Open\"}") (Some (codes "root")) ≡ Ok (codes "root", SaveFilter (codes "Open ones") (codes "status = Open"))
unfolding is_utf8 chars serde_json_on_literals body_of
a_posted_filter = refl

-- no body sets the present moment
pub a_posted_tick : body_of (codes "{\"call\":\"tick\",\"to\":5}") (Some (codes "root")) ≡ Err (Form (codes "call"))
unfolding is_utf8 chars serde_json_on_literals body_of
a_posted_tick = refl

-- the user stands beside the body
pub a_user_inside : body_of (codes "{\"call\":\"show\",\"issue\":\"OPS-9\",\"user\":\"anna\"}") (Some (codes "anna")) ≡ Err (Form (codes "user"))
unfolding is_utf8 chars serde_json_on_literals body_of
a_user_inside = refl

-- in byte order
pub a_name_before_user : body_of (codes "{\"call\":\"show\",\"issue\":\"OPS-9\",\"user\":\"anna\",\"as\":\"anna\"}") (Some (codes "anna")) ≡ Err (Form (codes "as"))
unfolding is_utf8 chars serde_json_on_literals body_of
a_name_before_user = refl

pub a_name_behind_user : body_of (codes "{\"call\":\"show\",\"issue\":\"OPS-9\",\"user\":\"anna\",\"users\":1}") (Some (codes "anna")) ≡ Err (Form (codes "user"))
unfolding is_utf8 chars serde_json_on_literals body_of
a_name_behind_user = refl

-- the call's members before the unknown ones
pub a_show_of_a_number : body_of (codes "{\"call\":\"show\",\"issue\":9,\"user\":\"anna\"}") (Some (codes "anna")) ≡ Err (Form (codes "issue"))
unfolding is_utf8 chars serde_json_on_literals body_of
a_show_of_a_number = refl

-- the user behind the object, and before the call
pub a_text_of_nobody : body_of (codes "\"show\"") None ≡ Err (Form (codes "line"))
unfolding is_utf8 chars serde_json_on_literals body_of
a_text_of_nobody = refl

pub a_call_of_nobody : body_of (codes "{\"call\":\"shew\"}") None ≡ Err (Form (codes "user"))
unfolding is_utf8 chars serde_json_on_literals body_of
a_call_of_nobody = refl

pub a_posted_group : body_of (codes "{\"call\":\"set_group\",\"group\":\"team\",\"members\":[\"anna\"]}") (Some (codes "root")) ≡ Ok (codes "root", SetGroup (codes "team") (codes "anna" ∷ []))
unfolding is_utf8 chars serde_json_on_literals body_of
a_posted_group = refl

pub a_posted_external_id : body_of (codes "{\"call\":\"create\",\"project\":\"OPS\",\"type\":\"Bug\",\"summary\":\"Slow\",\"external\":\"\",\"user\":\"anna\"}") (Some (codes "anna")) ≡ Err (Form (codes "external"))
unfolding is_utf8 chars serde_json_on_literals body_of
a_posted_external_id = refl
