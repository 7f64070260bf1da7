-- The text of a reply that tells what the setup and the present say.
use Rattle.std.proofs.Common.{◌≡◌, [], ◌∷◌, codes, Some, None, true, false, negsuc, refl}
use Rattle.std.specs.Fmt.{digits}
use Rattle.serde_json.proofs.OnLiterals.{serde_json_on_literals}
use Rattle.field_values.specs.declared.rules.Permission.TheVariants as permission
use Rattle.field_values.specs.declared.words.Category.TheVariants as category
use Rattle.field_values.specs.declared.words.Weekday.TheVariants as day
use Rattle.tracker_calls.specs.declared.described.DescribedParts.{DescribedParts}
use Rattle.tracker_calls.specs.declared.described.ToldKind.TheVariants as kind
use Rattle.tracker_calls.specs.declared.reply.Reply.TheVariants as reply
use Rattle.tracker_calls.specs.declared.reply.Answer.TheVariants as answer
use Rattle.reply_texts.specs.Reply.{reply_text}
use Rattle.reply_texts.specs.Described.{describe_data, middle_members, last_members}

-- a small setup, west of Greenwich
abbrev told : DescribedParts
told = record {
  administer = false;
  fields = record { kind = kind.Choice; name = codes "type"; number = record { 0 = 1 }; options = Some (codes "Task" ∷ []) }
      ∷ record { kind = kind.Labels; name = codes "labels"; number = record { 0 = 10 }; options = None } ∷ [];
  first_status = codes "Open";
  groups = record { group = codes "team"; members = codes "amy" ∷ [] } ∷ [];
  moment = 5;
  offset_minutes = negsuc 89;
  plan = true;
  projects = record { key = codes "OPS"; lead = codes "amy"; may = permission.Browse ∷ permission.Rank ∷ [] } ∷ [];
  rebalancer = codes "bo";
  statuses = record { category = category.ToDo; status = codes "Open" } ∷ [];
  transitions = record {
    conditions = codes "any:assignee" ∷ [];
    from = codes "Open" ∷ [];
    post = codes "set:labels=[\"a\"]" ∷ [];
    to = codes "Open";
    transition = codes "Touch";
    validators = [];
  } ∷ [];
  user = codes "amy";
  users = codes "amy" ∷ codes "bo" ∷ [];
  week_starts = day.Sunday;
}

pub a_description : reply_text (reply.Ok (answer.Describe told))
    ≡ codes "{\"ok\":{\"administer\":false,\"fields\":[{\"kind\":\"choice\",\"name\":\"type\",\"number\":1,\"options\":[\"Task\"]},{\"kind\":\"labels\",\"name\":\"labels\",\"number\":10}],\"first_status\":\"Open\",\"groups\":[{\"group\":\"team\",\"members\":[\"amy\"]}],\"moment\":5,\"offset_minutes\":-90,\"plan\":true,\"projects\":[{\"key\":\"OPS\",\"lead\":\"amy\",\"may\":[\"browse\",\"rank\"]}],\"rebalancer\":\"bo\",\"statuses\":[{\"category\":\"todo\",\"status\":\"Open\"}],\"transitions\":[{\"conditions\":[\"any:assignee\"],\"from\":[\"Open\"],\"post\":[\"set:labels=[\\\"a\\\"]\"],\"to\":\"Open\",\"transition\":\"Touch\",\"validators\":[]}],\"user\":\"amy\",\"users\":[\"amy\",\"bo\"],\"week_starts\":\"sunday\"}}"
unfolding digits serde_json_on_literals reply_text describe_data middle_members last_members
a_description = refl
