-- What a transition changes after its status.
use Rattle.std.specs.Prelude.{List, [], ◌∷◌, ◌++◌, slice_get, option_and_then}
use Rattle.std.specs.Option.{option_map_or}
use Rattle.field_values.specs.declared.numbers.UserNo.{UserNo}
use Rattle.field_values.specs.declared.numbers.FieldNo.{FieldNo}
use Rattle.field_values.specs.declared.value.Value.{Value}
use Rattle.field_values.specs.declared.value.Value.TheVariants.{Empty, User, Choice}
use Rattle.field_values.specs.declared.rules.PostFunction.{PostFunction}
use Rattle.field_values.specs.declared.rules.PostFunction.TheVariants.{Set, Clear, AssignCaller, AssignReporter, AssignLead, Resolution}
use Rattle.field_values.specs.Parts.{Parts}
use Rattle.change_history.specs.declared.change.Change.{Change}
use Rattle.change_history.specs.History.{History, present}
use Rattle.field_values.specs.declared.numbers.TheConstants.FieldNo.{ASSIGNEE as assignee, REPORTER as reporter, RESOLUTION as resolution}
use Rattle.workflow.specs.Net.{with_changes}
use Rattle.workflow.specs.Conditions.{project_number}

-- that field gets that value
abbrev pub change : FieldNo → Value → Change
change field value = record { field = field; to = value }

-- the lead of the issue's project
unfoldable pub lead_of : Parts → History → Value
lead_of setup h =
    option_map_or (λ p. User p.lead)
    (option_and_then (slice_get setup.project) (project_number setup h)) Empty

-- the change that a post function makes, where the fields hold these values before it
abbrev pub post_change : Parts → History → UserNo → (FieldNo → Value) → PostFunction → Change
-- `set:FIELD=TEXT`: the field gets the value that the text stands for
post_change setup h caller values (Set field value) = change field value
-- `clear:FIELD`: the field is empty
post_change setup h caller values (Clear field) = change field Empty
-- `assign:caller`: the assignee is the caller
post_change setup h caller values AssignCaller = change assignee (User caller)
-- `assign:reporter`: the assignee is who the reporter is by then, or nobody
post_change setup h caller values AssignReporter = change assignee (values reporter)
-- `assign:lead`: the assignee is the lead of the issue's project
post_change setup h caller values AssignLead = change assignee (lead_of setup h)
-- `resolution:NAME`: the resolution is that one
post_change setup h caller values (Resolution choice) = change resolution (Choice choice)

-- the changes so far, and those of the post functions in their order, each of which finds the issue with the changes before it
abbrev pub with_post : Parts → History → UserNo → List Change → List PostFunction → List Change
with_post setup h caller so_far [] = so_far
with_post setup h caller so_far (post ∷ posts) =
    with_post setup h caller (so_far
    ++ post_change setup h caller (with_changes (present h) so_far) post ∷ []) posts
