-- Worked texts, computed from the definitions.
use Rattle.std.specs.Prelude.{◌≡◌, [], ◌∷◌, refl, codes}
use Rattle.field_values.specs.declared.numbers.TheConstants.FieldNo.{RESOLUTION as resolution, FIX_VERSION as fix_version, LABELS as labels}
use Rattle.field_values.specs.declared.value.Value.TheVariants.{Empty, Choice}
use Rattle.field_values.specs.declared.rules.CallerTest.TheVariants.{IsAssignee, IsReporter, InGroup, HasPermission}
use Rattle.field_values.specs.declared.rules.Condition.TheVariants.{Test, AnyOf}
use Rattle.field_values.specs.declared.rules.Permission.TheVariants as permission
use Rattle.field_values.specs.declared.rules.Validator.TheVariants.{Required}
use Rattle.field_values.specs.declared.rules.PostFunction.TheVariants.{Set, Clear, Resolution}
use Rattle.field_forms.specs.Known.{Names, choices_of}
use Rattle.rule_texts.specs.RuleTexts.{condition_text, validator_text, post_text}

abbrev names : Names
names = record {
  users = [];
  types = [];
  statuses = [];
  priorities = [];
  resolutions = codes "Fixed" ∷ codes "Won't fix" ∷ [];
  versions = codes "1.0" ∷ codes "2.0" ∷ [];
  groups = codes "Team" ∷ codes "Admins" ∷ [];
  fields = [];
}

-- one test keeps its `any:`, and has none of its own
pub any_of_one : condition_text names (AnyOf (IsAssignee ∷ [])) ≡ codes "any:assignee"
unfolding condition_text
any_of_one = refl

pub one_alone : condition_text names (Test (InGroup (record { 0 = 2 }))) ≡ codes "group:Admins"
unfolding condition_text
one_alone = refl

pub any_of_three : condition_text names
    (AnyOf (IsReporter ∷ InGroup (record { 0 = 1 }) ∷ HasPermission permission.Create ∷ []))
    ≡ codes "any:reporter|group:Team|permission:create"
unfolding condition_text
any_of_three = refl

pub a_field : validator_text names (Required fix_version) ≡ codes "required:fixVersion"
unfolding validator_text
a_field = refl

-- a resolution keeps the word by which it is set
pub a_resolution : post_text names (Resolution (record { 0 = 1 })) ≡ codes "resolution:Won't fix"
unfolding post_text
a_resolution = refl

pub set_to_a_resolution : post_text names (Set resolution (Choice (record { 0 = 1 })))
    ≡ codes "set:resolution=Won't fix"
unfolding post_text choices_of
set_to_a_resolution = refl

-- a field that may hold several is set to nothing by an empty array, and any is by `clear:`
pub set_to_nothing : post_text names (Set labels Empty) ≡ codes "set:labels=[]"
unfolding post_text
set_to_nothing = refl

pub cleared : post_text names (Clear labels) ≡ codes "clear:labels"
unfolding post_text
cleared = refl
