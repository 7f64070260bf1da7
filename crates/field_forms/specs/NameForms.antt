-- The forms that names of different things have.
use Rattle.std.specs.Prelude.{ℕ, ◌-◌, ◌==◌, nat_le, List, length, take, slice_index, slice_range, Bool, true, not, ◌&&◌, ◌||◌, codes}
use Rattle.std.specs.List.{list_all}
use Rattle.std.specs.Str.{str_eq_ignore_ascii_case}
use Rattle.field_forms.specs.declared.name_form.NameForm.{NameForm}
use Rattle.field_forms.specs.declared.name_form.NameForm.TheVariants.{User, Plain, Resolution, ProjectKey, OwnField, AnyText}
use Rattle.field_forms.specs.Names.{is_name, is_user_name, is_project_key}
use Rattle.field_forms.specs.BuiltIn.{is_field_word}
use Rattle.field_values.specs.Digits.{is_digit}

-- `cf[`, at least one digit and `]`: a field by its number, as a query writes it
abbrev pub is_numbered_field : List ℕ → Bool
is_numbered_field name =
    nat_le 5 (length name) && (str_eq_ignore_ascii_case (take 3 name) (codes "cf[")
    && ((slice_index name (length name - 1) == 93)
    && list_all is_digit (slice_range name 3 (length name - 1))))

-- a text that has the form of such a name; a resolution isn't called Unresolved, and a field of the setup's own
-- neither as a field that every tracker has nor as another word for a field
abbrev pub has_form : NameForm → List ℕ → Bool
has_form User text = is_user_name text
has_form Plain text = is_name text
has_form Resolution text = is_name text && not (str_eq_ignore_ascii_case text (codes "Unresolved"))
has_form ProjectKey text = is_project_key text
has_form OwnField text = is_name text && not (is_field_word text || is_numbered_field text)
has_form AnyText text = true
