-- The field in which sprints stand.
use Rattle.std.proofs.Common.{◌≡◌, ◌≢◌, ◌⊎◌, ℕ, ◌==◌, Bool, true, false, List, Option, Some, None, if◌then◌else◌, inl, inr, refl, sym, ap, ◌∙◌}
use Rattle.std.specs.Prelude.{option_map}
use Rattle.std.specs.Option.{option_map_or}
use Rattle.std.proofs.lemmas.Bool.{cases_eq, ne_eqb, true≢false}
use Rattle.field_values.specs.declared.numbers.FieldNo.{FieldNo}
use Rattle.field_values.specs.declared.numbers.TheConstants.FieldNo as number
use Rattle.field_values.specs.declared.numbers.SprintNo.{SprintNo}
use Rattle.field_values.specs.declared.words.FieldKind.{FieldKind}
use Rattle.field_values.specs.declared.words.FieldKind.TheVariants as kind
use Rattle.field_values.specs.declared.field.Field.{Field}
use Rattle.field_values.specs.declared.value.Value.{Value}
use Rattle.field_forms.specs.declared.form.Form.{Form}
use Rattle.field_forms.specs.declared.form.Form.TheVariants.{Line, Prose, Number, Points, Choice, User, Set, Labels, Date}
use Rattle.field_forms.specs.Known.{Names, form_by, form_of, own_field, choices_of, fits_form, fits}
use Rattle.change_history.specs.History.{History, present}
use Rattle.jql_meaning.specs.Sprints.{IsNotIn}

module _ (choices : List (List ℕ)) (n : ℕ) (sprint : SprintNo) where
  -- a field of this form, if there is one, may hold the sprint
  holds_it : Option Form → Bool
  holds_it form = option_map_or (fits_form n choices (Value.Sprint sprint)) form false

  neither : (test : Bool) (one other : Option Form) → holds_it one ≡ false → holds_it other ≡ false → holds_it (if test then one else other) ≡ false
  neither true one other p q = p
  neither false one other p q = q

  unless : (test : Bool) (one other : Option Form) → test ≡ false → holds_it other ≡ false → holds_it (if test then one else other) ≡ false
  unless true one other e q = absurd (true≢false e)
  unless false one other e q = q

  choice_no : holds_it (Some Choice) ≡ false
  unfolding holds_it
  choice_no = refl

  line_no : holds_it (Some (Line 255)) ≡ false
  unfolding holds_it
  line_no = refl

  prose_no : (most : ℕ) → holds_it (Some (Prose most)) ≡ false
  unfolding holds_it
  prose_no most = refl

  user_no : holds_it (Some User) ≡ false
  unfolding holds_it
  user_no = refl

  set_no : holds_it (Some Set) ≡ false
  unfolding holds_it
  set_no = refl

  labels_no : holds_it (Some Labels) ≡ false
  unfolding holds_it
  labels_no = refl

  date_no : holds_it (Some Date) ≡ false
  unfolding holds_it
  date_no = refl

  points_no : holds_it (Some Points) ≡ false
  unfolding holds_it
  points_no = refl

  number_no : holds_it (Some Number) ≡ false
  unfolding holds_it
  number_no = refl

  by_kind : (k : FieldKind) → holds_it (Some (form_by k)) ≡ false
  by_kind kind.Text = prose_no 1024
  by_kind kind.Number = number_no
  by_kind kind.Choice = choice_no
  by_kind kind.User = user_no
  by_kind kind.Date = date_no

  own : (field : Option Field) → holds_it (option_map (λ f. form_by f.kind) field) ≡ false
  unfolding holds_it
  own None = refl
  own (Some f) = by_kind f.kind

  elsewhere : (fields : List Field) → n == number.SPRINT.0 ≡ false → holds_it (form_of fields n) ≡ false
  unfolding form_of
  elsewhere fields other =
      neither _ _ _ choice_no (neither _ _ _ line_no (neither _ _ _ (prose_no 4096) (neither _ _ _ user_no (neither _ _ _ set_no
      (neither _ _ _ labels_no (neither _ _ _ date_no (neither _ _ _ points_no (unless _ _ _ other (own (own_field fields n))))))))))

pub sprints_fit_one_field : (names : Names) (field : ℕ) (sprint : SprintNo) → fits names field (Value.Sprint sprint) ≡ true → field ≡ number.SPRINT.0
unfolding fits holds_it
sprints_fit_one_field names field sprint h =
    elim (cases_eq field number.SPRINT.0) [
      | inl same ↦ same
      | inr other ↦ absurd (true≢false (sym h ∙ elsewhere (choices_of names field) field sprint names.fields (ne_eqb field number.SPRINT.0 other)))
    ]

pub one_sprint_is_held : (names : Names) (h : History) (sprint : SprintNo) → ((field : FieldNo) → (present h field ≡ Value.Empty) ⊎ (fits names field.0 (present h field) ≡ true)) → present h number.SPRINT ≢ Value.Sprint sprint → IsNotIn h sprint
one_sprint_is_held names h sprint all other field is =
    elim (all field) [
      | inl empty ↦ let e : Value.Empty ≡ Value.Sprint sprint = sym empty ∙ is in absurd (cc)
      | inr fitting ↦
          let n : field.0 ≡ number.SPRINT.0 = sprints_fit_one_field names field.0 sprint (rw is at fitting) in
          let f : number.SPRINT ≡ field = sym (ap (λ (n : ℕ). let no : FieldNo = record { 0 = n } in no) n) in
          other (ap (present h) f ∙ is)
    ]
