-- Some fields that are shown and then others are all of them.
use Rattle.std.proofs.Common.{◌≡◌, ◌++◌, ℕ, List, [], ◌∷◌, map, Option, Some, None, refl, ap, ◌∙◌, sym}
use Rattle.field_forms.specs.Known.{Names}
use Rattle.fields.specs.Naming.{built_in_numbers, field_numbers, field_name}
use Rattle.change_history.specs.History.{History, present}
use Rattle.tracker_calls.specs.declared.reply.Shown.{Shown}
use Rattle.tracker_calls.specs.declared.reply.ShownField.{ShownField}
use Rattle.tracker_machine.specs.Show.{shown_fields, shown_value, with_shown}

with_shown-append : (name : List ℕ) (value : Option Shown) (fs gs : List ShownField) → with_shown name value (fs ++ gs) ≡ with_shown name value fs ++ gs
with_shown-append name None fs gs = refl
with_shown-append name (Some s) fs gs = refl

shown_fields-append : (names : Names) (h : History) (ms ns : List ℕ) → shown_fields names h (ms ++ ns) ≡ shown_fields names h ms ++ shown_fields names h ns
shown_fields-append names h [] ns = refl
shown_fields-append names h (n ∷ ms) ns =
    let value = shown_value names n (present h (record { 0 = n })) in
    ap (with_shown (field_name names.fields n) value) (shown_fields-append names h ms ns)
    ∙ with_shown-append (field_name names.fields n) value (shown_fields names h ms) (shown_fields names h ns)

-- those of every tracker and then the setup's own
pub shown_of_all : (names : Names) (h : History) (built own : List ShownField)
    → built ≡ shown_fields names h built_in_numbers
    → own ≡ built ++ shown_fields names h (map (λ f. f.number.0) names.fields)
    → own ≡ shown_fields names h (field_numbers names.fields)
shown_of_all names h built own first then_own =
    then_own
    ∙ ap (λ (fs : List ShownField). fs ++ shown_fields names h (map (λ f. f.number.0) names.fields)) first
    ∙ sym (shown_fields-append names h built_in_numbers (map (λ f. f.number.0) names.fields))
