-- A post function is read back from its text.
use Rattle.std.proofs.Common.{◌≡◌, ℕ, ◌<◌, List, [], ◌∷◌, ◌++◌, length, false, Option, Some, None, option_map, option_and_then, refl, ap, sym, ◌∙◌, inl, inr, slice_get, codes}
use Rattle.std.specs.Prelude.{IfSome}
use Rattle.std.specs.Str.{bytes_eq}
use Rattle.std.proofs.lemmas.Bool.{cases_Bool}
use Rattle.std.proofs.lemmas.Option.{slice_get-get_or, unwrap_or-slice_get}
use Rattle.field_values.specs.Parts.{Parts}
use Rattle.field_values.specs.declared.value.Value.{Value}
use Rattle.field_values.specs.declared.rules.PostFunction.{PostFunction}
use Rattle.field_values.specs.declared.rules.PostFunction.TheVariants.{Set, Clear, AssignCaller, AssignReporter, AssignLead, Resolution}
use Rattle.field_forms.specs.Cuts.{cut_at}
use Rattle.field_forms.specs.Names.{place_named}
use Rattle.field_forms.specs.Known.{Names, choices_of, value_of}
use Rattle.field_forms.specs.Rules.{settable_named, setting_of, assignee_of, named_post, post_of}
use Rattle.field_forms.proofs.Fits.{named_inside}
use Rattle.field_forms.proofs.RoundTrip.{place_is}
use Rattle.field_forms.proofs.SoundRules.{named_is_field}
use Rattle.fields.specs.Sound.{part_names, IsSound}
use Rattle.fields.specs.Naming.{name_at, field_name}
use Rattle.fields.proofs.Choices.{choices_distinct}
use Rattle.rule_texts.specs.RuleTexts.{value_text, post_text}
use Rattle.rules_read_back.proofs.Cut.{has_byte, cut_behind, none_in_front, after_holds, holds_of, word_means}
use Rattle.rules_read_back.proofs.Fields.{settable_parts, settable_back, field_plain}
use Rattle.rules_read_back.proofs.Values.{told_value}

module _ (parts : Parts) (sound : IsSound parts) where
  abbrev names : Names
  names = part_names parts

  abbrev Back : PostFunction → Type 0
  Back post = post_of names (post_text names post) ≡ Some post

  -- ---- a field that is set

  set_back : (name text : List ℕ) → has_byte 61 name ≡ false → IfSome (setting_of names name text) Back
  unfolding post_of post_text
  set_back name text none = by (settable_named names name) refl where
    by_value : (n : ℕ) → settable_named names name ≡ Some n → (found : Option Value) → value_of names n text ≡ found → IfSome (option_map (Set (record { 0 = n })) found) Back
    by_value n is None at = tt
    by_value n is (Some v) at =
        let may = settable_parts names name n is in
        let told : List ℕ = value_text (choices_of names n) v in
        let there = named_is_field parts.field name n may.1 in
        let plain : has_byte 61 (field_name parts.field n) ≡ false = field_plain parts sound name n may.1 none in
        let back : value_of names n told ≡ Some v = told_value names n text v (choices_distinct parts sound n) may.0 at in
        let field : settable_named names (field_name parts.field n) ≡ Some n = settable_back parts sound n may.0 there in
        let set : setting_of names (field_name parts.field n) told ≡ Some (Set (record { 0 = n }) v) =
        ap (option_and_then (λ k. option_map (Set (record { 0 = k })) (value_of names k told))) field ∙ ap (option_map (Set (record { 0 = n }))) back in
        word_means (named_post names) (codes "set") (field_name parts.field n ++ 61 ∷ told) refl
        ∙ ap (option_and_then (λ p. setting_of names p.0 p.1)) (cut_behind 61 (field_name parts.field n) told plain)
        ∙ set

    by : (found : Option ℕ) → settable_named names name ≡ found → IfSome (option_and_then (λ n. option_map (Set (record { 0 = n })) (value_of names n text)) found) Back
    by None is = tt
    by (Some n) is = by_value n is (value_of names n text) refl

  set_after : (rest : List ℕ) → IfSome (option_and_then (λ p. setting_of names p.0 p.1) (cut_at 61 rest)) Back
  set_after rest = by (cut_at 61 rest) refl where
    by : (cut : Option (List ℕ × List ℕ)) → cut_at 61 rest ≡ cut → IfSome (option_and_then (λ p. setting_of names p.0 p.1) cut) Back
    by None is = tt
    by (Some cut) is = set_back cut.0 cut.1 (none_in_front 61 rest cut is)

  -- ---- other post functions

  clear_back : (rest : List ℕ) (found : Option ℕ) → settable_named names rest ≡ found → IfSome (option_map (λ n. Clear (record { 0 = n })) found) Back
  unfolding post_of post_text
  clear_back rest None is = tt
  clear_back rest (Some n) is =
      let may = settable_parts names rest n is in
      word_means (named_post names) (codes "clear") (field_name parts.field n) refl
      ∙ ap (option_map (λ n. Clear (record { 0 = n }))) (settable_back parts sound n may.0 (named_is_field parts.field rest n may.1))

  caller_back : Back AssignCaller
  unfolding post_of post_text
  caller_back = refl

  reporter_back : Back AssignReporter
  unfolding post_of post_text
  reporter_back = refl

  lead_back : Back AssignLead
  unfolding post_of post_text
  lead_back = refl

  assign_back : (word : List ℕ) → IfSome (assignee_of word) Back
  assign_back word = elim (cases_Bool (bytes_eq word (codes "caller"))) [
    | inl caller ↦ rw caller caller_back
    | inr other ↦ elim (cases_Bool (bytes_eq word (codes "reporter"))) [
      | inl reporter ↦ rw (other, reporter) reporter_back
      | inr neither ↦ elim (cases_Bool (bytes_eq word (codes "lead"))) [
        | inl lead ↦ rw (other, neither, lead) lead_back
        | inr none ↦ rw (other, neither, none) tt
      ]
    ]
  ]

  resolution_back : (rest : List ℕ) (place : Option ℕ) → place_named rest parts.resolutions ≡ place → IfSome (option_map (λ k. Resolution (record { 0 = k })) place) Back
  unfolding post_of post_text
  resolution_back rest None is = tt
  resolution_back rest (Some k) is =
      let inside : k < length parts.resolutions = named_inside parts.resolutions rest k is in
      let spelled : Some (name_at parts.resolutions k) ≡ slice_get parts.resolutions k =
      ap Some (unwrap_or-slice_get parts.resolutions k []) ∙ sym (slice_get-get_or parts.resolutions k [] inside) in
      let found : place_named (name_at parts.resolutions k) parts.resolutions ≡ Some k =
      place_is parts.resolutions k (name_at parts.resolutions k) sound.resolutions.distinct spelled in
      word_means (named_post names) (codes "resolution") (name_at parts.resolutions k) refl
      ∙ ap (option_map (λ k. Resolution (record { 0 = k }))) found

  named_back : (word rest : List ℕ) → IfSome (named_post names word rest) Back
  named_back word rest = elim (cases_Bool (bytes_eq word (codes "set"))) [
    | inl set ↦ rw set (set_after rest)
    | inr a ↦ elim (cases_Bool (bytes_eq word (codes "clear"))) [
      | inl clear ↦ rw (a, clear) (clear_back rest (settable_named names rest) refl)
      | inr b ↦ elim (cases_Bool (bytes_eq word (codes "assign"))) [
        | inl assign ↦ rw (a, b, assign) (assign_back rest)
        | inr c ↦ elim (cases_Bool (bytes_eq word (codes "resolution"))) [
          | inl resolution ↦ rw (a, b, c, resolution) (resolution_back rest (place_named rest parts.resolutions) refl)
          | inr d ↦ rw (a, b, c, d) tt
        ]
      ]
    ]
  ]

  read_back : (text : List ℕ) → IfSome (post_of names text) Back
  unfolding post_of
  read_back text = after_holds (named_post names) Back text (λ cut is. named_back cut.0 cut.1)

  pub post_back : (text : List ℕ) (post : PostFunction) → post_of names text ≡ Some post → post_of names (post_text names post) ≡ Some post
  post_back text post is = holds_of Back (post_of names text) post (read_back text) is
