-- What is asked of a caller is read back from its text.
use Rattle.std.proofs.Common.{◌≡◌, ℕ, ◌+◌, ◌-◌, List, [], ◌++◌, false, Option, Some, None, option_map, refl, ap, sym, ◌∙◌, arith, inl, inr, slice_get, get_or, codes}
use Rattle.std.specs.Prelude.{IfSome, unwrap_or}
use Rattle.std.specs.Str.{bytes_eq, str_eq_ignore_ascii_case}
use Rattle.std.proofs.lemmas.Bool.{cases_Bool}
use Rattle.std.proofs.lemmas.List.Quantifiers.{position-Some}
use Rattle.std.proofs.lemmas.Option.{slice_get-get_or, unwrap_or-slice_get}
use Rattle.field_values.specs.declared.rules.Permission.{Permission}
use Rattle.field_values.specs.declared.rules.CallerTest.{CallerTest}
use Rattle.field_values.specs.declared.rules.CallerTest.TheVariants.{IsAssignee, IsReporter, InGroup, HasPermission}
use Rattle.field_values.specs.declared.rules.Condition.TheVariants.{Test}
use Rattle.field_forms.specs.Names.{AreDistinct, place_named}
use Rattle.field_forms.specs.Known.{Names}
use Rattle.field_forms.specs.Rules.{permission_of, permission_name, named_test, test_of, named_condition, condition_of}
use Rattle.field_forms.proofs.RoundTrip.{place_is}
use Rattle.field_forms.proofs.Fits.{named_inside}
use Rattle.fields.specs.Naming.{name_at}
use Rattle.rule_texts.specs.RuleTexts.{test_text}
use Rattle.rules_read_back.proofs.Cut.{has_byte, bar_is_no_letter, same_bytes, none_behind, after_holds, word_means}

-- ---- permissions

-- the word of a permission that was read names it
pub permission_back : (name : List ℕ) → IfSome (permission_of name) (λ p. permission_of (permission_name p) ≡ Some p)
permission_back name = elim (cases_Bool (str_eq_ignore_ascii_case name (codes "browse"))) [
  | inl is ↦ rw is refl
  | inr a ↦ elim (cases_Bool (str_eq_ignore_ascii_case name (codes "create"))) [
    | inl is ↦ rw (a, is) refl
    | inr b ↦ elim (cases_Bool (str_eq_ignore_ascii_case name (codes "edit"))) [
      | inl is ↦ rw (a, b, is) refl
      | inr c ↦ elim (cases_Bool (str_eq_ignore_ascii_case name (codes "transition"))) [
        | inl is ↦ rw (a, b, c, is) refl
        | inr d ↦ elim (cases_Bool (str_eq_ignore_ascii_case name (codes "rank"))) [
          | inl is ↦ rw (a, b, c, d, is) refl
          | inr e ↦ rw (a, b, c, d, e) tt
        ]
      ]
    ]
  ]
]

-- no word of a permission has a bar
permission_plain : (p : Permission) → has_byte 124 (permission_name p) ≡ false
permission_plain Permission.Browse = refl
permission_plain Permission.Create = refl
permission_plain Permission.Edit = refl
permission_plain Permission.Transition = refl
permission_plain Permission.Rank = refl
permission_plain Permission.Plan = refl
permission_plain Permission.Administer = refl

-- ---- tests

-- it is read back from its text, among others and alone
pub record IsTold (names : Names) (test : CallerTest) : Type 0 where
  pub among : test_of names (test_text names test) ≡ Some test
  pub alone : condition_of names (test_text names test) ≡ Some (Test test)

module _ (names : Names) (distinct : AreDistinct names.groups) where
  group_told : (k : ℕ) (name : List ℕ) → slice_get names.groups k ≡ Some name → IsTold names (InGroup (record { 0 = k + 1 }))
  unfolding test_of condition_of
  group_told k name at =
      let found : place_named name names.groups ≡ Some k = place_is names.groups k name distinct (sym at) in
      let back : k + 1 - 1 ≡ k = omega arith in
      let spelled : name_at names.groups (k + 1 - 1) ≡ name = ap (name_at names.groups) back ∙ ap (λ (o : Option (List ℕ)). unwrap_or o []) at in
      let means : named_test names (codes "group") name ≡ Some (InGroup (record { 0 = k + 1 })) = rw found refl in
      let one : test_of names (codes "group:" ++ name) ≡ Some (InGroup (record { 0 = k + 1 })) = word_means (named_test names) (codes "group") name refl ∙ means in
      let other : condition_of names (codes "group:" ++ name) ≡ Some (Test (InGroup (record { 0 = k + 1 }))) =
      word_means (named_condition names) (codes "group") name refl ∙ ap (option_map Test) means in
      record {
        among = ap (λ (t : List ℕ). test_of names (codes "group:" ++ t)) spelled ∙ one;
        alone = ap (λ (t : List ℕ). condition_of names (codes "group:" ++ t)) spelled ∙ other;
      }

  group_back : (rest : List ℕ) (place : Option ℕ) → place_named rest names.groups ≡ place → IfSome (option_map (λ k. InGroup (record { 0 = k + 1 })) place) (IsTold names)
  group_back rest None is = tt
  group_back rest (Some k) is = group_told k (get_or names.groups k []) (slice_get-get_or names.groups k [] (named_inside names.groups rest k is))

  permission_told : (p : Permission) → permission_of (permission_name p) ≡ Some p → IsTold names (HasPermission p)
  unfolding test_of condition_of
  permission_told p is =
      let means : named_test names (codes "permission") (permission_name p) ≡ Some (HasPermission p) = ap (option_map HasPermission) is in
      record {
        among = word_means (named_test names) (codes "permission") (permission_name p) refl ∙ means;
        alone = word_means (named_condition names) (codes "permission") (permission_name p) refl ∙ ap (option_map Test) means;
      }

  permission_found : (o : Option Permission) → IfSome o (λ p. permission_of (permission_name p) ≡ Some p) → IfSome (option_map HasPermission o) (IsTold names)
  permission_found None is = tt
  permission_found (Some p) is = permission_told p is

  pub named_back : (word rest : List ℕ) → IfSome (named_test names word rest) (IsTold names)
  named_back word rest = elim (cases_Bool (bytes_eq word (codes "group"))) [
    | inl group ↦ rw group (group_back rest (place_named rest names.groups) refl)
    | inr other ↦ elim (cases_Bool (bytes_eq word (codes "permission"))) [
      | inl permission ↦ rw (other, permission) (permission_found (permission_of rest) (permission_back rest))
      | inr none ↦ rw (other, none) tt
    ]
  ]

  pub assignee_told : IsTold names IsAssignee
  unfolding test_of condition_of
  assignee_told = record { among = refl; alone = refl }

  pub reporter_told : IsTold names IsReporter
  unfolding test_of condition_of
  reporter_told = record { among = refl; alone = refl }

  pub test_back : (text : List ℕ) → IfSome (test_of names text) (IsTold names)
  unfolding test_of
  test_back text = elim (cases_Bool (bytes_eq text (codes "assignee"))) [
    | inl assignee ↦ rw assignee assignee_told
    | inr other ↦ elim (cases_Bool (bytes_eq text (codes "reporter"))) [
      | inl reporter ↦ rw (other, reporter) reporter_told
      | inr none ↦ rw (other, none) (after_holds (named_test names) (IsTold names) text (λ parts is. named_back parts.0 parts.1))
    ]
  ]

-- ---- tests among others, whose texts have no bar

abbrev pub IsPlain : Names → CallerTest → Type 0
IsPlain names test = has_byte 124 (test_text names test) ≡ false

module _ (names : Names) where
  group_plain : (rest : List ℕ) (place : Option ℕ) → place_named rest names.groups ≡ place → has_byte 124 rest ≡ false
      → IfSome (option_map (λ k. InGroup (record { 0 = k + 1 })) place) (IsPlain names)
  group_plain rest None is none = tt
  group_plain rest (Some k) is none =
      let back : k + 1 - 1 ≡ k = omega arith in
      let found = position-Some (λ (other : List ℕ). str_eq_ignore_ascii_case other rest) names.groups k [] is in
      let plain : has_byte 124 (get_or names.groups k []) ≡ false = same_bytes 124 bar_is_no_letter (get_or names.groups k []) rest found.1 none in
      ap (λ (n : ℕ). has_byte 124 (name_at names.groups n)) back ∙ ap (has_byte 124) (unwrap_or-slice_get names.groups k []) ∙ plain

  permission_is_plain : (o : Option Permission) → IfSome (option_map HasPermission o) (IsPlain names)
  permission_is_plain None = tt
  permission_is_plain (Some p) = permission_plain p

  named_plain : (word rest : List ℕ) → has_byte 124 rest ≡ false → IfSome (named_test names word rest) (IsPlain names)
  named_plain word rest none = elim (cases_Bool (bytes_eq word (codes "group"))) [
    | inl group ↦ rw group (group_plain rest (place_named rest names.groups) refl none)
    | inr other ↦ elim (cases_Bool (bytes_eq word (codes "permission"))) [
      | inl permission ↦ rw (other, permission) (permission_is_plain (permission_of rest))
      | inr not ↦ rw (other, not) tt
    ]
  ]

  pub test_plain : (text : List ℕ) → has_byte 124 text ≡ false → IfSome (test_of names text) (IsPlain names)
  unfolding test_of
  test_plain text none = elim (cases_Bool (bytes_eq text (codes "assignee"))) [
    | inl assignee ↦ rw assignee refl
    | inr other ↦ elim (cases_Bool (bytes_eq text (codes "reporter"))) [
      | inl reporter ↦ rw (other, reporter) refl
      | inr not ↦ rw (other, not) (after_holds (named_test names) (IsPlain names) text (λ parts is. named_plain parts.0 parts.1 (none_behind 124 58 text parts none is)))
    ]
  ]
