-- A condition is read back from its text.
use Rattle.std.proofs.Common.{◌≡◌, ℕ, ◌==◌, List, [], ◌∷◌, ◌++◌, map, true, false, Option, Some, None, option_map, option_and_then, refl, ap, sym, ◌∙◌, inl, inr, append-nil, codes}
use Rattle.std.specs.Prelude.{IfSome}
use Rattle.std.specs.Str.{bytes_eq}
use Rattle.std.proofs.lemmas.Bool.{cases_Bool}
use Rattle.field_values.specs.declared.rules.CallerTest.{CallerTest}
use Rattle.field_values.specs.declared.rules.Condition.{Condition}
use Rattle.field_values.specs.declared.rules.Condition.TheVariants.{Test, AnyOf}
use Rattle.field_forms.specs.Cuts.{cut_at, pieces_at, onto_first}
use Rattle.field_forms.specs.Names.{AreDistinct}
use Rattle.field_forms.specs.Known.{Names}
use Rattle.field_forms.specs.Rules.{named_test, test_of, all_tests, named_condition, condition_of}
use Rattle.field_forms.proofs.Cutting.{cut_some, pieces_cut, pieces_by}
use Rattle.rule_texts.specs.RuleTexts.{test_text, more_tests_text, tests_text, condition_text}
use Rattle.rules_read_back.proofs.Cut.{has_byte, cut_behind, after_holds, holds_of, word_means}
use Rattle.rules_read_back.proofs.Tests.{IsTold, IsPlain, named_back, assignee_told, reporter_told, test_back, test_plain}

-- ---- the pieces of a text have none of the byte between them

abbrev EachPlain : List (List ℕ) → Type 0
EachPlain [] = Unit {0}
EachPlain (piece ∷ pieces) = (has_byte 124 piece ≡ false) × EachPlain pieces

one_more_byte : (b : ℕ) (pieces : List (List ℕ)) → (b == 124) ≡ false → EachPlain pieces → EachPlain (onto_first b pieces)
one_more_byte b [] other each = tt
one_more_byte b (piece ∷ pieces) other each = (rw (other, each.0) refl, each.1)

pieces_plain : (text : List ℕ) → EachPlain (pieces_at 124 text)
pieces_plain [] = (refl, tt)
pieces_plain (b ∷ text) = elim (cases_Bool (b == 124)) [
  | inl here ↦ rw here (refl, pieces_plain text)
  | inr other ↦ rw other (one_more_byte b (pieces_at 124 text) other (pieces_plain text))
]

-- a text without the byte is its only piece
piece_alone : (text : List ℕ) → has_byte 124 text ≡ false → pieces_at 124 text ≡ text ∷ []
piece_alone [] none = refl
piece_alone (b ∷ text) none = elim (cases_Bool (b == 124)) [
  | inl here ↦ absurd (has_it here none)
  | inr other ↦ rw other (ap (onto_first b) (piece_alone text (rest other none)))
] where
  has_it : (b == 124) ≡ true → has_byte 124 (b ∷ text) ≡ false → ⊥
  has_it here none = let h = rw here at none in cc

  rest : (b == 124) ≡ false → has_byte 124 (b ∷ text) ≡ false → has_byte 124 text ≡ false
  rest other none = rw other at none

-- ---- several tests

module _ (names : Names) where
  -- each is told by its text, which has no bar
  abbrev pub EachTold : List CallerTest → Type 0
  EachTold [] = Unit {0}
  EachTold (test ∷ tests) = (IsTold names test × IsPlain names test) × EachTold tests

  abbrev texts : List CallerTest → List (List ℕ)
  texts tests = map (test_text names) tests

  -- they are cut apart again
  cut_apart : (test : CallerTest) (tests : List CallerTest) → EachTold (test ∷ tests)
      → pieces_at 124 (test_text names test ++ more_tests_text names tests) ≡ test_text names test ∷ texts tests
  cut_apart test [] each = ap (pieces_at 124) (append-nil (test_text names test)) ∙ piece_alone (test_text names test) each.0.1
  cut_apart test (next ∷ tests) each =
      cut_some 124 (test_text names test ++ 124 ∷ (test_text names next ++ more_tests_text names tests)) (test_text names test) (test_text names next ++ more_tests_text names tests)
      (sym (cut_behind 124 (test_text names test) (test_text names next ++ more_tests_text names tests) each.0.1))
      ∙ ap (λ (ts : List (List ℕ)). test_text names test ∷ ts) (cut_apart next tests each.1)

  all_back : (tests : List CallerTest) → EachTold tests → all_tests names (texts tests) ≡ Some tests
  all_back [] each = refl
  all_back (test ∷ tests) each = rw (each.0.0.among, all_back tests each.1) refl

  -- there is at least one
  abbrev pub AreTold : List CallerTest → Type 0
  AreTold [] = ⊥
  AreTold (test ∷ tests) = EachTold (test ∷ tests)

  tests_back : (tests : List CallerTest) → AreTold tests → all_tests names (pieces_at 124 (tests_text names tests)) ≡ Some tests
  tests_back [] told = absurd told
  tests_back (test ∷ tests) told = ap (all_tests names) (cut_apart test tests told) ∙ all_back (test ∷ tests) told

  module _ (distinct : AreDistinct names.groups) where
    one_more_told : (test : Option CallerTest) (tests : Option (List CallerTest)) → IfSome test (IsTold names) → IfSome test (IsPlain names) → IfSome tests EachTold
        → IfSome (option_and_then (λ t. option_map (λ rest. t ∷ rest) tests) test) AreTold
    one_more_told None tests told plain each = tt
    one_more_told (Some t) None told plain each = tt
    one_more_told (Some t) (Some ts) told plain each = ((told, plain), each)

    each_of : (tests : Option (List CallerTest)) → IfSome tests AreTold → IfSome tests EachTold
    each_of None told = tt
    each_of (Some []) told = absurd told
    each_of (Some (test ∷ tests)) told = told

    all_told : (pieces : List (List ℕ)) → EachPlain pieces → IfSome (all_tests names pieces) EachTold
    all_told [] plain = tt
    all_told (piece ∷ pieces) plain =
        each_of (all_tests names (piece ∷ pieces))
        (one_more_told (test_of names piece) (all_tests names pieces) (test_back names distinct piece) (test_plain names piece plain.0) (all_told pieces plain.1))

    some_told : (pieces : List (List ℕ)) → EachPlain pieces → (pieces ≡ [] → ⊥) → IfSome (all_tests names pieces) AreTold
    some_told [] plain some = absurd (some refl)
    some_told (piece ∷ pieces) plain some =
        one_more_told (test_of names piece) (all_tests names pieces) (test_back names distinct piece) (test_plain names piece plain.0) (all_told pieces plain.1)

    -- a text has at least one piece
    some_pieces : (mark : ℕ) (text : List ℕ) → pieces_at mark text ≡ [] → ⊥
    some_pieces mark text is = by (cut_at mark text) (sym (pieces_cut mark text) ∙ is) where
      by : (parts : Option (List ℕ × List ℕ)) → pieces_by mark text parts ≡ [] → ⊥
      by None e = cc
      by (Some parts) e = cc

    -- ---- conditions

    abbrev Back : Condition → Type 0
    Back condition = condition_of names (condition_text names condition) ≡ Some condition

    any_back : (tests : Option (List CallerTest)) → IfSome tests AreTold → IfSome (option_map AnyOf tests) Back
    unfolding condition_of condition_text
    any_back None told = tt
    any_back (Some ts) told =
        word_means (named_condition names) (codes "any") (tests_text names ts) refl ∙ ap (option_map AnyOf) (tests_back ts told)

    alone_back : (test : Option CallerTest) → IfSome test (IsTold names) → IfSome (option_map Test test) Back
    unfolding condition_text
    alone_back None told = tt
    alone_back (Some t) told = told.alone

    named_condition_back : (word rest : List ℕ) → IfSome (named_condition names word rest) Back
    named_condition_back word rest = elim (cases_Bool (bytes_eq word (codes "any"))) [
      | inl any ↦ rw any (any_back (all_tests names (pieces_at 124 rest)) (some_told (pieces_at 124 rest) (pieces_plain rest) (some_pieces 124 rest)))
      | inr other ↦ rw other (alone_back (named_test names word rest) (named_back names distinct word rest))
    ]

    read_back : (text : List ℕ) → IfSome (condition_of names text) Back
    unfolding condition_of
    read_back text = elim (cases_Bool (bytes_eq text (codes "assignee"))) [
      | inl assignee ↦ rw assignee (alone_back (Some CallerTest.IsAssignee) (assignee_told names distinct))
      | inr other ↦ elim (cases_Bool (bytes_eq text (codes "reporter"))) [
        | inl reporter ↦ rw (other, reporter) (alone_back (Some CallerTest.IsReporter) (reporter_told names distinct))
        | inr none ↦ rw (other, none) (after_holds (named_condition names) Back text (λ parts is. named_condition_back parts.0 parts.1))
      ]
    ]

    pub condition_back : (text : List ℕ) (condition : Condition) → condition_of names text ≡ Some condition → condition_of names (condition_text names condition) ≡ Some condition
    condition_back text condition is = holds_of Back (condition_of names text) condition (read_back text) is
