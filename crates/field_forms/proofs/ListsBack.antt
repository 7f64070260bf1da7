-- Sets and labels are read back from the lists of texts that tell them.
use Rattle.std.proofs.Common.{◌≡◌, ℕ, suc, ◌+◌, ◌<◌, ◌≤◌, ◌==◌, List, [], ◌∷◌, ◌++◌, length, get_or, Bool, true, false, ◌&&◌, nat_lt, nat_le, Option, Some, None, option_and_then, refl, arith, sym, subst, ap, ◌∙◌, inl, inr, append_assoc}
use Rattle.std.specs.List.{list_all, list_any, slice_get}
use Rattle.std.specs.Option.{option_map_or}
use Rattle.std.specs.Str.{bytes_eq, str_eq_ignore_ascii_case, str_to_ascii_lowercase}
use Rattle.std.specs.Ordering.{nat_cmp}
use Rattle.std.specs.declared.cmp.Ordering.{Ordering}
use Rattle.std.specs.declared.cmp.Ordering.TheVariants.{Less, Equal, Greater}
use Rattle.std.specs.Cmp.Lexicographic.{slice_cmp, nat_list_cmp_total}
use Rattle.std.proofs.lemmas.List.{append-nil}
use Rattle.std.proofs.lemmas.Bool.{cases_Bool, and_parts}
use Rattle.std.proofs.lemmas.Bool.Decides.{nat_tests}
use Rattle.std.proofs.lemmas.Map.Text.{is_eq-slice_cmp}
use Rattle.std.proofs.lemmas.Option.{slice_get-get_or}
use Rattle.std.proofs.lemmas.List.Folds.{list_any_at}
use Rattle.std.proofs.lemmas.Slice.Eq.{bytes_eq-Decides}
use Rattle.field_values.specs.declared.numbers.ChoiceNo.{ChoiceNo}
use Rattle.field_values.specs.declared.value.Value.{Value}
use Rattle.field_values.specs.declared.value.Value.TheVariants.{Empty, Text as TextValue, Number as NumberValue, Choice as ChoiceValue, User as UserValue, Date as DateValue, Set as SetValue, Labels as LabelsValue, Sprint as SprintValue}
use Rattle.field_forms.specs.declared.form.Form.{Form}
use Rattle.field_forms.specs.declared.form.Form.TheVariants.{Line, Prose, Number, Points, Choice, User, Set, Labels, Date, Sprint}
use Rattle.field_forms.specs.Names.{AreDistinct, is_among, is_from_to}
use Rattle.field_forms.specs.Values.{is_label, is_before, with_label, with_labels, is_label_list, chosen, is_set, is_of_form, listed_in}
use Rattle.field_forms.specs.Known.{Names, form_of, choices_of, listed_value_of, fits_form, fits}
use Rattle.field_forms.specs.ValueTexts.{chosen_names}
use Rattle.field_forms.specs.ReadBack.{IsListOf}
use Rattle.field_forms.proofs.Fits.{starts_at}
use Rattle.field_forms.proofs.Labels.{placed, put_is}
use Rattle.field_forms.proofs.RoundTrip.{same_name}

-- ---- sets

apart_both_ways : (one other : List ℕ) → str_eq_ignore_ascii_case one other ≡ false → str_eq_ignore_ascii_case other one ≡ false
apart_both_ways one other apart = elim (cases_Bool (str_eq_ignore_ascii_case other one)) [
  | inl same ↦
      let turned : str_eq_ignore_ascii_case one other ≡ true = (bytes_eq-Decides (str_to_ascii_lowercase one) (str_to_ascii_lowercase other)).1 (sym ((bytes_eq-Decides (str_to_ascii_lowercase other) (str_to_ascii_lowercase one)).0 same)) in
      absurd (cc)
  | inr other ↦ other
]

-- of distinct names, two are the same just where their places are
same_place : (names : List (List ℕ)) (k i : ℕ) → AreDistinct names → k < length names → i < length names → str_eq_ignore_ascii_case (get_or names k []) (get_or names i []) ≡ (k == i)
same_place names k i distinct k_in i_in = elim (cases_Bool (nat_lt k i)) [
  | inl before ↦
      let less : k < i = grind (arith, before) in
      let apart : str_eq_ignore_ascii_case (get_or names k []) (get_or names i []) ≡ false = distinct k i [] less i_in in
      let other : (k == i) ≡ false = grind (arith, nat_tests, less) in
      rw (apart, other) refl
  | inr not_before ↦ elim (cases_Bool (nat_lt i k)) [
    | inl after ↦
        let less : i < k = grind (arith, after) in
        let apart : str_eq_ignore_ascii_case (get_or names k []) (get_or names i []) ≡ false = apart_both_ways (get_or names i []) (get_or names k []) (distinct i k [] less k_in) in
        let other : (k == i) ≡ false = grind (arith, nat_tests, less) in
        rw (apart, other) refl
    | inr neither ↦
        let same : k ≡ i = grind (arith, not_before, neither) in
        let test : (i == i) ≡ true = grind (arith, nat_tests) in
        rw same (rw (same_name (get_or names i []), test) refl)
  ]
]

-- each choice is one of so many
are_inside : ℕ → List ChoiceNo → Bool
are_inside count choices = list_all (λ choice. nat_lt choice.0 count) choices

rising_inside : (count : ℕ) (choices : List ChoiceNo) → is_set count choices ≡ true → are_inside count choices ≡ true
unfolding are_inside
rising_inside count [] h = refl
rising_inside count (choice ∷ []) h = grind (arith, h)
rising_inside count (choice ∷ next ∷ choices) h =
    let parts = and_parts (nat_lt choice.0 next.0) (is_set count (next ∷ choices)) h in
    let rest : are_inside count (next ∷ choices) ≡ true = rising_inside count (next ∷ choices) parts.1 in
    grind (arith, parts.0, rest)

module _ (names : List (List ℕ)) (distinct : AreDistinct names) where
  -- a name is among those of the choices just where its place is one of them
  among_chosen : (i : ℕ) (choices : List ChoiceNo) → i < length names → are_inside (length names) choices ≡ true → is_among (chosen_names names choices) (get_or names i []) ≡ list_any (λ choice. choice.0 == i) choices
  unfolding are_inside
  among_chosen i [] inside all = refl
  among_chosen i (choice ∷ choices) inside all =
      let parts = and_parts (nat_lt choice.0 (length names)) (are_inside (length names) choices) all in
      let here : choice.0 < length names = grind (arith, parts.0) in
      let got : slice_get names choice.0 ≡ Some (get_or names choice.0 []) = slice_get-get_or names choice.0 [] here in
      let rest : is_among (chosen_names names choices) (get_or names i []) ≡ list_any (λ c. c.0 == i) choices = among_chosen i choices inside parts.1 in
      let first : str_eq_ignore_ascii_case (get_or names choice.0 []) (get_or names i []) ≡ (choice.0 == i) = same_place names choice.0 i distinct here inside in
      rw got (rw (first, rest) refl)

  -- the name of each choice is one of the names
  all_known : (choices : List ChoiceNo) → are_inside (length names) choices ≡ true → list_all (is_among names) (chosen_names names choices) ≡ true
  unfolding are_inside
  all_known [] all = refl
  all_known (choice ∷ choices) all =
      let parts = and_parts (nat_lt choice.0 (length names)) (are_inside (length names) choices) all in
      let here : choice.0 < length names = grind (arith, parts.0) in
      let got : slice_get names choice.0 ≡ Some (get_or names choice.0 []) = slice_get-get_or names choice.0 [] here in
      let known : is_among names (get_or names choice.0 []) ≡ true = list_any_at (λ other. str_eq_ignore_ascii_case other (get_or names choice.0 [])) names choice.0 [] here (same_name (get_or names choice.0 [])) in
      let rest : list_all (is_among names) (chosen_names names choices) ≡ true = all_known choices parts.1 in
      rw got (rw (known, rest) refl)

-- choices from the next place on have none at the place
none_before : (count place : ℕ) (choices : List ChoiceNo) → is_set count choices ≡ true → starts_at (place + 1) choices ≡ true → list_any (λ choice. choice.0 == place) choices ≡ false
unfolding starts_at
none_before count place [] rising start = refl
none_before count place (choice ∷ []) rising start = grind (arith, nat_tests, start)
none_before count place (choice ∷ next ∷ choices) rising start =
    let parts = and_parts (nat_lt choice.0 next.0) (is_set count (next ∷ choices)) rising in
    let rest : list_any (λ c. c.0 == place) (next ∷ choices) ≡ false = none_before count place (next ∷ choices) parts.1 (grind (arith, parts.0, start)) in
    let first : (choice.0 == place) ≡ false = grind (arith, nat_tests, start) in
    rw (first, rest) refl

first_inside : (count : ℕ) (choice : ChoiceNo) (choices : List ChoiceNo) → is_set count (choice ∷ choices) ≡ true → choice.0 < count
unfolding are_inside
first_inside count choice choices rising =
    let inside : are_inside count (choice ∷ choices) ≡ true = rising_inside count (choice ∷ choices) rising in
    let parts = and_parts (nat_lt choice.0 count) (are_inside count choices) inside in
    grind (arith, parts.0)

rest_rises : (count : ℕ) (choice : ChoiceNo) (choices : List ChoiceNo) → is_set count (choice ∷ choices) ≡ true → is_set count choices ≡ true
rest_rises count choice [] rising = refl
rest_rises count choice (next ∷ choices) rising = (and_parts (nat_lt choice.0 next.0) (is_set count (next ∷ choices)) rising).1

rest_starts : (count : ℕ) (choice : ChoiceNo) (choices : List ChoiceNo) → is_set count (choice ∷ choices) ≡ true → starts_at (choice.0 + 1) choices ≡ true
unfolding starts_at
rest_starts count choice [] rising = refl
rest_starts count choice (next ∷ choices) rising =
    let parts = and_parts (nat_lt choice.0 next.0) (is_set count (next ∷ choices)) rising in
    grind (arith, parts.0)

-- the choices are chosen by texts among which is just the name at each of their places
chosen_back : (count place : ℕ) (names texts : List (List ℕ)) (choices : List ChoiceNo) → place + length names ≡ count → is_set count choices ≡ true → starts_at place choices ≡ true → ((i : ℕ) → i < length names → is_among texts (get_or names i []) ≡ list_any (λ choice. choice.0 == place + i) choices) → chosen place names texts ≡ choices
unfolding starts_at
chosen_back count place [] texts [] sum rising start asks = refl
chosen_back count place [] texts (choice ∷ choices) sum rising start asks =
    let inside : choice.0 < count = first_inside count choice choices rising in
    let from : place ≤ choice.0 = grind (arith, start) in
    absurd (omega (arith, inside, from, sum))
chosen_back count place (name ∷ names) texts [] sum rising start asks =
    let other : is_among texts name ≡ false = asks 0 (omega arith) in
    rw other (chosen_back count (place + 1) names texts [] (omega arith) rising refl (λ i inside. asks (suc i) (omega arith)))
chosen_back count place (name ∷ names) texts (choice ∷ choices) sum rising start asks =
    let here : place + 0 ≡ place = omega arith in
    let asked : is_among texts name ≡ list_any (λ c. c.0 == place) (choice ∷ choices) = asks 0 (omega arith) ∙ ap (λ k. list_any (λ (c : ChoiceNo). c.0 == k) (choice ∷ choices)) here in
    elim (cases_Bool (choice.0 == place)) [
      | inl is ↦
          let same : choice.0 ≡ place = grind (arith, nat_tests, is) in
          let named : is_among texts name ≡ true = rw is at asked in
          let later : starts_at (place + 1) choices ≡ true = subst (λ (k : ℕ). starts_at (k + 1) choices ≡ true) same (rest_starts count choice choices rising) in
          let rest : chosen (place + 1) names texts ≡ choices =
          chosen_back count (place + 1) names texts choices (omega arith) (rest_rises count choice choices rising) later (λ i inside.
          let next : place + suc i ≡ place + 1 + i = omega arith in
          let passed : (choice.0 == place + 1 + i) ≡ false = grind (arith, nat_tests, same) in
          asks (suc i) (omega arith) ∙ ap (λ k. list_any (λ (c : ChoiceNo). c.0 == k) (choice ∷ choices)) next ∙ rw passed refl) in
          rw named (rw rest (ap (λ (k : ℕ). let c : ChoiceNo = record { 0 = k } in c ∷ choices) (sym same)))
      | inr is_not ↦
          let later : starts_at (place + 1) (choice ∷ choices) ≡ true = grind (arith, nat_tests, is_not, start) in
          let other : is_among texts name ≡ false = asked ∙ none_before count place (choice ∷ choices) rising later in
          rw other (chosen_back count (place + 1) names texts (choice ∷ choices) (omega arith) rising later (λ i inside.
          let next : place + suc i ≡ place + 1 + i = omega arith in
          asks (suc i) (omega arith) ∙ ap (λ k. list_any (λ (c : ChoiceNo). c.0 == k) (choice ∷ choices)) next))
    ]

pub set_back : (names : List (List ℕ)) (choices : List ChoiceNo) → AreDistinct names → is_set (length names) choices ≡ true → chosen 0 names (chosen_names names choices) ≡ choices
unfolding starts_at
set_back names choices distinct rising =
    chosen_back (length names) 0 names (chosen_names names choices) choices (omega arith) rising (from_zero choices) (λ i inside.
    let none : 0 + i ≡ i = omega arith in
    rw none (among_chosen names distinct i choices inside (rising_inside (length names) choices rising)))
  where
    from_zero : (cs : List ChoiceNo) → starts_at 0 cs ≡ true
    from_zero [] = refl
    from_zero (c ∷ cs) = grind arith

-- ---- labels

-- each stands before the label
are_before : List (List ℕ) → List ℕ → Bool
are_before labels label = list_all (λ other. is_before other label) labels

before_less : (one other : List ℕ) → is_before one other ≡ true → slice_cmp nat_cmp one other ≡ Less
before_less one other before = by_order (slice_cmp nat_cmp one other) refl where
  by_order : (r : Ordering) → slice_cmp nat_cmp one other ≡ r → slice_cmp nat_cmp one other ≡ Less
  by_order Less e = e
  by_order Equal e = absurd (grind (arith, e, before))
  by_order Greater e = absurd (grind (arith, e, before))

before_next : (one other next : List ℕ) → is_before one other ≡ true → is_before other next ≡ true → is_before one next ≡ true
before_next one other next first second =
    let less : slice_cmp nat_cmp one next ≡ Less = nat_list_cmp_total.trans one other next (before_less one other first) (before_less other next second) in
    grind (arith, less)

before_apart : (one other : List ℕ) → is_before one other ≡ true → bytes_eq one other ≡ false
before_apart one other before =
    let less = before_less one other before in
    grind (arith, less, is_eq-slice_cmp one other)

all_before_next : (labels : List (List ℕ)) (label next : List ℕ) → are_before labels label ≡ true → is_before label next ≡ true → are_before (labels ++ label ∷ []) next ≡ true
unfolding are_before
all_before_next [] label next all before = rw before refl
all_before_next (first ∷ labels) label next all before =
    let parts = and_parts (is_before first label) (are_before labels label) all in
    let one : is_before first next ≡ true = before_next first label next parts.0 before in
    let rest : are_before (labels ++ label ∷ []) next ≡ true = all_before_next labels label next parts.1 before in
    rw (one, rest) refl

-- a label after all others is put behind them
placed_last : (labels : List (List ℕ)) (label : List ℕ) → are_before labels label ≡ true → placed labels label ≡ labels ++ label ∷ []
unfolding are_before placed
placed_last [] label all = refl
placed_last (first ∷ labels) label all =
    let parts = and_parts (is_before first label) (are_before labels label) all in
    rw parts.0 (ap (λ (ls : List (List ℕ)). first ∷ ls) (placed_last labels label parts.1))

not_there : (labels : List (List ℕ)) (label : List ℕ) → are_before labels label ≡ true → list_any (λ other. bytes_eq other label) labels ≡ false
unfolding are_before
not_there [] label all = refl
not_there (first ∷ labels) label all =
    let parts = and_parts (is_before first label) (are_before labels label) all in
    rw (before_apart first label parts.0, not_there labels label parts.1) refl

put_last : (labels : List (List ℕ)) (label : List ℕ) → are_before labels label ≡ true → with_label labels label ≡ labels ++ label ∷ []
put_last labels label all = rw (not_there labels label all, put_is labels label) (placed_last labels label all)

-- each of these stands before the first of those
stand_before : List (List ℕ) → List (List ℕ) → Bool
stand_before labels [] = true
stand_before labels (first ∷ more) = are_before labels first

all_back : (labels more : List (List ℕ)) → is_label_list more ≡ true → stand_before labels more ≡ true → with_labels labels more ≡ labels ++ more
unfolding stand_before
all_back labels [] ordered before = sym (append-nil labels)
all_back labels (one ∷ []) ordered before = put_last labels one before
all_back labels (one ∷ next ∷ more) ordered before =
    let parts = and_parts (is_label one && is_before one next) (is_label_list (next ∷ more)) ordered in
    let one_parts = and_parts (is_label one) (is_before one next) parts.0 in
    rw (put_last labels one before) (all_back (labels ++ one ∷ []) (next ∷ more) parts.1 (all_before_next labels one next before one_parts.1) ∙ append_assoc labels (one ∷ []) (next ∷ more))

pub labels_back : (labels : List (List ℕ)) → is_label_list labels ≡ true → with_labels [] labels ≡ labels
unfolding stand_before are_before
labels_back [] ordered = refl
labels_back (label ∷ labels) ordered = all_back [] (label ∷ labels) ordered refl

each_formed : (labels : List (List ℕ)) → is_label_list labels ≡ true → list_all is_label labels ≡ true
each_formed [] ordered = refl
each_formed (label ∷ []) ordered = rw ordered refl
each_formed (label ∷ next ∷ labels) ordered =
    let parts = and_parts (is_label label && is_before label next) (is_label_list (next ∷ labels)) ordered in
    let one = and_parts (is_label label) (is_before label next) parts.0 in
    rw (one.0, each_formed (next ∷ labels) parts.1) refl

-- ---- values in fields

set_listed : (form : Form) (names texts : List (List ℕ)) (choices : List ChoiceNo) → AreDistinct names → is_of_form form names (SetValue choices) ≡ true → texts ≡ chosen_names names choices → listed_in form names texts ≡ Some (SetValue choices)
set_listed Set names texts [] distinct fit is = absurd (cc)
set_listed Set names texts (choice ∷ choices) distinct fit is =
    let rising : is_set (length names) (choice ∷ choices) ≡ true = (and_parts (nat_lt 0 (length (choice ∷ choices))) (is_set (length names) (choice ∷ choices)) fit).1 in
    rw is (rw (all_known names distinct (choice ∷ choices) (rising_inside (length names) (choice ∷ choices) rising), set_back names (choice ∷ choices) distinct rising) refl)
set_listed (Line n) names texts choices distinct fit is = absurd (cc)
set_listed (Prose n) names texts choices distinct fit is = absurd (cc)
set_listed Number names texts choices distinct fit is = absurd (cc)
set_listed Points names texts choices distinct fit is = absurd (cc)
set_listed Choice names texts choices distinct fit is = absurd (cc)
set_listed User names texts choices distinct fit is = absurd (cc)
set_listed Labels names texts choices distinct fit is = absurd (cc)
set_listed Date names texts choices distinct fit is = absurd (cc)
set_listed Sprint names texts choices distinct fit is = absurd (cc)

labels_listed : (form : Form) (names texts labels : List (List ℕ)) → is_of_form form names (LabelsValue labels) ≡ true → texts ≡ labels → listed_in form names texts ≡ Some (LabelsValue labels)
labels_listed Labels names texts [] fit is = absurd (cc)
labels_listed Labels names texts (label ∷ labels) fit is =
    let parts = and_parts (is_from_to 1 16 (length (label ∷ labels))) (is_label_list (label ∷ labels)) fit in
    let few : nat_le (length (label ∷ labels)) 16 ≡ true = (and_parts (nat_le 1 (length (label ∷ labels))) (nat_le (length (label ∷ labels)) 16) parts.0).1 in
    rw is (rw (few, each_formed (label ∷ labels) parts.1, labels_back (label ∷ labels) parts.1) refl)
labels_listed (Line n) names texts labels fit is = absurd (cc)
labels_listed (Prose n) names texts labels fit is = absurd (cc)
labels_listed Number names texts labels fit is = absurd (cc)
labels_listed Points names texts labels fit is = absurd (cc)
labels_listed Choice names texts labels fit is = absurd (cc)
labels_listed User names texts labels fit is = absurd (cc)
labels_listed Set names texts labels fit is = absurd (cc)
labels_listed Date names texts labels fit is = absurd (cc)
labels_listed Sprint names texts labels fit is = absurd (cc)

form_listed : (n : ℕ) (form : Form) (names : List (List ℕ)) (value : Value) (texts : List (List ℕ)) → AreDistinct names → fits_form n names value form ≡ true → IsListOf names value texts → listed_in form names texts ≡ Some value
form_listed n form names (SetValue choices) texts distinct fit is = set_listed form names texts choices distinct fit is
form_listed n form names (LabelsValue labels) texts distinct fit is = labels_listed form names texts labels fit is
form_listed n form names Empty texts distinct fit is = absurd is
form_listed n form names (TextValue t) texts distinct fit is = absurd is
form_listed n form names (NumberValue z) texts distinct fit is = absurd is
form_listed n form names (ChoiceValue c) texts distinct fit is = absurd is
form_listed n form names (UserValue u) texts distinct fit is = absurd is
form_listed n form names (DateValue d) texts distinct fit is = absurd is
form_listed n form names (SprintValue s) texts distinct fit is = absurd is

pub listed_back : (names : Names) (n : ℕ) (value : Value) (texts : List (List ℕ)) → AreDistinct (choices_of names n) → fits names n value ≡ true → IsListOf (choices_of names n) value texts → listed_value_of names n texts ≡ Some value
unfolding fits listed_value_of
listed_back names n value texts distinct fit is = by_form (form_of names.fields n) refl fit where
  by_form : (form : Option Form) → form_of names.fields n ≡ form → option_map_or (fits_form n (choices_of names n) value) form false ≡ true → option_and_then (λ f. listed_in f (choices_of names n) texts) (form_of names.fields n) ≡ Some value
  by_form None f h = absurd (cc)
  by_form (Some form) f h = rw f (form_listed n form (choices_of names n) value texts distinct h is)
