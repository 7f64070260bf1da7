-- Labels that are put in their places stay in the order of their bytes.
use Rattle.std.proofs.Common.{◌≡◌, ℕ, suc, ◌+◌, ◌≤◌, List, [], ◌∷◌, length, true, false, not, insert, if◌then◌else◌, refl, ap, ◌∙◌, inl, inr, arith}
use Rattle.std.specs.List.{list_all, list_any, position_or_len}
use Rattle.std.specs.declared.cmp.Ordering.{Ordering}
use Rattle.std.specs.Ordering.{nat_cmp, ordering_reverse}
use Rattle.std.specs.declared.cmp.Ordering.TheVariants.{Less, Equal, Greater}
use Rattle.std.specs.Cmp.Lexicographic.{slice_cmp, nat_list_cmp_total}
use Rattle.std.specs.Str.{bytes_eq}
use Rattle.std.proofs.lemmas.Bool.{cases_Bool, and_parts}
use Rattle.std.proofs.lemmas.Grind.{common_steps}
use Rattle.std.proofs.lemmas.Map.Text.{is_eq-slice_cmp}
use Rattle.field_forms.specs.Values.{is_label, is_before, place_for, with_label, with_labels, is_label_list}

-- of two labels that aren't the same, one is before the other
pub other_way : (one other : List ℕ) → is_before one other ≡ false → bytes_eq one other ≡ false → is_before other one ≡ true
other_way one other later apart = by_order (slice_cmp nat_cmp one other) refl where
  by_order : (r : Ordering) → slice_cmp nat_cmp one other ≡ r → is_before other one ≡ true
  by_order Less e = absurd (grind (arith, e, later))
  by_order Equal e = absurd (grind (arith, e, apart, is_eq-slice_cmp one other))
  by_order Greater e =
      let turned : slice_cmp nat_cmp other one ≡ ordering_reverse (slice_cmp nat_cmp one other) = nat_list_cmp_total.antisymm other one in
      grind (arith, e, turned)

-- a label in its place among labels
unfoldable pub placed : List (List ℕ) → List ℕ → List (List ℕ)
placed [] label = label ∷ []
placed (first ∷ labels) label =
    if is_before first label then first ∷ placed labels label else label ∷ first ∷ labels

insert_after : (first label : List ℕ) (labels : List (List ℕ)) (k : ℕ) → insert (first ∷ labels) (1 + k) label ≡ first ∷ insert labels k label
insert_after first label labels k = let next : 1 + k ≡ suc k = omega arith in rw next refl

at_first : (labels : List (List ℕ)) (label : List ℕ) → insert labels (position_or_len (λ other. not (is_before other label)) labels) label ≡ placed labels label
unfolding placed
at_first [] label = refl
at_first (first ∷ labels) label = elim (cases_Bool (is_before first label)) [
  | inl before ↦ rw before (insert_after first label labels (position_or_len (λ other. not (is_before other label)) labels) ∙ ap (λ (ls : List (List ℕ)). first ∷ ls) (at_first labels label))
  | inr after ↦ rw after refl
]

not_past : (labels : List (List ℕ)) (label : List ℕ) → position_or_len (λ other. not (is_before other label)) labels ≤ length labels
not_past [] label = omega arith
not_past (first ∷ labels) label = elim (cases_Bool (is_before first label)) [
  | inl before ↦ grind (arith, common_steps, before, not_past labels label)
  | inr after ↦ grind (arith, common_steps, after)
]

place_is : (labels : List (List ℕ)) (label : List ℕ) → place_for labels label ≡ position_or_len (λ other. not (is_before other label)) labels
place_is labels label = grind (arith, common_steps, not_past labels label)

pub put_is : (labels : List (List ℕ)) (label : List ℕ) → insert labels (place_for labels label) label ≡ placed labels label
put_is labels label = ap (λ place. insert labels place label) (place_is labels label) ∙ at_first labels label

-- a label after the first one stays in order among those that follow
put_after : (first label : List ℕ) (labels : List (List ℕ)) → is_before first label ≡ true → is_label label ≡ true → list_any (λ other. bytes_eq other label) labels ≡ false → is_label_list (first ∷ labels) ≡ true → is_label_list (first ∷ placed labels label) ≡ true
unfolding placed
put_after first label [] before formed new all = grind (arith, before, formed, all)
put_after first label (next ∷ labels) before formed new all =
    elim (cases_Bool (is_before next label)) [
      | inl earlier ↦
          let rest : is_label_list (next ∷ placed labels label) ≡ true = put_after next label labels earlier formed (grind (arith, new)) (grind (arith, all)) in
          grind (arith, earlier, rest, all)
      | inr later ↦
          let turned : is_before label next ≡ true = other_way next label later (grind (arith, new)) in
          grind (arith, later, turned, before, formed, all)
    ]

-- labels with one more in its place
put_in_order : (labels : List (List ℕ)) (label : List ℕ) → is_label label ≡ true → list_any (λ other. bytes_eq other label) labels ≡ false → is_label_list labels ≡ true → is_label_list (placed labels label) ≡ true
unfolding placed
put_in_order [] label formed new all = grind (arith, formed)
put_in_order (first ∷ labels) label formed new all =
    elim (cases_Bool (is_before first label)) [
      | inl before ↦
          let rest : is_label_list (first ∷ placed labels label) ≡ true = put_after first label labels before formed (grind (arith, new)) all in
          grind (arith, before, rest)
      | inr later ↦
          let turned : is_before label first ≡ true = other_way first label later (grind (arith, new)) in
          grind (arith, later, turned, formed, all)
    ]

-- one more label keeps the order, and makes the list longer by one at most
pub record IsOneMore (labels more : List (List ℕ)) : Type 0 where
  pub ordered : is_label_list more ≡ true
  pub short : length more ≤ length labels + 1

placed_length : (labels : List (List ℕ)) (label : List ℕ) → length (placed labels label) ≡ length labels + 1
unfolding placed
placed_length [] label = refl
placed_length (first ∷ labels) label = elim (cases_Bool (is_before first label)) [
  | inl before ↦ grind (arith, before, placed_length labels label)
  | inr after ↦ grind (arith, after)
]

one_more : (labels : List (List ℕ)) (label : List ℕ) → is_label label ≡ true → is_label_list labels ≡ true → IsOneMore labels (with_label labels label)
one_more labels label formed all = elim (cases_Bool (list_any (λ other. bytes_eq other label) labels)) [
  | inl there ↦ record { ordered = rw there all; short = rw there (omega arith) }
  | inr new ↦ record {
    ordered = rw (new, put_is labels label) (put_in_order labels label formed new all);
    short = rw (new, put_is labels label, placed_length labels label) (omega arith);
  }
]

pub all_in_order : (labels texts : List (List ℕ)) → list_all is_label texts ≡ true → is_label_list labels ≡ true → is_label_list (with_labels labels texts) ≡ true
all_in_order labels [] formed all = all
all_in_order labels (text ∷ texts) formed all =
    let parts = and_parts (is_label text) (list_all is_label texts) formed in
    all_in_order (with_label labels text) texts parts.1 ((one_more labels text parts.0 all).ordered)

pub all_short : (labels texts : List (List ℕ)) → list_all is_label texts ≡ true → is_label_list labels ≡ true → length (with_labels labels texts) ≤ length labels + length texts
all_short labels [] formed all = omega arith
all_short labels (text ∷ texts) formed all =
    let parts = and_parts (is_label text) (list_all is_label texts) formed in
    let one = one_more labels text parts.0 all in
    let rest : length (with_labels (with_label labels text) texts) ≤ length (with_label labels text) + length texts = all_short (with_label labels text) texts parts.1 one.ordered in
    omega (arith, one.short)
