-- Names that differ in case alone are found by the one of the same letters.
use Rattle.std.proofs.Common.{◌≡◌, ℕ, zero, suc, ◌+◌, ◌<◌, List, [], ◌∷◌, length, get_or, drop, Bool, true, false, ◌||◌, Option, Some, None, refl, sym, subst, ◌∙◌, inl, inr}
use Rattle.std.specs.Prelude.{if◌then◌else◌}
use Rattle.std.specs.List.{list_any}
use Rattle.std.specs.Str.{bytes_eq, str_eq_ignore_ascii_case, str_to_ascii_lowercase}
use Rattle.std.proofs.lemmas.List.{drop_more}
use Rattle.std.proofs.lemmas.Bool.{cases_Bool}
use Rattle.std.proofs.lemmas.Slice.Eq.{bytes_eq-Decides}
use Rattle.tracker_calls.specs.declared.given.GivenField.{GivenField}
use Rattle.tracker_calls.specs.Given.{is_twin, has_twins}
use Rattle.tracker_calls.specs.Seen.{is_other}

-- the first of some names of the same letters as a name
abbrev pub same_name : List GivenField → List ℕ → Option (List ℕ)
same_name [] name = None
same_name (f ∷ fs) name = if str_eq_ignore_ascii_case f.name name then Some f.name else same_name fs name

true_twice : (a b : Bool) → (a ≡ true → b ≡ true) → (b ≡ true → a ≡ true) → a ≡ b
true_twice true b there back = sym (there refl)
true_twice false true there back = back refl
true_twice false false there back = refl

pub bytes_eq_flips : (xs ys : List ℕ) → bytes_eq xs ys ≡ bytes_eq ys xs
bytes_eq_flips xs ys =
    true_twice (bytes_eq xs ys) (bytes_eq ys xs)
    (λ e. (bytes_eq-Decides ys xs).1 (sym ((bytes_eq-Decides xs ys).0 e)))
    (λ e. (bytes_eq-Decides xs ys).1 (sym ((bytes_eq-Decides ys xs).0 e)))

first_false : (a b : Bool) → (a || b) ≡ false → (a ≡ false) × (b ≡ false)
first_false true b e = cc
first_false false b e = (refl, e)

-- where none of these are twins, a name has one among them just where the one of its letters is another
pub twin_told : (name : List ℕ) (fs : List GivenField) → has_twins fs ≡ false → list_any (λ other. is_twin name other.name) fs ≡ is_other (same_name fs name) name
twin_told name [] none = refl
twin_told name (g ∷ gs) none =
    let apart = first_false (list_any (λ other. is_twin g.name other.name) gs) (has_twins gs) none in
    elim (cases_Bool (str_eq_ignore_ascii_case name g.name)) [
      | inl same ↦ at_same (bytes_eq name g.name) refl same apart.0
      | inr other ↦ rw (sym (bytes_eq_flips (str_to_ascii_lowercase name) (str_to_ascii_lowercase g.name)) ∙ other, other) (twin_told name gs apart.1)
    ] where
      at_same : (b : Bool) → bytes_eq name g.name ≡ b → str_eq_ignore_ascii_case name g.name ≡ true → list_any (λ other. is_twin g.name other.name) gs ≡ false
          → list_any (λ other. is_twin name other.name) (g ∷ gs) ≡ is_other (same_name (g ∷ gs) name) name
      at_same true is same alone =
          let equal : name ≡ g.name = (bytes_eq-Decides name g.name).0 is in
          rw (sym (bytes_eq_flips (str_to_ascii_lowercase name) (str_to_ascii_lowercase g.name)) ∙ same, same, is)
          (subst (λ n. list_any (λ other. is_twin n other.name) gs ≡ false) (sym equal) alone)
      at_same false is same alone =
          rw (sym (bytes_eq_flips (str_to_ascii_lowercase name) (str_to_ascii_lowercase g.name)) ∙ same, same, is) refl

-- twins among the last are twins among all
twins_behind : (fs : List GivenField) (n : ℕ) → has_twins (drop n fs) ≡ true → has_twins fs ≡ true
twins_behind fs zero found = found
twins_behind [] (suc n) found = found
twins_behind (f ∷ fs) (suc n) found = rw (twins_behind fs n found) (true_last (list_any (λ other. is_twin f.name other.name) fs)) where
  true_last : (b : Bool) → (b || true) ≡ true
  true_last true = refl
  true_last false = refl

module _ (fs : List GivenField) (place here : ℕ) (f : GivenField) (next : here + 1 ≡ place) (inside : here < length fs) (is : f ≡ get_or fs here f) where
  splits : drop here fs ≡ f ∷ drop place fs
  splits =
      subst (λ n. drop here fs ≡ f ∷ drop n fs) next
      (subst (λ (g : GivenField). drop here fs ≡ g ∷ drop (here + 1) fs) (sym is) (drop_more fs here f inside))

  -- the name and the last of its letters are twins
  pub twins_found : has_twins (drop place fs) ≡ false → is_other (same_name (drop place fs) f.name) f.name ≡ true → has_twins fs ≡ true
  twins_found none other = twins_behind fs here (rw (splits, twin_told f.name (drop place fs) none ∙ other) refl)

  -- with the name there are still none
  pub none_more : has_twins (drop place fs) ≡ false → is_other (same_name (drop place fs) f.name) f.name ≡ false → has_twins (drop here fs) ≡ false
  none_more none other = rw (splits, twin_told f.name (drop place fs) none ∙ other) none

  -- and it is the one of its letters
  pub same_more : (name : List ℕ) → same_name (drop here fs) name ≡ (if str_eq_ignore_ascii_case f.name name then Some f.name else same_name (drop place fs) name)
  same_more name = rw splits refl
