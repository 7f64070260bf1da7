-- One more name beside those that were seen.
use Rattle.std.proofs.Common.{◌≡◌, ℕ, ◌+◌, ◌<◌, List, [], ◌∷◌, ◌++◌, length, get_or, take, drop, Bool, true, false, ◌||◌, Some, refl, sym, subst, ◌∙◌, ap}
use Rattle.std.proofs.lemmas.List.{take_more, drop_more}
use Rattle.std.proofs.lemmas.List.Folds.{list_any-append}
use Rattle.std.specs.Str.{str_eq_ignore_ascii_case}
use Rattle.field_forms.specs.Names.{is_among, first_double}

or_either : (a b : Bool) → (a || (b || false)) ≡ (b || a)
or_either true true = refl
or_either true false = refl
or_either false true = refl
or_either false false = refl

module _ (names : List (List ℕ)) (i : ℕ) (name : List ℕ) (inside : i < length names) (is : name ≡ get_or names i name) where
  splits : drop i names ≡ name ∷ drop (i + 1) names
  splits = subst (λ (n : List ℕ). drop i names ≡ n ∷ drop (i + 1) names) (sym is) (drop_more names i name inside)

  grows : take (i + 1) names ≡ take i names ++ name ∷ []
  grows = subst (λ (n : List ℕ). take (i + 1) names ≡ take i names ++ n ∷ []) (sym is) (take_more names i name inside)

  -- a name that was seen is the first double
  pub double_here : is_among (take i names) name ≡ true → first_double (take i names) (drop i names) ≡ Some name
  double_here seen = rw splits (rw seen refl)

  -- behind a new name the first double is as before
  pub no_double_here : is_among (take i names) name ≡ false → first_double (take i names) (drop i names) ≡ first_double (take (i + 1) names) (drop (i + 1) names)
  no_double_here new = rw (splits, grows) (rw new refl)

  -- and it is among those that are seen now
  pub seen_more : (other : List ℕ) → is_among (take (i + 1) names) other ≡ (str_eq_ignore_ascii_case name other || is_among (take i names) other)
  seen_more other =
      ap (λ (ns : List (List ℕ)). is_among ns other) grows
      ∙ (list_any-append (λ (n : List ℕ). str_eq_ignore_ascii_case n other) (take i names) (name ∷ [])
      ∙ or_either (is_among (take i names) other) (str_eq_ignore_ascii_case name other))
