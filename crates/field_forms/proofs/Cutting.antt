-- What `split_once` gives, as the parts of a cut.
use Rattle.std.proofs.Common.{◌≡◌, ◌<◌, ◌==◌, ℕ, List, [], ◌∷◌, length, Option, Some, None, option_map, Bor, arith, rules, ap, sym, ◌∙◌, inl, inr, nat_lt}
use Rattle.std.proofs.lemmas.Bool.{cases_Bool}
use Rattle.std.proofs.lemmas.Grind.{common_steps}
use Rattle.std.specs.Prelude.{MatchOption}
use Rattle.std.specs.List.{position_or_len, before_first, after_first}
use Rattle.field_forms.specs.Cuts.{cut_at, pieces_at}

pub cut_is : (mark : ℕ) (text : List ℕ) (r : Option (Bor (List ℕ) × Bor (List ℕ))) → MatchOption r (position_or_len (λ b. b == mark) text ≡ length text) (λ x. (x.0.now ≡ before_first (λ b. b == mark) text) × (x.1.now ≡ after_first (λ b. b == mark) text) × (position_or_len (λ b. b == mark) text < length text)) → option_map (λ parts. (parts.0.now, parts.1.now)) r ≡ cut_at mark text
cut_is mark text None h = search (rules, h)
cut_is mark text (Some x) h = search (rules, h)

-- the pieces by the first cut
abbrev pub pieces_by : ℕ → List ℕ → Option (List ℕ × List ℕ) → List (List ℕ)
pieces_by mark text None = text ∷ []
pieces_by mark text (Some parts) = parts.0 ∷ pieces_at mark parts.1

pub pieces_cut : (mark : ℕ) (text : List ℕ) → pieces_at mark text ≡ pieces_by mark text (cut_at mark text)
pieces_cut mark [] = search rules
pieces_cut mark (b ∷ text) = elim (cases_Bool (b == mark)) [
  | inl same ↦ grind (arith, common_steps, same)
  | inr other ↦ elim (cases_Bool (nat_lt (position_or_len (λ c. c == mark) text) (length text))) [
    | inl inside ↦ grind (arith, common_steps, other, inside, pieces_cut mark text)
    | inr outside ↦ grind (arith, common_steps, other, outside, pieces_cut mark text)
  ]
]

pub cut_some : (mark : ℕ) (text piece rest : List ℕ) → Some (piece, rest) ≡ cut_at mark text → pieces_at mark text ≡ piece ∷ pieces_at mark rest
cut_some mark text piece rest e = pieces_cut mark text ∙ ap (pieces_by mark text) (sym e)

pub cut_none : (mark : ℕ) (text : List ℕ) → None ≡ cut_at mark text → pieces_at mark text ≡ text ∷ []
cut_none mark text e = pieces_cut mark text ∙ ap (pieces_by mark text) (sym e)
