-- A part of the issues by rank, each beside its rank.
use Rattle.std.proofs.Common.{◌≡◌, ℕ, zero, suc, ◌<◌, ◌≤◌, List, [], ◌∷◌, length, get_or, map, take, drop, Option, Some, None, refl, sym, ◌∙◌, ap, subst, arith}
use Rattle.std.specs.Prelude.{All}
use Rattle.std.proofs.lemmas.List.{get_or_default, get_or-map, length-map, drop-map}
use Rattle.std.proofs.lemmas.List.Elements.{All-head, All-tail, All-take, All-drop}
use Rattle.field_values.specs.declared.numbers.IssueNo.{IssueNo}
use Rattle.board.specs.Order.{Pair, IsOrder, IsIn, places_before, rank_in}
use Rattle.board.specs.Issues.{issues_in}
use Rattle.board.specs.Table.{nothing, number_at, rank_or_nothing}
use Rattle.board.proofs.Moves.{places_before-number_at}
use Rattle.board.proofs.Tabled.{rank_in-at}
use Rattle.tracker_calls.specs.Part.{part_of}
use Rattle.tracker_calls.specs.declared.call.Part.{Part}
use Rattle.tracker_calls.specs.declared.reply.RankedKey.{RankedKey}
use Rattle.tracker_machine.specs.Machine.{Machine}
use Rattle.tracker_machine.specs.Ranks.{ranked_key}
use Rattle.rank_calls.specs.Beside.{key_beside_rank}

-- each issue of an order stands there
pub all_in : (ps : List Pair) → IsOrder ps → All (λ i. IsIn ps i.0) (issues_in ps)
all_in ps order k d lt =
    let n = length-map ps (λ (p : Pair). p.1) in
    let here : (get_or (issues_in ps) k d).0 ≡ number_at ps k = ap (λ (i : IssueNo). i.0) (get_or-map (λ (p : Pair). p.1) ps k nothing d (omega arith)) in
    let place = places_before-number_at ps k order.once (omega arith) in
    subst (λ i. places_before ps i < length ps) (sym here) (omega arith)

-- those of a part do
pub part_in : (ps : List Pair) (part : Part) → IsOrder ps → All (λ i. IsIn ps i.0) (part_of part (issues_in ps))
part_in ps part order =
    All-take (λ (i : IssueNo). IsIn ps i.0) part.count (drop part.from (issues_in ps)) (All-drop (λ (i : IssueNo). IsIn ps i.0) part.from (issues_in ps) (all_in ps order))

own_rank : (ps : List Pair) → IsOrder ps → All (λ p. rank_in ps p.1.0 ≡ Some p.0) ps
own_rank ps order k d lt =
    subst (λ (p : Pair). rank_in ps p.1.0 ≡ Some p.0) (get_or_default ps k nothing d lt) (rank_in-at ps k order lt)

take-map : {X Y : Type 0} (f : X → Y) (n : ℕ) (xs : List X) → take n (map f xs) ≡ map f (take n xs)
take-map f zero xs = refl
take-map f (suc n) [] = refl
take-map f (suc n) (x ∷ xs) = ap (λ ys. f x ∷ ys) (take-map f n xs)

-- pairs whose issue and rank belong together
module _ (m : Machine) where
  abbrev IsOwn : Pair → Type 0
  IsOwn p = rank_in m.order p.1.0 ≡ Some p.0

  keys : (qs : List Pair) → All (λ p. rank_in m.order p.1.0 ≡ Some p.0) qs → map (key_beside_rank m) (issues_in qs) ≡ map (ranked_key m.histories) qs
  keys [] own = refl
  keys (q ∷ qs) own =
      let one : key_beside_rank m q.1 ≡ ranked_key m.histories q = ap (λ o. ranked_key m.histories (rank_or_nothing o, q.1)) (All-head IsOwn q qs own) in
      ap (λ (k : RankedKey). k ∷ map (key_beside_rank m) (issues_in qs)) one
      ∙ ap (λ (ks : List RankedKey). ranked_key m.histories q ∷ ks) (keys qs (All-tail IsOwn q qs own))

  pub keys_of_part : (part : Part) → IsOrder m.order → map (key_beside_rank m) (part_of part (issues_in m.order)) ≡ map (ranked_key m.histories) (part_of part m.order)
  keys_of_part part order =
      let issue : Pair → IssueNo = λ p. p.1 in
      let cut : part_of part (issues_in m.order) ≡ issues_in (part_of part m.order) = ap (take part.count) (drop-map issue part.from m.order) ∙ take-map issue part.count (drop part.from m.order) in
      ap (map (key_beside_rank m)) cut
      ∙ keys (part_of part m.order) (All-take IsOwn part.count (drop part.from m.order) (All-drop IsOwn part.from m.order (own_rank m.order order)))
